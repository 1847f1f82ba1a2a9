use Rattle.validate_topology.proofs.HoleLines.{node_told}
use Rattle.validate_topology.proofs.place_lines.node_line.Goals as goal

pub returns : goal.returns
returns g c = λ above tells.
    let n = c.args.row.now in
    node_told above n n.containing_face c.in-Some.own c.face_above-face.result c.differ-wrong.result c.args.report.now c.push_if.new.self c.in-Some.is (tells n.geom c.face_above-face.result c.face_above-face.ensures) c.differ-wrong.ensures c.in_ok-push_if.ensures

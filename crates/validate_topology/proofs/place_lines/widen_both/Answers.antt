use Rattle.std.proofs.Common.{◌∙◌, ◌==◌, if◌then◌else◌, map, sym}
use Rattle.topo_base.specs.declared.rows.FaceRow.{FaceRow}
use Rattle.validate_topology.specs.BoxLines.{box_of_all}
use Rattle.validate_topology.proofs.LeastBoxes.{one_side, two_sides}
use Rattle.validate_topology.proofs.place_lines.widen_both.Goals as goal

pub returns-then-left-right-clause-widened : goal.returns-then-left-right-clause-widened
returns-then-left-right-clause-widened c least e =
    let a = c.args.left in
    let b = c.args.right in
    let same = sym c.left.view_is ∙ c.if-left-right.true ∙ c.right.view_is in
    c.widen.ensures.widened least e ∙ (λ i. map (λ (f : FaceRow). one_side least c.args.points.now a b f.face_id same i) c.args.faces.now)

pub returns-clause-widened : goal.returns-clause-widened
returns-clause-widened c least e =
    let a = c.args.left in
    let b = c.args.right in
    let points = c.args.points.now in
    c.widen-2.ensures.widened (λ n. if n == a then box_of_all (least a) points else least n) (c.widen.ensures.widened least e)
    ∙ (λ i. map (λ (f : FaceRow). two_sides least points a b f.face_id (λ same. c.if-left-right.false (c.left.view_is ∙ same ∙ sym c.right.view_is)) i) c.args.faces.now)

use Rattle.std.proofs.Common.{◌∙◌, if◌then◌else◌, map}
use Rattle.topo_base.specs.declared.rows.FaceRow.{FaceRow}
use Rattle.drawing.specs.Tables.{drawn_edge, has_side}
use Rattle.validate_topology.specs.BoxLines.{box_of_all}
use Rattle.validate_topology.proofs.place_lines.widen_sides.Goals as goal

pub returns-clause-widened : goal.returns-clause-widened
returns-clause-widened c least e =
    c.widen_both.ensures.widened least e
    ∙ (λ i. map (λ (f : FaceRow). if has_side f.face_id (drawn_edge c.args.row.now) then box_of_all (least f.face_id) (c.vertices-points.ensures.vertices i) else least f.face_id) c.args.faces.now)

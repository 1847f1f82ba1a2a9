use Rattle.std.proofs.Common.{◌≡◌, ◌∙◌, ◌++◌, ◌∷◌, List, ap, map, subst}
use Rattle.topo_base.specs.declared.rows.EdgeRow.{EdgeRow}
use Rattle.drawing.specs.Tables.{drawn_edge, universal_face}
use Rattle.validate_topology.specs.BoxLines.{least_of, wrong_boxes}
use Rattle.validate_topology.proofs.Staging.{parts_put}
use Rattle.validate_topology.proofs.place_lines.place_lines.Goals as goal

pub returns : goal.returns
returns g c = λ above tells.
    parts_put c.args.report.now _ _ _ _ _ _ (c.in_ok-holes_elsewhere.ensures above tells) (c.in_ok-nodes_elsewhere.ensures above tells)
    (subst (λ (es : List EdgeRow). c.face_boxes_wrong.new.report ≡ c.nodes_elsewhere.new.report ++ wrong_boxes (least_of (map drawn_edge es)) (universal_face ∷ c.args.faces.now)) c.rows-listed.ensures.rows c.in_ok-face_boxes_wrong.ensures)

use Rattle.std.proofs.Common.{◌++◌, ◌∙◌, List, ap, map, sym}
use Rattle.topo_base.specs.declared.rows.FaceRow.{FaceRow}
use Rattle.drawing.specs.Tables.{drawn_edge}
use Rattle.validate_topology.specs.BoxLines.{box_beside, wrong_boxes}
use Rattle.validate_topology.specs.declared.lines.ReportLine.{ReportLine}
use Rattle.validate_topology.proofs.LeastBoxes.{with_universal}
use Rattle.validate_topology.proofs.place_lines.face_boxes_wrong.Goals as goal

pub returns : goal.returns
returns c =
    let least = box_beside (map drawn_edge c.args.edges.now) in
    let values = λ (rows : List FaceRow). map (λ (f : FaceRow). least f.face_id) rows in
    c.in_ok-boxes_wrong.ensures least (c.deref.ensures.value ∙ c.in_ok-boxes.ensures.boxes ∙ ap values (sym c.rows.ensures.rows))
    ∙ (λ i. c.args.report.now ++ wrong_boxes least (c.rows.ensures.rows i))
    ∙ ap (λ (lines : List ReportLine). c.args.report.now ++ lines) (with_universal 0 (map drawn_edge c.args.edges.now) c.args.faces.now c.rows.ensures.ascend)

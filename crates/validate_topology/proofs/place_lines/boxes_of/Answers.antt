use Rattle.std.proofs.Common.{[], ◌∙◌, ap, length, map, take}
use Rattle.topo_base.specs.declared.rows.FaceRow.{FaceRow}
use Rattle.drawing.specs.Tables.{drawn_edge}
use Rattle.validate_topology.specs.BoxLines.{box_beside}
use Rattle.validate_topology.proofs.LeastBoxes.{row_more}
use Rattle.validate_topology.proofs.place_lines.boxes_of.Goals as goal

pub loop-row-init : goal.loop-row-init
loop-row-init c =
    let is = c.rows.ensures.rows in
    record {
      len = c.in_ok-boxes.ensures.len ∙ ap length is;
      boxes = c.in_ok-boxes.ensures.none ∙ ap (map (λ (f : FaceRow). box_beside [] f.face_id)) is;
    }

pub loop-row-preserved : goal.loop-row-preserved
loop-row-preserved c =
    let edges = c.args.edges.now in
    let i = c.loop-row.row-index in
    record {
      len = c.widen_sides.ensures.len ∙ c.loop-row.invariant.len;
      boxes = c.widen_sides.ensures.widened (box_beside (map drawn_edge (take i edges))) c.loop-row.invariant.boxes
          ∙ (λ j. map (λ (f : FaceRow). row_more edges i c.row-item.result f.face_id c.loop-row-test.true c.row-item.is j) c.args.faces.now);
    }

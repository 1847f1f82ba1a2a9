use Rattle.std.proofs.Common.{◌≡◌, length, map, take, vec_len}
use Rattle.topo_base.specs.declared.rows.FaceRow.{FaceRow}
use Rattle.drawing.specs.Tables.{drawn_edge}
use Rattle.validate_topology.specs.BoxLines.{box_beside}
use Rattle.validate_topology.proofs.place_lines.boxes_of.Given as goal

abbrev pub invariant-loop-row : goal.invariant-loop-row
invariant-loop-row l = record {
  len : vec_len l.boxes ≡ length l.faces;
  boxes : l.boxes.items ≡ map (λ (f : FaceRow). box_beside (map drawn_edge (take l.row-index l.edges)) f.face_id) l.faces;
}

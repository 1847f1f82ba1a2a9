use Rattle.std.proofs.Common.{◌≡◌, [], map, take, vec_len}
use Rattle.topo_base.specs.declared.rows.FaceRow.{FaceRow}
use Rattle.validate_topology.specs.BoxLines.{box_beside}
use Rattle.validate_topology.proofs.place_lines.no_boxes.Given as goal

abbrev pub invariant-loop-row : goal.invariant-loop-row
invariant-loop-row l = record {
  len : vec_len l.boxes ≡ l._row-index;
  none : l.boxes.items ≡ map (λ (f : FaceRow). box_beside [] f.face_id) (take l._row-index l.faces);
}

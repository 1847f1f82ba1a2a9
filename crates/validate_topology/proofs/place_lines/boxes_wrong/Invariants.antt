use Rattle.std.proofs.Common.{◌≡◌, ◌++◌, ℕ, Option, map, take}
use Rattle.topo_base.specs.declared.rows.Box4.{Box4}
use Rattle.topo_base.specs.declared.rows.FaceRow.{FaceRow}
use Rattle.validate_topology.specs.BoxLines.{wrong_boxes}
use Rattle.validate_topology.proofs.place_lines.boxes_wrong.Given as goal

abbrev pub invariant-loop-index : goal.invariant-loop-index
invariant-loop-index l = (least : ℕ → Option Box4) → l.boxes ≡ map (λ (f : FaceRow). least f.face_id) l.faces → l.report ≡ l.fn.report ++ wrong_boxes least (take l.index l.faces)

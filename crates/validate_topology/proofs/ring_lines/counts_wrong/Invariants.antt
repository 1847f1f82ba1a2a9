use Rattle.std.proofs.Common.{◌≡◌, ◌++◌, ◌∷◌, ℕ, map, take}
use Rattle.topo_base.specs.declared.rows.FaceRow.{FaceRow}
use Rattle.drawing.specs.Tables.{universal_face}
use Rattle.validate_topology.specs.RingLines.{counts_wrong}
use Rattle.validate_topology.specs.declared.ring_lines.Tally.{Tally}
use Rattle.validate_topology.proofs.ring_lines.counts_wrong.Given as goal

abbrev pub invariant-loop-index : goal.invariant-loop-index
invariant-loop-index l =
    (count : ℕ → ℕ) → map (λ (t : Tally). t.count) l.tallies ≡ map (λ (f : FaceRow). count f.face_id) (universal_face ∷ l.faces)
    → l.report ≡ l.fn.report ++ counts_wrong count (universal_face ∷ take l.index l.faces)

-- How many rings with a face beside them were counted for each face.
use Rattle.std.specs.Prelude.{◌≡◌, ℕ, ◌+◌, ◌==◌, nat_lt, List, ◌∷◌, map, min, if◌then◌else◌}
use Rattle.std.specs.List.{list_any}
use Rattle.topo_base.specs.declared.rows.FaceRow.{FaceRow}
use Rattle.drawing.specs.HalfEdge.{HalfEdge}
use Rattle.drawing.specs.Tables.{universal_face}
use Rattle.validate_topology.specs.declared.ring_lines.Tally.{Tally}

-- by face: face 0, and the listed ones
abbrev pub AreTallies : (ℕ → Tally) → List FaceRow → List Tally → Type 0
AreTallies tally faces tallies = tallies ≡ map (λ (f : FaceRow). tally f.face_id) (universal_face ∷ faces)

-- the ring of this number is counted, unless it was
abbrev pub counted : ℕ → Tally → Tally
counted ring t = if nat_lt ring t.until then t else record { count = min (t.count + 1) 18446744073709551615; until = ring + 1 }

-- it is counted for one face; and for each that is beside it
abbrev pub with_face : ℕ → ℕ → (ℕ → Tally) → ℕ → Tally
with_face ring face tally f = if f == face then counted ring (tally face) else tally f

abbrev pub with_ring : ℕ → List HalfEdge → (ℕ → Tally) → ℕ → Tally
with_ring ring hs tally f = if list_any (λ (h : HalfEdge). h.on_left == f) hs then counted ring (tally f) else tally f

-- The edge that a point lies on.
use Rattle.std.specs.Prelude.{◌≡◌, ℕ, ◌≤◌, Bool, false, ◌&&◌, nat_lt, IsTrue, List, Option, Some, None, Contains, if◌then◌else◌}
use Rattle.topo_base.specs.Point.{Point}
use Rattle.plane.specs.Segment.{on_segment}
use Rattle.slab_index.specs.Above.{segment_of}
use Rattle.slab_index.specs.declared.piece.Piece.{Piece}

-- n is the least edge with a segment on which p lies
pub record IsLeastOn (p : Point) (pieces : List Piece) (n : ℕ) : Type 0 where
  pub one : Piece
  pub kept : Contains pieces one
  pub own : one.edge ≡ n
  pub on : IsTrue (on_segment p (segment_of one))
  pub least : (f : Piece) → Contains pieces f → IsTrue (on_segment p (segment_of f)) → n ≤ f.edge

-- the least edge on which p lies, or none
abbrev pub IsEdgeOn : Point → List Piece → Option ℕ → Type 0
IsEdgeOn p pieces None = (e : Piece) → Contains pieces e → on_segment p (segment_of e) ≡ false
IsEdgeOn p pieces (Some n) = IsLeastOn p pieces n

-- the lesser one of what was found and the edge of one segment more, if p lies on this
abbrev pub is_found_less : Point → Option ℕ → Piece → Bool
is_found_less p None e = on_segment p (segment_of e)
is_found_less p (Some n) e = on_segment p (segment_of e) && nat_lt e.edge n

abbrev pub with_less : Point → Option ℕ → Piece → Option ℕ
with_less p found e = if is_found_less p found e then Some e.edge else found

-- Closed walks along segments: the top vertex, and whether a walk is a hole.
use Rattle.std.specs.Prelude.{◌≡◌, ℕ, ◌<◌, Bool, false, ◌&&◌, ◌||◌, IsTrue, List, [], ◌∷◌, ◌++◌, length, fold, zip, int_lt, if◌then◌else◌}
use Rattle.std.specs.List.{list_any, slice_index_or}
use Rattle.std.specs.Ordering.{int_eq}
use Rattle.topo_base.specs.Point.{Point, same_point}
use Rattle.plane.specs.Segment.{Segment}
use Rattle.plane.specs.Line.{segments_of, no_point}
use Rattle.plane.specs.Direction.{direction_to, straight_up, in_wedge}

-- the segments of a closed walk through these vertices: from each to the next, and from the last back to the first
abbrev pub closed_segments : List Point → List Segment
closed_segments [] = []
closed_segments (p ∷ ps) = segments_of (p ∷ ps ++ p ∷ [])

-- the top vertex of a closed walk: the highest, and of equals the one farthest to the right
abbrev pub is_higher : Point → Point → Bool
is_higher p q = int_lt q.y p.y || int_eq p.y q.y && int_lt q.x p.x

abbrev pub point_at : List Point → ℕ → Point
point_at vertices i = slice_index_or vertices i no_point

abbrev pub higher_of : Point → Segment → Point
higher_of p s = if is_higher s.a p then s.a else p

abbrev pub top_of : List Segment → Point
top_of [] = no_point
top_of (s ∷ ss) = fold higher_of s.a ss

-- the first place in the list where the top vertex stands
pub record IsTopVertex (vertices : List Point) (i : ℕ) : Type 0 where
  pub within : i < length vertices
  pub top : point_at vertices i ≡ top_of (closed_segments vertices)
  pub highest : (k : ℕ) → k < length vertices → is_higher (point_at vertices k) (point_at vertices i) ≡ false
  pub first : (k : ℕ) → k < i → IsTrue (is_higher (point_at vertices i) (point_at vertices k))

-- each segment with the one walked after it
abbrev pub turns : List Segment → List (Segment × Segment)
turns [] = []
turns (s ∷ ss) = zip (s ∷ ss) (ss ++ s ∷ [])

-- straight up is in the wedge on the left of the turn, at this vertex
abbrev pub turns_below : Point → Segment × Segment → Bool
turns_below top (s, t) = same_point s.b top && in_wedge (direction_to s.b s.a) (direction_to t.a t.b) straight_up

-- a closed walk along these segments has on its left what is straight above its top vertex
abbrev pub is_hole_walk : List Segment → Bool
is_hole_walk segments = list_any (turns_below (top_of segments)) (turns segments)

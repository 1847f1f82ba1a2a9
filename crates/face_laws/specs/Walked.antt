-- The segments of a drawing's edges, each walked both ways, and labels of them.
use Rattle.std.specs.Prelude.{ℕ, Bool, cond, ◌&&◌, List, [], ◌∷◌, flat_map}
use Rattle.std.specs.List.{list_any}
use Rattle.topo_base.specs.Point.{same_point}
use Rattle.plane.specs.Segment.{Segment}
use Rattle.plane.specs.Line.{segments_of}
use Rattle.drawing.specs.Drawing.{Drawing}
use Rattle.drawing.specs.HalfEdge.{HalfEdge, half_edges}

-- the steps of a half-edge, and those of all
abbrev pub steps_along : HalfEdge → List Segment
steps_along h = segments_of h.points

abbrev pub steps_of : Drawing → List Segment
steps_of S = flat_map steps_along (half_edges S)

-- one step, in one direction
abbrev pub same_step : Segment → Segment → Bool
same_step s t = same_point s.a t.a && same_point s.b t.b

-- the step is one of the half-edge's
abbrev pub has_step : Segment → HalfEdge → Bool
has_step s h = list_any (same_step s) (steps_along h)

-- the face on the left of the first half-edge that has the step
abbrev pub face_on_left : List HalfEdge → Segment → ℕ
face_on_left [] s = 0
face_on_left (h ∷ hs) s = cond (has_step s h) h.on_left (face_on_left hs s)

-- one of these half-edges has the step
abbrev pub is_of : List HalfEdge → Segment → Bool
is_of hs s = list_any (has_step s) hs

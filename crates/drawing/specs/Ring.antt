-- A ring: half-edges, each of which is next after the one before, until the first comes back.
use Rattle.std.specs.Prelude.{ℕ, zero, suc, Bool, not, List, [], ◌∷◌, length, fold, flat_map, if◌then◌else◌}
use Rattle.std.specs.List.{list_any}
use Rattle.topo_base.specs.Point.{Point}
use Rattle.plane.specs.Segment.{Segment}
use Rattle.plane.specs.Line.{segments_of, first_vertex, no_point}
use Rattle.drawing.specs.HalfEdge.{HalfEdge, same_half_edge, comes_before}
use Rattle.drawing.specs.Star.{next_of}
use Rattle.plane.specs.ClosedWalk.{is_hole_walk}

-- the half-edges from h on, at most this many more, until the first is next
abbrev pub walk : List HalfEdge → HalfEdge → ℕ → HalfEdge → List HalfEdge
walk hs first zero h = h ∷ []
walk hs first (suc more) h =
    let on = next_of hs h in let rest = walk hs first more on in if same_half_edge on first then h ∷ [] else h ∷ rest

-- the ring of h among these half-edges
abbrev pub ring_of : List HalfEdge → HalfEdge → List HalfEdge
ring_of hs h = walk hs h (length hs) h

abbrev pub contains_half_edge : List HalfEdge → HalfEdge → Bool
contains_half_edge ring h = list_any (same_half_edge h) ring

-- its segments as they are walked
abbrev pub ring_segments : List HalfEdge → List Segment
ring_segments ring = flat_map (λ (h : HalfEdge). segments_of h.points) ring

-- the first of its half-edges, by edge and forward before backward, and the vertex from which that leaves
abbrev pub earlier_of : HalfEdge → HalfEdge → HalfEdge
earlier_of h k = if comes_before k h then k else h

abbrev pub least_vertex : List HalfEdge → Point
least_vertex [] = no_point
least_vertex (h ∷ hs) = first_vertex ((fold earlier_of h hs).points)

-- a ring is a hole where what is straight above its top vertex is on its left, and else a shell
abbrev pub is_hole : List HalfEdge → Bool
is_hole ring = is_hole_walk (ring_segments ring)

abbrev pub is_shell : List HalfEdge → Bool
is_shell ring = not (is_hole ring)

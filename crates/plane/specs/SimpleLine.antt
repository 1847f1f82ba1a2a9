-- A simple line: it meets itself at the vertices between neighbouring segments alone.
use Rattle.std.specs.Prelude.{◌≡◌, ℕ, ◌+◌, ◌<◌, ◌⊎◌, List, length, Some, slice_get}
use Rattle.topo_base.specs.RationalPoint.{RationalPoint, IsAt}
use Rattle.plane.specs.Segment.{Segment}
use Rattle.plane.specs.RationalTests.{IsOn}

-- q is the vertex between the segments i and j, which are neighbours, or closes the line where these are the first and the last
abbrev pub IsVertexBetween : List Segment → ℕ → ℕ → Segment → Segment → RationalPoint → Type 0
IsVertexBetween segments i j s t q = ((j ≡ i + 1) × IsAt s.b q) ⊎ ((i ≡ 0) × (j + 1 ≡ length segments) × IsAt s.a q × IsAt t.b q)

-- a point on two segments of a line is such a vertex
abbrev pub IsSimpleLine : List Segment → Type 0
IsSimpleLine segments =
    (i j : ℕ) (s t : Segment) (q : RationalPoint) → i < j → slice_get segments i ≡ Some s → slice_get segments j ≡ Some t → IsOn q s → IsOn q t
    → IsVertexBetween segments i j s t q

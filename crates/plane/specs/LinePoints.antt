-- What lines are and have in common, as sentences on rational points.
use Rattle.std.specs.Prelude.{◌⊎◌, Bool, List, All}
use Rattle.std.specs.List.{list_all}
use Rattle.topo_base.specs.Point.{Point}
use Rattle.topo_base.specs.RationalPoint.{RationalPoint, IsAt}
use Rattle.topo_base.specs.declared.meeting.Meeting.{Meeting}
use Rattle.topo_base.specs.declared.meeting.Meeting.TheVariants.{Apart, AtEnds, Inside}
use Rattle.plane.specs.Line.{segments_of, first_vertex, last_vertex, is_proper}
use Rattle.plane.specs.RationalTests.{IsOnLine}
use Rattle.plane.specs.Relation.{IsProper}
use Rattle.plane.specs.SimpleLine.{IsSimpleLine}

-- neighbouring vertices differ
abbrev pub has_proper_segments : List Point → Bool
has_proper_segments line = list_all is_proper (segments_of line)

-- neighbouring vertices differ, and a point on two segments is the vertex between these or closes the line
abbrev pub IsPlainLine : List Point → Type 0
IsPlainLine line = All IsProper (segments_of line) × IsSimpleLine (segments_of line)

-- q is the first vertex or the last
abbrev pub IsAtLineEnd : RationalPoint → List Point → Type 0
IsAtLineEnd q line = IsAt (first_vertex line) q ⊎ IsAt (last_vertex line) q

-- q lies on both lines; q is an end of both
abbrev pub IsOnBoth : RationalPoint → List Point → List Point → Type 0
IsOnBoth q a b = IsOnLine q a × IsOnLine q b

abbrev pub IsAtBothEnds : RationalPoint → List Point → List Point → Type 0
IsAtBothEnds q a b = IsAtLineEnd q a × IsAtLineEnd q b

-- no point is common; some are, and each of them is an end; one is that isn't
abbrev pub MeetsAs : Meeting → (RationalPoint → Type 0) → (RationalPoint → Type 0) → Type 0
MeetsAs Apart common end = (q : RationalPoint) → common q → ⊥
MeetsAs AtEnds common end = ((q : RationalPoint) × common q) × ((q : RationalPoint) → common q → end q)
MeetsAs Inside common end = (q : RationalPoint) × (common q × (end q → ⊥))

-- how two lines meet
abbrev pub Meets : Meeting → List Point → List Point → Type 0
Meets m a b = MeetsAs m (λ q. IsOnBoth q a b) (λ q. IsAtBothEnds q a b)

-- q lies on the line, and is neither its first vertex nor its last
abbrev pub IsInsideLine : RationalPoint → List Point → Type 0
IsInsideLine q line = IsOnLine q line × (IsAt (first_vertex line) q → ⊥) × (IsAt (last_vertex line) q → ⊥)

-- each point that lies on both lines is the first vertex of the one, or its last
abbrev pub MeetsAtOwnEnds : List Point → List Point → Type 0
MeetsAtOwnEnds line other = (q : RationalPoint) → IsOnLine q line → IsOnLine q other → IsAt (first_vertex line) q ⊎ IsAt (last_vertex line) q

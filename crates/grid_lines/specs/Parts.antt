-- How parts of two lines meet, and what follows for the whole.
use Rattle.std.specs.Prelude.{Bool, ◌&&◌, ◌||◌, List, Contains}
use Rattle.topo_base.specs.Point.{Point}
use Rattle.topo_base.specs.RationalPoint.{RationalPoint}
use Rattle.topo_base.specs.declared.meeting.Meeting.{Meeting}
use Rattle.topo_base.specs.declared.meeting.Meeting.TheVariants.{Apart, AtEnds, Inside}
use Rattle.plane.specs.Segment.{Segment, shares}
use Rattle.plane.specs.Line.{first_vertex, last_vertex, is_line_end}
use Rattle.plane.specs.LinePoints.{IsAtBothEnds, MeetsAs}
use Rattle.plane.specs.RationalTests.{IsOn}

-- q lies on one of these segments; on one of each
abbrev pub IsOnSome : RationalPoint → List Segment → Type 0
IsOnSome q segments = (s : Segment) × (Contains segments s × IsOn q s)

abbrev pub IsOnBothParts : RationalPoint → List Segment → List Segment → Type 0
IsOnBothParts q S T = IsOnSome q S × IsOnSome q T

-- how the parts S of a and T of b meet, where the ends are those of a and b
abbrev pub PartsMeet : Meeting → List Point → List Point → List Segment → List Segment → Type 0
PartsMeet m a b S T = MeetsAs m (λ q. IsOnBothParts q S T) (λ q. IsAtBothEnds q a b)

-- how a whole meets where its two parts meet so
abbrev pub combined : Meeting → Meeting → Meeting
combined Apart m = m
combined Inside m = Inside
combined AtEnds Apart = AtEnds
combined AtEnds AtEnds = AtEnds
combined AtEnds Inside = Inside

-- p is an end of the line and lies on both segments
abbrev pub is_common_end : Point → List Point → Segment → Segment → Bool
is_common_end p line s t = is_line_end p line && shares p s t

-- an end of both lines lies on both segments
abbrev pub share_line_end : List Point → List Point → Segment → Segment → Bool
share_line_end a b s t = is_common_end (first_vertex a) b s t || is_common_end (last_vertex a) b s t

-- What two segments have in common, as sentences on rational points.
use Rattle.std.specs.Prelude.{◌≡◌, ◌≢◌, ℤ, pos, ◌<ℤ◌, ◌≤ℤ◌, ◌⊎◌}
use Rattle.std.specs.Int.{int_min, int_max}
use Rattle.topo_base.specs.Point.{Point}
use Rattle.topo_base.specs.RationalPoint.{RationalPoint, rational, IsAt, SamePoint}
use Rattle.topo_base.specs.declared.relation.Relation.{Relation}
use Rattle.topo_base.specs.declared.relation.Relation.TheVariants.{Apart, TouchEnds, Meet, Overlap}
use Rattle.topo_base.specs.declared.relation.Side.{Side}
use Rattle.topo_base.specs.declared.relation.Side.TheVariants.{Left, On, Right}
use Rattle.plane.specs.Orientation.{area}
use Rattle.plane.specs.Segment.{Segment}
use Rattle.plane.specs.Direction.{cross, direction_to}
use Rattle.plane.specs.RationalTests.{IsOn}

-- the two ends differ
abbrev pub IsProper : Segment → Type 0
IsProper s = s.a.x ≡ s.b.x → s.a.y ≢ s.b.y

-- q is one of the ends of s
abbrev pub IsEnd : RationalPoint → Segment → Type 0
IsEnd q s = IsAt s.a q ⊎ IsAt s.b q

-- q lies on both
abbrev pub IsShared : Segment → Segment → RationalPoint → Type 0
IsShared s t q = IsOn q s × IsOn q t

-- q is the only common point
abbrev pub IsOnlyShared : Segment → Segment → RationalPoint → Type 0
IsOnlyShared s t q = IsShared s t q × ((p : RationalPoint) → IsShared s t p → SamePoint p q)

-- no point lies on both
abbrev pub AreApart : Segment → Segment → Type 0
AreApart s t = (q : RationalPoint) → IsShared s t q → ⊥

-- some point lies on both
abbrev pub HaveOne : Segment → Segment → Type 0
HaveOne s t = (q : RationalPoint) × IsShared s t q

-- p lies on both, and no other point does
abbrev pub MeetAt : Point → Segment → Segment → Type 0
MeetAt p s t = IsShared s t (rational p) × ((q : RationalPoint) → IsShared s t q → IsAt p q)

-- each common point is p or r
abbrev pub MeetOnlyAt : Point → Point → Segment → Segment → Type 0
MeetOnlyAt p r s t = (q : RationalPoint) → IsShared s t q → IsAt p q ⊎ IsAt r q

-- one common point that is an end of both; one that is not; more than one
abbrev pub TouchAtEnds : Segment → Segment → Type 0
TouchAtEnds s t = (q : RationalPoint) × (IsOnlyShared s t q × IsEnd q s × IsEnd q t)

abbrev pub MeetOnce : Segment → Segment → Type 0
MeetOnce s t = (q : RationalPoint) × (IsOnlyShared s t q × (IsEnd q s → IsEnd q t → ⊥))

abbrev pub HaveMore : Segment → Segment → Type 0
HaveMore s t = (p : RationalPoint) × ((q : RationalPoint) × (IsShared s t p × IsShared s t q × (SamePoint p q → ⊥)))

-- what a relation says of the points that lie on both
abbrev pub Relates : Relation → Segment → Segment → Type 0
Relates Apart s t = AreApart s t
Relates TouchEnds s t = TouchAtEnds s t
Relates Meet s t = MeetOnce s t
Relates Overlap s t = HaveMore s t

-- the same for two intervals of numbers, from a to b and from c to d
abbrev pub Facing : Relation → ℤ → ℤ → ℤ → ℤ → Type 0
Facing Apart a b c d = (b <ℤ c) ⊎ (d <ℤ a)
Facing TouchEnds a b c d = (b ≡ c) ⊎ (d ≡ a)
Facing Meet a b c d = ⊥
Facing Overlap a b c d = (c <ℤ b) × (a <ℤ d)

-- the same where a and b, and c and d, come in any order
abbrev pub Faces : Relation → ℤ → ℤ → ℤ → ℤ → Type 0
Faces r a b c d = Facing r (int_min a b) (int_max a b) (int_min c d) (int_max c d)

-- u and v are not strictly on one side of 0
abbrev pub AreOpposite : ℤ → ℤ → Type 0
AreOpposite u v = ((u ≤ℤ pos 0) × (pos 0 ≤ℤ v)) ⊎ ((pos 0 ≤ℤ u) × (v ≤ℤ pos 0))

-- each segment reaches from one closed side of the other to the other side
abbrev pub ReachAcross : Segment → Segment → Type 0
ReachAcross s t = AreOpposite (area t.a t.b s.a) (area t.a t.b s.b) × AreOpposite (area s.a s.b t.a) (area s.a s.b t.b)

-- the cross product of the directions: 0 where they are parallel
abbrev pub turn : Segment → Segment → ℤ
turn s t = cross (direction_to s.a s.b) (direction_to t.a t.b)

-- all four ends are on the straight line of the other segment
pub record AreInLine (s t : Segment) : Type 0 where
  pub sa : area t.a t.b s.a ≡ pos 0
  pub sb : area t.a t.b s.b ≡ pos 0
  pub ta : area s.a s.b t.a ≡ pos 0
  pub tb : area s.a s.b t.b ≡ pos 0

-- p and r are one point
abbrev pub SameCoordinates : Point → Point → Type 0
SameCoordinates p r = (p.x ≡ r.x) × (p.y ≡ r.y)

-- p is one of the ends of s
abbrev pub IsEndPoint : Point → Segment → Type 0
IsEndPoint p s = SameCoordinates p s.a ⊎ SameCoordinates p s.b

-- what a side says of twice the signed area of a segment's ends and a point
abbrev pub IsSide : Side → ℤ → Type 0
IsSide Left z = pos 0 <ℤ z
IsSide On z = z ≡ pos 0
IsSide Right z = z <ℤ pos 0

-- Where a rational point lies to a segment and a line.
use Rattle.std.specs.Prelude.{◌≡◌, ℤ, pos, ◌-ℤ◌, ◌*ℤ◌, ◌<ℤ◌, int_lt, int_le, Bool, false, ◌&&◌, ◌||◌, List, [], ◌∷◌, Contains}
use Rattle.topo_base.specs.Point.{Point}
use Rattle.topo_base.specs.RationalPoint.{RationalPoint, IsBetween}
use Rattle.plane.specs.Segment.{Segment}
use Rattle.plane.specs.Line.{segments_of}
use Rattle.plane.specs.Parity.{xor}

-- q.d times twice the signed area of a b q
abbrev pub area_at : Point → Point → RationalPoint → ℤ
area_at a b q = (b.x -ℤ a.x) *ℤ (q.y -ℤ a.y *ℤ q.d) -ℤ (b.y -ℤ a.y) *ℤ (q.x -ℤ a.x *ℤ q.d)

-- q lies on the closed segment
pub record IsOn (q : RationalPoint) (s : Segment) : Type 0 where
  pub straight : area_at s.a s.b q ≡ pos 0
  pub across : IsBetween (s.a.x *ℤ q.d) q.x (s.b.x *ℤ q.d)
  pub upward : IsBetween (s.a.y *ℤ q.d) q.y (s.b.y *ℤ q.d)

-- q lies strictly to the left of the straight line of the segment, or strictly to the right
abbrev pub IsLeftOf : RationalPoint → Segment → Type 0
IsLeftOf q s = pos 0 <ℤ area_at s.a s.b q

abbrev pub IsRightOf : RationalPoint → Segment → Type 0
IsRightOf q s = area_at s.a s.b q <ℤ pos 0

-- q lies on the line
abbrev pub IsOnLine : RationalPoint → List Point → Type 0
IsOnLine q line = (s : Segment) × (Contains (segments_of line) s × IsOn q s)

-- r lies on the straight way from q to m, the two included
pub record IsOnWay (r q m : RationalPoint) : Type 0 where
  pub straight : (m.x *ℤ q.d -ℤ q.x *ℤ m.d) *ℤ (r.y *ℤ q.d -ℤ q.y *ℤ r.d) ≡ (m.y *ℤ q.d -ℤ q.y *ℤ m.d) *ℤ (r.x *ℤ q.d -ℤ q.x *ℤ r.d)
  pub across : IsBetween (q.x *ℤ (r.d *ℤ m.d)) (r.x *ℤ (q.d *ℤ m.d)) (m.x *ℤ (q.d *ℤ r.d))
  pub upward : IsBetween (q.y *ℤ (r.d *ℤ m.d)) (r.y *ℤ (q.d *ℤ m.d)) (m.y *ℤ (q.d *ℤ r.d))

-- the tests of crossings straight above, at a rational point
abbrev pub passes_above_at : Point → Point → RationalPoint → Bool
passes_above_at a b q = int_le (a.x *ℤ q.d) q.x && int_lt q.x (b.x *ℤ q.d) && int_lt (area_at a b q) (pos 0)

abbrev pub is_over_at : RationalPoint → Segment → Bool
is_over_at q s = passes_above_at s.a s.b q || passes_above_at s.b s.a q

abbrev pub is_odd_over_at : RationalPoint → List Segment → Bool
is_odd_over_at q [] = false
is_odd_over_at q (s ∷ ss) = xor (is_over_at q s) (is_odd_over_at q ss)

-- Crossings straight above a point, in the form that the lemmas on parity take.
use Rattle.std.specs.Prelude.{ℤ, pos, ◌*ℤ◌, int_lt, Bool, false, not, ◌&&◌, List, [], ◌∷◌}
use Rattle.topo_base.specs.Point.{Point}
use Rattle.topo_base.specs.RationalPoint.{RationalPoint}
use Rattle.plane.specs.Orientation.{area}
use Rattle.plane.specs.Segment.{Segment}
use Rattle.plane.specs.RationalTests.{IsOn, area_at}
use Rattle.plane.specs.Parity.{xor}

-- s, from left to right, is strictly above q, or begins there
abbrev pub over : Segment → Point → Bool
over s q = not (int_lt q.x s.a.x) && int_lt q.x s.b.x && int_lt (area s.a s.b q) (pos 0)

-- v is strictly above the way t from left to right, the start excepted
abbrev pub passed : Segment → Point → Bool
passed t v = int_lt t.a.x v.x && not (int_lt t.b.x v.x) && int_lt (pos 0) (area t.a t.b v)

abbrev pub back : Segment → Segment
back s = record { a = s.b; b = s.a }

-- s is above q, or begins there on the left
abbrev pub crosses : Segment → Point → Bool
crosses s q = xor (over s q) (over (back s) q)

-- whether an odd number of the ways from v through ws are above q
abbrev pub odd_crossings : Point → List Point → Point → Bool
odd_crossings v [] q = false
odd_crossings v (w ∷ ws) q = xor (crosses (record { a = v; b = w }) q) (odd_crossings w ws q)

-- the last point of the chain
abbrev pub last_of : Point → List Point → Point
last_of v [] = v
last_of v (w ∷ ws) = last_of w ws

-- ---- the same at a rational point
abbrev pub over_at : Segment → RationalPoint → Bool
over_at s q = not (int_lt q.x (s.a.x *ℤ q.d)) && int_lt q.x (s.b.x *ℤ q.d) && int_lt (area_at s.a s.b q) (pos 0)

-- the whole plane k times as large
abbrev pub larger : ℤ → Point → Point
larger k p = record { x = k *ℤ p.x; y = k *ℤ p.y }

abbrev pub larger_segment : ℤ → Segment → Segment
larger_segment k s = record { a = larger k s.a; b = larger k s.b }

-- the way from p to q in a plane that is p.d q.d times as large
abbrev pub way : RationalPoint → RationalPoint → Segment
way p q = record { a = record { x = p.x *ℤ q.d; y = p.y *ℤ q.d }; b = record { x = q.x *ℤ p.d; y = q.y *ℤ p.d } }

abbrev pub crosses_at : Segment → RationalPoint → Bool
crosses_at s q = xor (over_at s q) (over_at (back s) q)

-- whether an odd number of the ways from v through ws are above q
abbrev pub odd_at : Point → List Point → RationalPoint → Bool
odd_at v [] q = false
odd_at v (w ∷ ws) q = xor (crosses_at (record { a = v; b = w }) q) (odd_at w ws q)

abbrev pub larger_spot : ℤ → RationalPoint → RationalPoint
larger_spot k r = record { x = r.x *ℤ k; y = r.y *ℤ k; d = r.d; whole = r.whole }

-- no point of the straight way from p to q is on a segment of the chain from v through ws
abbrev pub WayClear : RationalPoint → RationalPoint → Point → List Point → Type 0
WayClear p q v [] = Unit {0}
WayClear p q v (w ∷ ws) = ((r : RationalPoint) → IsOn r (record { a = v; b = w }) → IsOn (larger_spot (p.d *ℤ q.d) r) (way p q) → ⊥) × WayClear p q w ws

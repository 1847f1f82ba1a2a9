-- How two steps of a plain drawing lie.
use Rattle.std.specs.Prelude.{◌≡◌, ◌≢◌, ◌<ℤ◌, ◌≤ℤ◌, Bool, true, false, cond, ◌&&◌, ◌||◌, ◌⊎◌}
use Rattle.topo_base.specs.Point.{Point}
use Rattle.plane.specs.Segment.{Segment}
use Rattle.plane.specs.Relation.{AreApart}
use Rattle.plane.specs.Crossings.{back}
use Rattle.plane.specs.Direction.{Direction}
use Rattle.parity_laws.specs.Steps.{direction, before}

-- to the right, or straight down
pub record Onward (v w : Point) : Type 0 where
  pub along : v.x ≤ℤ w.x
  pub down : w.x ≤ℤ v.x → w.y <ℤ v.y

-- two directions that are not one
abbrev pub Apart : Direction → Direction → Type 0
Apart u w = (before u w ≡ true) ⊎ (before w u ≡ true)

-- t leaves the start of s in another direction, and does not end at an end of s
pub record Fork (s t : Segment) : Type 0 where
  pub start : t.a ≡ s.a
  pub not_start : t.b ≢ s.a
  pub not_end : t.b ≢ s.b
  pub apart : Apart (direction t) (direction s)

-- t meets s at its ends alone, if at all
abbrev pub MeetsAtEnds : Segment → Segment → Type 0
MeetsAtEnds s t = ((t.a ≡ s.a) × (t.b ≡ s.b)) ⊎ (Fork s t ⊎ Fork (back s) t)

-- s and t are one step, in any direction, or have no common rational point but a common end
abbrev pub Tied : Segment → Segment → Type 0
Tied s t = AreApart t s ⊎ (MeetsAtEnds s t ⊎ MeetsAtEnds s (back t))

-- d is strictly inside the wedge from u clockwise to w; where u is w this is the full turn
abbrev pub inside : Direction → Direction → Direction → Bool
inside u w d = cond (before u w) (before u d && before d w) (before u d || before d w)

-- where t begins or ends at the end of d, it leaves outside the wedge from d, reversed, clockwise to w
pub record Outside (d : Segment) (w : Direction) (t : Segment) : Type 0 where
  pub start : t.a ≡ d.b → inside (direction (back d)) w (direction t) ≡ false
  pub end : t.b ≡ d.b → inside (direction (back d)) w (direction (back t)) ≡ false

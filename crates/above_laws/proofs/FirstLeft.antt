-- The first step above a point has on its left what the point has above it.
use Rattle.std.proofs.Common.{◌≡◌, refl, sym, ◌∙◌, arith, ℤ, pos, negsuc, ◌-ℤ◌, ◌*ℤ◌, ◌<ℤ◌, ◌≤ℤ◌, ⊎_elim, Bool, true, false, cond, List}
use Rattle.std.specs.Prelude.{int_lt, neg_ℤ}
use Rattle.std.proofs.lemmas.Bool.{and_parts, false_from_ne_true}
use Rattle.std.proofs.lemmas.Int.{ints}
use Rattle.std.proofs.Math.IntN.{*ℤ-zero}
use Rattle.topo_base.specs.Point.{Point}
use Rattle.plane.specs.Crossings.{back}
use Rattle.plane.specs.Direction.{cross}
use Rattle.plane.specs.Segment.{Segment}
use Rattle.plane.proofs.Ring.{signed}
use Rattle.plane.proofs.Signs.{order}
use Rattle.plane.proofs.Tests.{lt_yes, yes_lt}
use Rattle.parity_laws.specs.Rings.{In, Within, Drawn}
use Rattle.parity_laws.specs.Steps.{Even, direction, rightward, first_of, before, above, left}
use Rattle.parity_laws.specs.Ways.{Tied, Outside, inside}
use Rattle.parity_laws.proofs.Corner.{corner}
use Rattle.parity_laws.proofs.Footing.{right_yes}
use Rattle.parity_laws.proofs.Ringwise.{in_each, each_within}
use Rattle.parity_laws.proofs.Seeing.{foot_left}
use Rattle.parity_laws.proofs.Viewing.{Lowest, down, vertex_above}

-- d is lowest over v, and where it begins straight above v it is the last, clockwise, of those that go to the right from there
pub record FirstAt (T : List Segment) (v : Point) (d : Segment) : Type 0 where
  pub low : Lowest T v d
  pub last : (t : Segment) → In t T → t.a ≡ d.a → t.a.x <ℤ t.b.x → d.a.x ≡ v.x → cross (direction d) (direction t) <ℤ pos 0 → ⊥

-- ---- directions before straight down
by_cross : (h k c : Bool) → k ≡ true → first_of h k c ≡ true → c ≡ true
by_cross true true c f e = e
by_cross false true c f e = cc
by_cross h false c f e = cc

crossed : (x y : ℤ) → x *ℤ negsuc 0 -ℤ y *ℤ pos 0 ≡ neg_ℤ x
crossed x y = rw (*ℤ-zero y) (omega (arith, ints))

goes_right : (t : Segment) → before (direction t) down ≡ true → t.a.x <ℤ t.b.x
goes_right t e =
    by_sign t.a.x t.b.x (cross (direction t) down) (crossed (t.b.x -ℤ t.a.x) (t.b.y -ℤ t.a.y))
    (yes_lt (cross (direction t) down) (pos 0) (by_cross (rightward (direction t)) (rightward down) (int_lt (cross (direction t) down) (pos 0)) refl e))
  where
    by_sign : (a b c : ℤ) → c ≡ neg_ℤ (b -ℤ a) → c <ℤ pos 0 → a <ℤ b
    by_sign a b c e h = omega (arith, signed)

is_before_down : (t : Segment) → t.a.x <ℤ t.b.x → before (direction t) down ≡ true
is_before_down t h =
    by_first (rightward (direction t)) (int_lt (cross (direction t) down) (pos 0)) (right_yes t h)
    (lt_yes (cross (direction t) down) (pos 0) (by_sign t.a.x t.b.x (cross (direction t) down) (crossed (t.b.x -ℤ t.a.x) (t.b.y -ℤ t.a.y)) h))
  where
    by_first : (r c : Bool) → r ≡ true → c ≡ true → first_of r true c ≡ true
    by_first true c f e = e
    by_first false c f e = cc

    by_sign : (a b c : ℤ) → c ≡ neg_ℤ (b -ℤ a) → a <ℤ b → c <ℤ pos 0
    by_sign a b c e h = omega (arith, signed)

-- ---- no step leaves the start of d between d and straight down
nothing_between : (T : List Segment) (v : Point) (d t : Segment) → FirstAt T v d → d.a.x ≡ v.x → d.a.x <ℤ d.b.x → In t T → t.a ≡ d.a → inside (direction d) down (direction t) ≡ false
nothing_between T v d t f e h i start = false_from_ne_true (inside (direction d) down (direction t)) (λ k.
    let both = and_parts (before (direction d) (direction t)) (before (direction t) down) (taken (before (direction d) down) _ _ (is_before_down d h) k) in
    let right = goes_right t both.1 in
    f.last t i start right e
    (yes_lt (cross (direction d) (direction t)) (pos 0) (by_cross (rightward (direction d)) (rightward (direction t)) (int_lt (cross (direction d) (direction t)) (pos 0)) (right_yes t right) both.0)))
  where
    taken : (b x y : Bool) → b ≡ true → cond b x y ≡ true → x ≡ true
    taken true x y f e = e
    taken false x y f e = cc

pub first_left : (T X : List Segment) (v : Point) (d : Segment) → Drawn T → FirstAt T v d → Even X → Within X T → left X (back d) ≡ above X v
first_left T X v d drawn f even w =
    ⊎_elim
    (λ (h : d.a.x <ℤ v.x). foot_left T X v d (record { plain = drawn.plain; low = f.low; inner = h }) even w)
    (λ (h : v.x ≤ℤ d.a.x).
    let g = f.low.isover.from in
    let to = f.low.isover.to in
    let e : d.a.x ≡ v.x = omega (arith, signed) in
    let right : d.a.x <ℤ d.b.x = omega (arith, signed) in
    let b = drawn.plain.both d f.low.there in
    corner (back d) down X even (each_within (Tied (back d)) X T w (drawn.plain.tied (back d) b))
    (each_within (Outside (back d) down) X T w (in_each (Outside (back d) down) T (λ t i. record {
      start = λ k. nothing_between T v d t f e right i k;
      end = λ k. nothing_between T v d (back t) f e right (drawn.plain.both t i) k;
    })))
    (drawn.plain.proper (back d) b)
    ∙ sym (vertex_above T X v d drawn.plain w f.low e))
    (order d.a.x v.x)

-- A point over which an even list of steps is odd is in each box that has the ends of all the steps.
use Rattle.std.proofs.Common.{◌≡◌, refl, ◌∙◌, ap, arith, ℤ, pos, ◌-ℤ◌, ◌*ℤ◌, ◌+ℤ◌, ◌<ℤ◌, ◌≤ℤ◌, ⊎_elim, Bool, true, false, not, ◌&&◌, List}
use Rattle.std.specs.Prelude.{int_lt}
use Rattle.std.proofs.lemmas.Bool.{both_ways}
use Rattle.topo_base.specs.Point.{Point}
use Rattle.topo_base.specs.declared.rows.Box4.{Box4}
use Rattle.plane.specs.Parity.{xor}
use Rattle.plane.specs.Orientation.{area}
use Rattle.plane.specs.Segment.{Segment}
use Rattle.plane.specs.Crossings.{over, back, crosses}
use Rattle.plane.proofs.Ring.{multiplied, signed}
use Rattle.plane.proofs.Signs.{order, mul_positive, mul_not_negative}
use Rattle.parity_laws.specs.Steps.{Each, Even, above}
use Rattle.parity_laws.specs.Walks.{NoHigher}
use Rattle.parity_laws.proofs.Sums.{odd_each, odd_none, each_map}
use Rattle.plane.proofs.Tests.{lt_yes, lt_no, yes_lt, no_lt}
use Rattle.parity_laws.proofs.Walking.{nothing_above}
use Rattle.local_laws.specs.Boxes.{IsInBox}

-- both ends of a step are in the box
abbrev pub IsStepIn : Box4 → Segment → Type 0
IsStepIn b t = IsInBox t.a b × IsInBox t.b b

-- a step whose ends are both right of v, or both left of it
not_over_right : (s : Segment) (v : Point) → v.x <ℤ s.a.x → over s v ≡ false
not_over_right s v h = rw (lt_yes v.x s.a.x h) refl

not_over_left : (s : Segment) (v : Point) → s.b.x ≤ℤ v.x → over s v ≡ false
not_over_left s v h = by_tests (int_lt v.x s.a.x) (int_lt v.x s.b.x) (int_lt (area s.a s.b v) (pos 0)) (lt_no v.x s.b.x h)
  where
    by_tests : (x y z : Bool) → y ≡ false → not x && y && z ≡ false
    by_tests true y z e = refl
    by_tests false y z e = rw e

-- a step whose ends are both higher than v is over it where it spans it
area_below : (s : Segment) (v : Point) → s.a.x ≤ℤ v.x → v.x <ℤ s.b.x → v.y <ℤ s.a.y → v.y <ℤ s.b.y → area s.a s.b v <ℤ pos 0
area_below s v h k l m =
    let p = mul_positive (s.b.x -ℤ v.x) (s.a.y -ℤ v.y) (omega (arith, signed)) (omega (arith, signed)) in
    let q = mul_not_negative (v.x -ℤ s.a.x) (s.b.y -ℤ v.y) (omega (arith, signed)) (omega (arith, signed)) in
    by_sum (area s.a s.b v) _ _ (weights s.a.x s.a.y s.b.x s.b.y v.x v.y) p q
  where
    weights : (ax ay bx by x y : ℤ) → ((bx -ℤ ax) *ℤ (y -ℤ ay) -ℤ (by -ℤ ay) *ℤ (x -ℤ ax)) +ℤ ((bx -ℤ x) *ℤ (ay -ℤ y) +ℤ (x -ℤ ax) *ℤ (by -ℤ y)) ≡ pos 0
    weights ax ay bx by x y = simp multiplied (omega (arith, signed))

    by_sum : (a m n : ℤ) → a +ℤ (m +ℤ n) ≡ pos 0 → pos 0 <ℤ m → pos 0 ≤ℤ n → a <ℤ pos 0
    by_sum a m n e h k = omega (arith, signed)

over_higher : (s : Segment) (v : Point) → v.y <ℤ s.a.y → v.y <ℤ s.b.y → over s v ≡ not (int_lt v.x s.a.x) && int_lt v.x s.b.x
over_higher s v l m = by_tests (int_lt v.x s.a.x) (int_lt v.x s.b.x) refl refl
  where
    by_tests : (x y : Bool) → int_lt v.x s.a.x ≡ x → int_lt v.x s.b.x ≡ y → not x && y && int_lt (area s.a s.b v) (pos 0) ≡ not x && y
    by_tests true y e f = refl
    by_tests false false e f = refl
    by_tests false true e f = lt_yes (area s.a s.b v) (pos 0) (area_below s v (no_lt v.x s.a.x e) (yes_lt v.x s.b.x f) l m)

crosses_higher : (t : Segment) (v : Point) → v.y <ℤ t.a.y → v.y <ℤ t.b.y → crosses t v ≡ xor (int_lt v.x t.a.x) (int_lt v.x t.b.x)
crosses_higher t v l m = ap (λ z. xor z (over (back t) v)) (over_higher t v l m) ∙ ap (xor (not (int_lt v.x t.a.x) && int_lt v.x t.b.x)) (over_higher (back t) v m l) ∙ by_tests (int_lt v.x t.a.x) (int_lt v.x t.b.x)
  where
    by_tests : (x y : Bool) → xor (not x && y) (not y && x) ≡ xor x y
    by_tests true true = refl
    by_tests true false = refl
    by_tests false true = refl
    by_tests false false = refl

pub above_in_box : (X : List Segment) (v : Point) (b : Box4) → Even X → Each (IsStepIn b) X → above X v ≡ true → IsInBox v b
above_in_box X v b even inside is = record {
  left = ⊎_elim
      (λ (h : v.x <ℤ b.min_x). none (λ t k. cc (not_over_right t v (less_left t.a h k.0), not_over_right (back t) v (less_left t.b h k.1))))
      (λ (h : b.min_x ≤ℤ v.x). h)
      (order v.x b.min_x);
  right = ⊎_elim
      (λ (h : b.max_x <ℤ v.x). none (λ t k. cc (not_over_left t v (less_right t.b h k.1), not_over_left (back t) v (less_right t.a h k.0))))
      (λ (h : v.x ≤ℤ b.max_x). h)
      (order b.max_x v.x);
  lower = ⊎_elim
      (λ (h : v.y <ℤ b.min_y).
      absurd (both_ways (above X v)
      (odd_each (λ t. crosses t v) (λ t. xor (int_lt v.x t.a.x) (int_lt v.x t.b.x)) X (each_map (IsStepIn b) (λ t. crosses t v ≡ xor (int_lt v.x t.a.x) (int_lt v.x t.b.x)) (λ t k. crosses_higher t v (less_low t.a h k.0) (less_low t.b h k.1)) X inside)
      ∙ even (λ p. int_lt v.x p.x)) is))
      (λ (h : b.min_y ≤ℤ v.y). h)
      (order v.y b.min_y);
  upper = ⊎_elim
      (λ (h : b.max_y <ℤ v.y). absurd (both_ways (above X v) (nothing_above X v (each_map (IsStepIn b) (NoHigher v) (λ t k. (less_high t.a h k.0, less_high t.b h k.1)) X inside)) is))
      (λ (h : v.y ≤ℤ b.max_y). h)
      (order b.max_y v.y);
}
  where
    none : {A : Type 0} → ((t : Segment) → IsStepIn b t → crosses t v ≡ false) → A
    none each = absurd (both_ways (above X v) (odd_none (λ t. crosses t v) X (each_map (IsStepIn b) (λ t. crosses t v ≡ false) each X inside)) is)

    less_left : (p : Point) → v.x <ℤ b.min_x → IsInBox p b → v.x <ℤ p.x
    less_left p h k = let l = k.left in omega (arith, signed)

    less_right : (p : Point) → b.max_x <ℤ v.x → IsInBox p b → p.x ≤ℤ v.x
    less_right p h k = let l = k.right in omega (arith, signed)

    less_low : (p : Point) → v.y <ℤ b.min_y → IsInBox p b → v.y <ℤ p.y
    less_low p h k = let l = k.lower in omega (arith, signed)

    less_high : (p : Point) → b.max_y <ℤ v.y → IsInBox p b → p.y ≤ℤ v.y
    less_high p h k = let l = k.upper in omega (arith, signed)

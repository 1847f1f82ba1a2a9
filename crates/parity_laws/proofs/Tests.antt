-- Tests of numbers, points and directions.
use Rattle.std.proofs.Common.{◌≡◌, ◌≢◌, refl, sym, ◌∙◌, arith, ℤ, pos, ◌<ℤ◌, ◌≤ℤ◌, ◌⊎◌, ⊎_elim, Bool, true, false, not, ◌&&◌, ap, inl, inr}
use Rattle.std.specs.Prelude.{neg_ℤ, int_lt}
use Rattle.std.proofs.lemmas.Bool.{both_ways, and_parts}
use Rattle.plane.proofs.PointTests.{Decides-same_point}
use Rattle.plane.proofs.Ring.{multiplied, signed}
use Rattle.plane.proofs.Signs.{order}
use Rattle.plane.proofs.Tests.{lt_yes, lt_no, lt_self, yes_lt}
use Rattle.topo_base.specs.Point.{Point, same_point}
use Rattle.plane.specs.Orientation.{area}
use Rattle.plane.specs.Direction.{Direction, cross}
use Rattle.plane.specs.Segment.{Segment}
use Rattle.parity_laws.specs.Steps.{rightward, first_of, before}
use Rattle.parity_laws.specs.Ways.{Apart}

pub bool_same : (a b : Bool) → (a ≡ true → b ≡ true) → (b ≡ true → a ≡ true) → a ≡ b
bool_same true b f g = sym (f refl)
bool_same false true f g = g refl
bool_same false false f g = refl

pub and_comm : (a b : Bool) → a && b ≡ b && a
and_comm true true = refl
and_comm true false = refl
and_comm false true = refl
and_comm false false = refl

pub not_and_parts : (a b c : Bool) → not a && b && c ≡ true → (a ≡ false) × (b ≡ true) × (c ≡ true)
not_and_parts true b c e = cc
not_and_parts false true true e = (refl, refl, refl)
not_and_parts false true false e = cc
not_and_parts false false c e = cc

pub not_and_from : (a b c : Bool) → a ≡ false → b ≡ true → c ≡ true → not a && b && c ≡ true
not_and_from a b c e f g = rw (e, f, g)

pub and_third : (x y u : Bool) → u ≡ false → not x && y && u ≡ false
and_third true y u e = refl
and_third false true u e = e
and_third false false u e = refl

pub and_second : (x y u : Bool) → y ≡ false → not x && y && u ≡ false
and_second true y u e = refl
and_second false true u e = cc
and_second false false u e = refl

pub and_first : (x y u : Bool) → x ≡ true → not x && y && u ≡ false
and_first true y u e = refl
and_first false y u e = cc

pub same_self : (p : Point) → same_point p p ≡ true
same_self p = (Decides-same_point p p).1 (refl, refl)

pub same_is : (p q : Point) → same_point p q ≡ true → p ≡ q
same_is p q e = let h = (Decides-same_point p q).0 e in λ i. record { x = h.0 i; y = h.1 i }

pub same_not : (p q : Point) → p ≢ q → same_point p q ≡ false
same_not p q n = by_test (same_point p q) refl
  where
    by_test : (b : Bool) → same_point p q ≡ b → b ≡ false
    by_test false e = refl
    by_test true e = absurd (n (same_is p q e))

-- s and t are one step, in this direction
pub exact_is : (s t : Segment) → same_point t.a s.a && same_point t.b s.b ≡ true → s ≡ t
exact_is s t e = by_parts (and_parts (same_point t.a s.a) (same_point t.b s.b) e)
  where
    by_parts : (same_point t.a s.a ≡ true) × (same_point t.b s.b ≡ true) → s ≡ t
    by_parts h = let ea = same_is t.a s.a h.0 in let eb = same_is t.b s.b h.1 in λ i. record { a = sym ea i; b = sym eb i }

pub exact_self : (s : Segment) → same_point s.a s.a && same_point s.b s.b ≡ true
exact_self s = rw (same_self s.a, same_self s.b)

pub same_turned : (p q : Point) → same_point p q ≡ same_point q p
same_turned p q = bool_same (same_point p q) (same_point q p) (turned p q) (turned q p)
  where
    turned : (p q : Point) → same_point p q ≡ true → same_point q p ≡ true
    turned p q e = let h = (Decides-same_point p q).0 e in (Decides-same_point q p).1 (sym h.0, sym h.1)

pub crossed_turned : (u w : Direction) → cross w u ≡ neg_ℤ (cross u w)
crossed_turned u w = simp multiplied (omega (arith, signed))

pub area_cycle : (z w v : Point) → area z w v ≡ area w v z
area_cycle z w v = simp multiplied (omega (arith, signed))

pub area_back : (a b m : Point) → area b a m ≡ neg_ℤ (area a b m)
area_back a b m = simp multiplied (omega (arith, signed))

pub area_turned : (v w z : Point) → area v w z ≡ neg_ℤ (area v z w)
area_turned v w z = simp multiplied (omega (arith, signed))

pub zero_neg : (x y : ℤ) → x ≡ neg_ℤ y → y ≡ pos 0 → x ≡ pos 0
zero_neg x y e f = omega (arith, signed)

pub lt_turned : (x y : ℤ) → x ≡ neg_ℤ y → int_lt (pos 0) x ≡ int_lt y (pos 0)
lt_turned x y e =
    ⊎_elim
    (λ (h : pos 0 <ℤ x). lt_yes (pos 0) x h ∙ sym (lt_yes y (pos 0) (omega (arith, signed))))
    (λ (h : x ≤ℤ pos 0). lt_no (pos 0) x h ∙ sym (lt_no y (pos 0) (omega (arith, signed))))
    (order (pos 0) x)

-- two directions that differ: exactly one comes first
pub one_first : (u w : Direction) → (before u w ≡ true) ⊎ (before w u ≡ true) → before u w ≡ not (before w u)
one_first u w h = by_tests (rightward u) (rightward w) (int_lt (cross u w) (pos 0)) (int_lt (cross w u) (pos 0)) (never (cross u w) (cross w u) (crossed_turned u w)) h
  where
    never : (x y : ℤ) → y ≡ neg_ℤ x → int_lt x (pos 0) ≡ true → int_lt y (pos 0) ≡ false
    never x y e f = let g = yes_lt x (pos 0) f in lt_no y (pos 0) (omega (arith, signed))

    by_tests : (h k c d : Bool) → (c ≡ true → d ≡ false) → (first_of h k c ≡ true) ⊎ (first_of k h d ≡ true) → first_of h k c ≡ not (first_of k h d)
    by_tests true true true true f g = let e = f refl in cc
    by_tests true true true false f g = refl
    by_tests true true false true f g = refl
    by_tests true true false false f g = ⊎_elim (λ (e : false ≡ true). cc) (λ (e : false ≡ true). cc) g
    by_tests true false c d f g = refl
    by_tests false true c d f g = refl
    by_tests false false true true f g = let e = f refl in cc
    by_tests false false true false f g = refl
    by_tests false false false true f g = refl
    by_tests false false false false f g = ⊎_elim (λ (e : false ≡ true). cc) (λ (e : false ≡ true). cc) g

pub apart_turned : (u w : Direction) → Apart u w → Apart w u
apart_turned u w h = ⊎_elim (λ (a : before u w ≡ true). inr a) (λ (a : before w u ≡ true). inl a) h

-- two directions to one side on one line are not apart
pub same_half : (u w : Direction) (h : Bool) → rightward u ≡ h → rightward w ≡ h → cross u w ≡ pos 0 → Apart u w → ⊥
same_half u w h e f g k =
    ⊎_elim
    (λ (b : before u w ≡ true). both_ways (before u w) (none (rightward u) (rightward w) (int_lt (cross u w) (pos 0)) h e f (ap (λ z. int_lt z (pos 0)) g ∙ lt_self (pos 0))) b)
    (λ (b : before w u ≡ true). both_ways (before w u) (none (rightward w) (rightward u) (int_lt (cross w u) (pos 0)) h f e (lt_no (cross w u) (pos 0) (turned_zero (cross w u) (cross u w) (crossed_turned u w) g))) b)
    k
  where
    none : (a b c h : Bool) → a ≡ h → b ≡ h → c ≡ false → first_of a b c ≡ false
    none a b c true e f g = rw (e, f) g
    none a b c false e f g = rw (e, f) g

    turned_zero : (x y : ℤ) → x ≡ neg_ℤ y → y ≡ pos 0 → pos 0 ≤ℤ x
    turned_zero x y e f = omega (arith, signed)

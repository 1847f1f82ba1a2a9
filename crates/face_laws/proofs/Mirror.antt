-- Seen in a mirror, the order clockwise from straight up, which comes last, is that from straight up, which comes first.
use Rattle.std.proofs.Common.{◌≡◌, ℕ, refl, sym, ◌∙◌, ap, subst, arith, ℤ, pos, ◌+ℤ◌, ◌-ℤ◌, ◌*ℤ◌, ◌<ℤ◌, ◌≤ℤ◌, ⊎_elim, Bool, true, false, ◌&&◌}
use Rattle.std.specs.Prelude.{neg_ℤ, int_lt, ◌==◌, if◌then◌else◌}
use Rattle.std.proofs.Math.IntN.{*ℤ-zero, zero-*ℤ}
use Rattle.std.proofs.lemmas.Bool.{false≢true}
use Rattle.plane.specs.Direction.{Direction, cross, dot, quarter, nearer_by, is_nearer, straight_up, IsNotZero, OneDirection}
use Rattle.plane.proofs.Directions.{quarter_by, to_right, to_left, behind, in_front, by_quarter}
use Rattle.plane.proofs.Ring.{multiplied, signed}
use Rattle.plane.proofs.Signs.{order, mul_positive, times_one}
use Rattle.parity_laws.specs.Steps.{rightward, first_of, before}
use Rattle.plane.proofs.Tests.{lt_yes, lt_no}

-- left and right changed
abbrev pub mirrored : Direction → Direction
mirrored u = record { dx = neg_ℤ u.dx; dy = u.dy }

pub mirrored_some : (u : Direction) → IsNotZero u → IsNotZero (mirrored u)
mirrored_some u some e f = some (zero u.dx e) f
  where
    zero : (x : ℤ) → neg_ℤ x ≡ pos 0 → x ≡ pos 0
    zero x e = omega (arith, signed)

pub cross_mirrored : (u w : Direction) → cross (mirrored u) (mirrored w) ≡ cross w u
cross_mirrored u w = plain u.dx u.dy w.dx w.dy
  where
    plain : (x y a b : ℤ) → neg_ℤ x *ℤ b -ℤ y *ℤ neg_ℤ a ≡ a *ℤ y -ℤ b *ℤ x
    plain x y a b = simp multiplied (omega (arith, signed))

dot_mirrored : (u w : Direction) → dot (mirrored u) (mirrored w) ≡ dot u w
dot_mirrored u w = plain u.dx u.dy w.dx w.dy
  where
    plain : (x y a b : ℤ) → neg_ℤ x *ℤ neg_ℤ a +ℤ y *ℤ b ≡ x *ℤ a +ℤ y *ℤ b
    plain x y a b = simp multiplied (omega (arith, signed))

-- two whose mirror images have one direction
pub one_mirrored : (u w : Direction) → OneDirection (mirrored w) (mirrored u) → OneDirection u w
one_mirrored u w one = record {
  straight = sym (cross_mirrored w u) ∙ one.straight;
  ahead = subst (λ z. pos 0 <ℤ z) (dot_mirrored w u ∙ turned u w) one.ahead;
}
  where
    turned : (u w : Direction) → dot w u ≡ dot u w
    turned u w = simp multiplied (omega (arith, signed))

-- ---- from straight up
up_quarter : (u : Direction) → quarter straight_up (mirrored u) ≡ quarter_by u.dx u.dy
up_quarter u = λ i. quarter_by (across u.dx u.dy i) (along u.dx u.dy i)
  where
    across : (x y : ℤ) → pos 0 *ℤ y -ℤ pos 1 *ℤ neg_ℤ x ≡ x
    across x y = let e = *ℤ-zero y in let f = times_one x in simp multiplied (omega (arith, signed))

    along : (x y : ℤ) → pos 0 *ℤ neg_ℤ x +ℤ pos 1 *ℤ y ≡ y
    along x y = let e = *ℤ-zero x in let f = times_one y in simp multiplied (omega (arith, signed))

by_place : (P : Bool → ℕ → Type 0) (u : Direction) → IsNotZero u → (u.dx <ℤ pos 0 → P false 1) → (pos 0 <ℤ u.dx → P true 3) → (u.dx ≡ pos 0 → u.dy <ℤ pos 0 → P true 2) → (u.dx ≡ pos 0 → pos 0 <ℤ u.dy → P false 0) →
    P (rightward u) (quarter straight_up (mirrored u))
by_place P u some left right down up = subst (P (rightward u)) (sym (up_quarter u)) by_sign
  where
    at : (b : Bool) (q : ℕ) → rightward u ≡ b → quarter_by u.dx u.dy ≡ q → P b q → P (rightward u) (quarter_by u.dx u.dy)
    at b q e f p = subst (P (rightward u)) (sym f) (subst (λ c. P c q) (sym e) p)

    by_sign : P (rightward u) (quarter_by u.dx u.dy)
    by_sign =
        ⊎_elim
        (λ (h : u.dx <ℤ pos 0). at false 1 (rw (lt_no (pos 0) u.dx (omega (arith, signed)), lt_yes u.dx (pos 0) h)) (to_right u.dx u.dy h) (left h))
        (λ (h : pos 0 ≤ℤ u.dx).
        ⊎_elim
        (λ (g : pos 0 <ℤ u.dx). at true 3 (rw (lt_yes (pos 0) u.dx g)) (to_left u.dx u.dy g) (right g))
        (λ (g : u.dx ≤ℤ pos 0).
        let e : u.dx ≡ pos 0 = omega (arith, signed) in
        ⊎_elim
        (λ (k : u.dy <ℤ pos 0). at true 2 (rw (lt_no (pos 0) u.dx g, lt_no u.dx (pos 0) h, lt_yes u.dy (pos 0) k)) (behind u.dx u.dy e k) (down e k))
        (λ (k : pos 0 ≤ℤ u.dy). at false 0 (rw (lt_no (pos 0) u.dx g, lt_no u.dx (pos 0) h, lt_no u.dy (pos 0) k)) (in_front u.dx u.dy e k) (up e (strict u.dy k (some e))))
        (order u.dy (pos 0)))
        (order (pos 0) u.dx))
        (order u.dx (pos 0))
      where
        strict : (y : ℤ) → pos 0 ≤ℤ y → (y ≡ pos 0 → ⊥) → pos 0 <ℤ y
        strict y h n = ⊎_elim (λ (k : pos 0 <ℤ y). k) (λ (k : y ≤ℤ pos 0). absurd (n (omega (arith, signed)))) (order (pos 0) y)

-- cross products with a direction that is upright
first_upright : (x y p q : ℤ) → x ≡ pos 0 → x *ℤ q -ℤ y *ℤ p ≡ neg_ℤ (y *ℤ p)
first_upright x y p q e = rw e (flat q (y *ℤ p))
  where
    flat : (q z : ℤ) → pos 0 *ℤ q -ℤ z ≡ neg_ℤ z
    flat q z = rw (zero-*ℤ q) (omega (arith, signed))

second_upright : (x y p q : ℤ) → p ≡ pos 0 → x *ℤ q -ℤ y *ℤ p ≡ x *ℤ q
second_upright x y p q e = rw e (flat y (x *ℤ q))
  where
    flat : (y z : ℤ) → z -ℤ y *ℤ pos 0 ≡ z
    flat y z = rw (*ℤ-zero y) (omega (arith, signed))

left_of_up : (x q z : ℤ) → z ≡ x *ℤ q → x <ℤ pos 0 → pos 0 <ℤ q → z <ℤ pos 0
left_of_up x q z e h k = let m = simp multiplied at (mul_positive (neg_ℤ x) q (omega (arith, signed)) k) in omega (arith, signed)

right_of_down : (x q z : ℤ) → z ≡ x *ℤ q → pos 0 <ℤ x → q <ℤ pos 0 → z <ℤ pos 0
right_of_down x q z e h k = let m = simp multiplied at (mul_positive x (neg_ℤ q) h (omega (arith, signed))) in omega (arith, signed)

down_to_right : (y p z : ℤ) → z ≡ neg_ℤ (y *ℤ p) → y <ℤ pos 0 → pos 0 <ℤ p → pos 0 ≤ℤ z
down_to_right y p z e h k = let m = simp multiplied at (mul_positive (neg_ℤ y) p (omega (arith, signed)) k) in omega (arith, signed)

up_to_left : (y p z : ℤ) → z ≡ neg_ℤ (y *ℤ p) → pos 0 <ℤ y → p <ℤ pos 0 → pos 0 ≤ℤ z
up_to_left y p z e h k = let m = simp multiplied at (mul_positive y (neg_ℤ p) h (omega (arith, signed))) in omega (arith, signed)

both_upright : (y p z : ℤ) → z ≡ neg_ℤ (y *ℤ p) → p ≡ pos 0 → pos 0 ≤ℤ z
both_upright y p z e f = let g : y *ℤ p ≡ pos 0 = ap (λ k. y *ℤ k) f ∙ *ℤ-zero y in omega (arith, signed)

and_true : (b : Bool) → b ≡ (b && true)
and_true true = refl
and_true false = refl

never : (b : Bool) → b ≡ false → b ≡ (b && false)
never b e = rw e

pub before_is : (a b : Direction) → IsNotZero a → IsNotZero b → before a b ≡ is_nearer straight_up (mirrored b) (mirrored a)
before_is a b some_a some_b =
    by_place (λ ra qa. first_of ra (rightward b) (int_lt z (pos 0)) ≡ nearer_by (quarter straight_up (mirrored b)) qa z) a some_a
    (λ ha. by_place (λ rb qb. first_of false rb (int_lt z (pos 0)) ≡ nearer_by qb 1 z) b some_b
    (λ hb. and_true (int_lt z (pos 0))) (λ hb. refl) (λ e hb. refl)
    (λ e hb. lt_yes z (pos 0) (left_of_up a.dx b.dy z (second_upright a.dx a.dy b.dx b.dy e) ha hb)))
    (λ ha. by_place (λ rb qb. first_of true rb (int_lt z (pos 0)) ≡ nearer_by qb 3 z) b some_b
    (λ hb. refl) (λ hb. and_true (int_lt z (pos 0)))
    (λ e hb. lt_yes z (pos 0) (right_of_down a.dx b.dy z (second_upright a.dx a.dy b.dx b.dy e) ha hb)) (λ e hb. refl))
    (λ ea ha. by_place (λ rb qb. first_of true rb (int_lt z (pos 0)) ≡ nearer_by qb 2 z) b some_b
    (λ hb. refl) (λ hb. lt_no z (pos 0) (down_to_right a.dy b.dx z (first_upright a.dx a.dy b.dx b.dy ea) ha hb))
    (λ e hb. never (int_lt z (pos 0)) (lt_no z (pos 0) (both_upright a.dy b.dx z (first_upright a.dx a.dy b.dx b.dy ea) e))) (λ e hb. refl))
    (λ ea ha. by_place (λ rb qb. first_of false rb (int_lt z (pos 0)) ≡ nearer_by qb 0 z) b some_b
    (λ hb. lt_no z (pos 0) (up_to_left a.dy b.dx z (first_upright a.dx a.dy b.dx b.dy ea) ha hb)) (λ hb. refl) (λ e hb. refl)
    (λ e hb. never (int_lt z (pos 0)) (lt_no z (pos 0) (both_upright a.dy b.dx z (first_upright a.dx a.dy b.dx b.dy ea) e))))
    ∙ ap (nearer_by (quarter straight_up (mirrored b)) (quarter straight_up (mirrored a))) (sym (cross_mirrored b a))
  where
    z : ℤ
    z = cross a b

-- ---- from another direction
abbrev flipped : ℕ → ℕ
flipped q = if q == 1 then 3 else (if q == 3 then 1 else q)

quarter_flipped : (c d : ℤ) → quarter_by (neg_ℤ c) d ≡ flipped (quarter_by c d)
quarter_flipped c d =
    by_quarter (λ q. quarter_by (neg_ℤ c) d ≡ flipped q) c d
    (λ h. to_left (neg_ℤ c) d (omega (arith, signed)))
    (λ h. to_right (neg_ℤ c) d (omega (arith, signed)))
    (λ e h. behind (neg_ℤ c) d (omega (arith, signed)) h)
    (λ e h. in_front (neg_ℤ c) d (omega (arith, signed)) h)

quarter_mirrored : (r u : Direction) → quarter (mirrored r) (mirrored u) ≡ flipped (quarter r u)
quarter_mirrored r u = (λ i. quarter_by (turned i) (dot_mirrored r u i)) ∙ quarter_flipped (cross r u) (dot r u)
  where
    turned : cross (mirrored r) (mirrored u) ≡ neg_ℤ (cross r u)
    turned = cross_mirrored r u ∙ swap r u
      where
        swap : (r u : Direction) → cross u r ≡ neg_ℤ (cross r u)
        swap r u = simp multiplied (omega (arith, signed))

unflipped : (c d k l z : ℤ) → (quarter_by c d ≡ 0 → ⊥) → nearer_by (flipped (quarter_by c d)) (flipped (quarter_by k l)) z ≡ true → nearer_by (quarter_by k l) (quarter_by c d) z ≡ true
unflipped c d k l z =
    by_quarter (λ p. (p ≡ 0 → ⊥) → nearer_by (flipped p) (flipped (quarter_by k l)) z ≡ true → nearer_by (quarter_by k l) p z ≡ true) c d
    (λ h some. by_quarter (λ q. nearer_by 3 (flipped q) z ≡ true → nearer_by q 1 z ≡ true) k l (λ g e. e) (λ g e. absurd (false≢true e)) (λ f g e. absurd (false≢true e)) (λ f g e. refl))
    (λ h some. by_quarter (λ q. nearer_by 1 (flipped q) z ≡ true → nearer_by q 3 z ≡ true) k l (λ g e. refl) (λ g e. e) (λ f g e. refl) (λ f g e. refl))
    (λ h h' some. by_quarter (λ q. nearer_by 2 (flipped q) z ≡ true → nearer_by q 2 z ≡ true) k l (λ g e. refl) (λ g e. absurd (false≢true e)) (λ f g e. e) (λ f g e. refl))
    (λ h h' some. absurd (some refl))

-- what is nearer in the mirror is farther before it, unless it is the direction itself
pub nearer_mirrored : (u w d : Direction) → (quarter u w ≡ 0 → ⊥) → is_nearer (mirrored u) (mirrored w) (mirrored d) ≡ true → is_nearer u d w ≡ true
nearer_mirrored u w d some e =
    unflipped (cross u w) (dot u w) (cross u d) (dot u d) (cross d w) some
    ((λ i. nearer_by (sym (quarter_mirrored u w) i) (sym (quarter_mirrored u d) i) (sym (cross_mirrored w d) i)) ∙ e)

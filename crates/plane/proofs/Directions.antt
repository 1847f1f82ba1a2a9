-- The order of directions clockwise is a strict order, in which two directions are equal exactly where they point the same way.
use Rattle.std.proofs.Common.{◌≡◌, ◌≢◌, ℕ, ◌<◌, refl, sym, ◌∙◌, ap, subst, arith, ℤ, pos, ◌+ℤ◌, ◌-ℤ◌, ◌*ℤ◌, ◌<ℤ◌, ◌≤ℤ◌, ◌⊎◌, inl, inr, ⊎_elim, Bool, true, false, IsTrue}
use Rattle.std.specs.Prelude.{neg_ℤ, ◌&&◌, ◌||◌, ◌==◌, nat_lt, if◌then◌else◌}
use Rattle.std.specs.Int.RustNames.{int_lt}
use Rattle.std.proofs.Math.IntN.{*ℤ-zero, zero-*ℤ}
use Rattle.std.proofs.lemmas.Bool.{and_parts, and_from, or_cases, or_left, or_right, ltb-true, lt-ltb, eqb-true, eq-eqb, false_from_ne_true, both_ways, cases_order}
use Rattle.plane.proofs.Diff.{diff-same}
use Rattle.plane.proofs.Ring.{multiplied, signed, mul_comm, mul_neg, neg_mul}
use Rattle.plane.proofs.Wide.{summed}
use Rattle.plane.proofs.Signs.{mul_positive, mul_not_negative, order, no_zero_divisor, times_one}
use Rattle.plane.proofs.Tests.{lt_yes, lt_no, yes_lt}
use Rattle.plane.specs.Direction.{Direction, cross, dot, quarter, nearer_by, is_nearer, same_direction, OneDirection, IsNotZero}
use Rattle.plane.specs.DirectionLaw.{IsMultiple, ClockwiseIsOrder}

-- the quarter by the cross and dot products
abbrev pub quarter_by : ℤ → ℤ → ℕ
quarter_by c d = if int_lt c (pos 0) then 1 else (if int_lt (pos 0) c then 3 else (if int_lt d (pos 0) then 2 else 0))

pub to_right : (c d : ℤ) → c <ℤ pos 0 → quarter_by c d ≡ 1
to_right c d h = rw (lt_yes c (pos 0) h)

pub to_left : (c d : ℤ) → pos 0 <ℤ c → quarter_by c d ≡ 3
to_left c d h = rw (lt_no c (pos 0) (omega (arith, signed)), lt_yes (pos 0) c h)

pub behind : (c d : ℤ) → c ≡ pos 0 → d <ℤ pos 0 → quarter_by c d ≡ 2
behind c d e h = rw (lt_no c (pos 0) (omega (arith, signed)), lt_no (pos 0) c (omega (arith, signed)), lt_yes d (pos 0) h)

pub in_front : (c d : ℤ) → c ≡ pos 0 → pos 0 ≤ℤ d → quarter_by c d ≡ 0
in_front c d e h = rw (lt_no c (pos 0) (omega (arith, signed)), lt_no (pos 0) c (omega (arith, signed)), lt_no d (pos 0) h)

-- each case of a quarter
pub by_quarter : (P : ℕ → Type 0) (c d : ℤ) → (c <ℤ pos 0 → P 1) → (pos 0 <ℤ c → P 3) → (c ≡ pos 0 → d <ℤ pos 0 → P 2) → (c ≡ pos 0 → pos 0 ≤ℤ d → P 0) → P (quarter_by c d)
by_quarter P c d right left back front =
    ⊎_elim
    (λ (h : c <ℤ pos 0). subst P (sym (to_right c d h)) (right h))
    (λ (h : pos 0 ≤ℤ c).
    ⊎_elim
    (λ (g : pos 0 <ℤ c). subst P (sym (to_left c d g)) (left g))
    (λ (g : c ≤ℤ pos 0).
    let e : c ≡ pos 0 = omega (arith, signed) in
    ⊎_elim
    (λ (k : d <ℤ pos 0). subst P (sym (behind c d e k)) (back e k))
    (λ (k : pos 0 ≤ℤ d). subst P (sym (in_front c d e k)) (front e k))
    (order d (pos 0)))
    (order (pos 0) c))
    (order c (pos 0))

pub is_right : (c d : ℤ) → quarter_by c d ≡ 1 → c <ℤ pos 0
is_right c d = by_quarter (λ q. q ≡ 1 → c <ℤ pos 0) c d (λ h e. h) (λ h e. absurd (omega arith)) (λ e h f. absurd (omega arith)) (λ e h f. absurd (omega arith))

pub is_left : (c d : ℤ) → quarter_by c d ≡ 3 → pos 0 <ℤ c
is_left c d = by_quarter (λ q. q ≡ 3 → pos 0 <ℤ c) c d (λ h e. absurd (omega arith)) (λ h e. h) (λ e h f. absurd (omega arith)) (λ e h f. absurd (omega arith))

pub is_behind : (c d : ℤ) → quarter_by c d ≡ 2 → (c ≡ pos 0) × (d <ℤ pos 0)
is_behind c d = by_quarter (λ q. q ≡ 2 → (c ≡ pos 0) × (d <ℤ pos 0)) c d (λ h e. absurd (omega arith)) (λ h e. absurd (omega arith)) (λ e h f. (e, h)) (λ e h f. absurd (omega arith))

pub is_in_front : (c d : ℤ) → quarter_by c d ≡ 0 → (c ≡ pos 0) × (pos 0 ≤ℤ d)
is_in_front c d = by_quarter (λ q. q ≡ 0 → (c ≡ pos 0) × (pos 0 ≤ℤ d)) c d (λ h e. absurd (omega arith)) (λ h e. absurd (omega arith)) (λ e h f. absurd (omega arith)) (λ e h f. (e, h))

-- what the test of nearer says, with the quarters q and p and the cross product z
abbrev pub Nearer : ℕ → ℕ → ℤ → Type 0
Nearer q p z = (q < p) ⊎ ((q ≡ p) × (z <ℤ pos 0) × ((q ≡ 1) ⊎ (q ≡ 3)))

pub nearer_out : (q p : ℕ) (z : ℤ) → nearer_by q p z ≡ true → Nearer q p z
nearer_out q p z e =
    ⊎_elim
    (λ (h : nat_lt q p ≡ true). inl (ltb-true q p h))
    (λ (h : (q == p && int_lt z (pos 0) && (q == 1 || q == 3)) ≡ true).
    let a = and_parts (q == p && int_lt z (pos 0)) (q == 1 || q == 3) h in
    let b = and_parts (q == p) (int_lt z (pos 0)) a.0 in
    inr (eqb-true q p b.0, yes_lt z (pos 0) b.1, on_side (or_cases (q == 1) (q == 3) a.1)))
    (or_cases (nat_lt q p) (q == p && int_lt z (pos 0) && (q == 1 || q == 3)) e)
  where
    on_side : ((q == 1) ≡ true) ⊎ ((q == 3) ≡ true) → (q ≡ 1) ⊎ (q ≡ 3)
    on_side = ⊎_elim (λ (k : (q == 1) ≡ true). inl (eqb-true q 1 k)) (λ (k : (q == 3) ≡ true). inr (eqb-true q 3 k))

pub nearer_in : (q p : ℕ) (z : ℤ) → Nearer q p z → nearer_by q p z ≡ true
nearer_in q p z n =
    ⊎_elim
    (λ (h : q < p). or_left (nat_lt q p) (q == p && int_lt z (pos 0) && (q == 1 || q == 3)) (lt-ltb q p h))
    (λ (h : (q ≡ p) × (z <ℤ pos 0) × ((q ≡ 1) ⊎ (q ≡ 3))).
    or_right (nat_lt q p) (q == p && int_lt z (pos 0) && (q == 1 || q == 3))
    (and_from (q == p && int_lt z (pos 0)) (q == 1 || q == 3) (and_from (q == p) (int_lt z (pos 0)) (eq-eqb q p h.0) (lt_yes z (pos 0) h.1)) (on_side h.2)))
    n
  where
    on_side : (q ≡ 1) ⊎ (q ≡ 3) → (q == 1 || q == 3) ≡ true
    on_side = ⊎_elim (λ (k : q ≡ 1). or_left (q == 1) (q == 3) (eq-eqb q 1 k)) (λ (k : q ≡ 3). or_right (q == 1) (q == 3) (eq-eqb q 3 k))

-- ---- identities of products
cross_turned : (u v : Direction) → cross v u ≡ neg_ℤ (cross u v)
cross_turned u v = simp multiplied (omega (arith, signed))

dot_turned : (u v : Direction) → dot v u ≡ dot u v
dot_turned u v = simp multiplied (omega (arith, signed))

cross_self : (u : Direction) → cross u u ≡ pos 0
cross_self u = simp multiplied (omega (arith, signed))

over_three : (r u v w : Direction) → cross r v *ℤ cross u w ≡ cross u v *ℤ cross r w +ℤ cross v w *ℤ cross r u
over_three r u v w = simp multiplied (simp summed (diff-same _ _ _ _ (omega arith)))

cross_through : (r u v : Direction) → cross r v *ℤ dot u u ≡ cross r u *ℤ dot u v +ℤ dot r u *ℤ cross u v
cross_through r u v = simp multiplied (simp summed (diff-same _ _ _ _ (omega arith)))

dot_through : (r u v : Direction) → dot r v *ℤ dot u u ≡ dot r u *ℤ dot u v -ℤ cross r u *ℤ cross u v
dot_through r u v = simp multiplied (simp summed (diff-same _ _ _ _ (omega arith)))

squares : (u v : Direction) → dot u u *ℤ dot v v ≡ dot u v *ℤ dot u v +ℤ cross u v *ℤ cross u v
squares u v = simp multiplied (simp summed (diff-same _ _ _ _ (omega arith)))

-- ---- signs
square_not_negative : (a : ℤ) → pos 0 ≤ℤ (a *ℤ a)
square_not_negative a =
    ⊎_elim
    (λ (h : a <ℤ pos 0). let w = simp multiplied at (mul_not_negative (neg_ℤ a) (neg_ℤ a) (omega (arith, signed)) (omega (arith, signed))) in omega (arith, signed))
    (λ (h : pos 0 ≤ℤ a). mul_not_negative a a h h)
    (order a (pos 0))

square_positive : (a : ℤ) → a ≢ pos 0 → pos 0 <ℤ (a *ℤ a)
square_positive a n =
    ⊎_elim
    (λ (h : pos 0 <ℤ (a *ℤ a)). h)
    (λ (h : (a *ℤ a) ≤ℤ pos 0). let k = square_not_negative a in absurd (n (no_zero_divisor a a (omega (arith, signed)) n)))
    (order (pos 0) (a *ℤ a))

length_not_negative : (u : Direction) → pos 0 ≤ℤ dot u u
length_not_negative u = sum (u.dx *ℤ u.dx) (u.dy *ℤ u.dy) (square_not_negative u.dx) (square_not_negative u.dy)
  where
    sum : (a b : ℤ) → pos 0 ≤ℤ a → pos 0 ≤ℤ b → pos 0 ≤ℤ (a +ℤ b)
    sum a b h k = omega (arith, signed)

pub length_positive : (u : Direction) → IsNotZero u → pos 0 <ℤ dot u u
length_positive u n =
    ⊎_elim
    (λ (h : u.dx <ℤ pos 0). first u.dx u.dy (omega (arith, signed)))
    (λ (h : pos 0 ≤ℤ u.dx).
    ⊎_elim
    (λ (g : pos 0 <ℤ u.dx). first u.dx u.dy (omega (arith, signed)))
    (λ (g : u.dx ≤ℤ pos 0). let e : u.dx ≡ pos 0 = omega (arith, signed) in second u.dx u.dy (n e))
    (order (pos 0) u.dx))
    (order u.dx (pos 0))
  where
    first : (a b : ℤ) → a ≢ pos 0 → pos 0 <ℤ (a *ℤ a +ℤ b *ℤ b)
    first a b m = let h = square_positive a m in let k = square_not_negative b in omega (arith, signed)

    second : (a b : ℤ) → b ≢ pos 0 → pos 0 <ℤ (a *ℤ a +ℤ b *ℤ b)
    second a b m = let h = square_not_negative a in let k = square_positive b m in omega (arith, signed)

-- a n and b m have one sign, and so have a and b
same_negative : (a b n m : ℤ) → pos 0 <ℤ n → pos 0 <ℤ m → a *ℤ n ≡ b *ℤ m → a <ℤ pos 0 → b <ℤ pos 0
same_negative a b n m hn hm e h =
    ⊎_elim
    (λ (k : b <ℤ pos 0). k)
    (λ (k : pos 0 ≤ℤ b).
    let hm' : pos 0 ≤ℤ m = omega (arith, signed) in
    let p = simp multiplied at (mul_positive (neg_ℤ a) n (omega (arith, signed)) hn) in
    let q = mul_not_negative b m k hm' in
    absurd (omega (arith, signed)))
    (order b (pos 0))

same_positive : (a b n m : ℤ) → pos 0 <ℤ n → pos 0 <ℤ m → a *ℤ n ≡ b *ℤ m → pos 0 <ℤ a → pos 0 <ℤ b
same_positive a b n m hn hm e h =
    ⊎_elim
    (λ (k : b ≤ℤ pos 0).
    let hm' : pos 0 ≤ℤ m = omega (arith, signed) in
    let p = mul_positive a n h hn in
    let q = simp multiplied at (mul_not_negative (neg_ℤ b) m (omega (arith, signed)) hm') in
    absurd (omega (arith, signed)))
    (λ (k : pos 0 <ℤ b). k)
    (turned (order (pos 0) b))
  where
    turned : (pos 0 <ℤ b) ⊎ (b ≤ℤ pos 0) → (b ≤ℤ pos 0) ⊎ (pos 0 <ℤ b)
    turned = ⊎_elim (λ (k : pos 0 <ℤ b). inr k) (λ (k : b ≤ℤ pos 0). inl k)

same_tests : (a b n m : ℤ) → pos 0 <ℤ n → pos 0 <ℤ m → a *ℤ n ≡ b *ℤ m → (int_lt a (pos 0) ≡ int_lt b (pos 0)) × (int_lt (pos 0) a ≡ int_lt (pos 0) b)
same_tests a b n m hn hm e =
    ⊎_elim
    (λ (h : a <ℤ pos 0).
    let k = same_negative a b n m hn hm e h in
    (lt_yes a (pos 0) h ∙ sym (lt_yes b (pos 0) k), lt_no (pos 0) a (omega (arith, signed)) ∙ sym (lt_no (pos 0) b (omega (arith, signed)))))
    (λ (h : pos 0 ≤ℤ a).
    ⊎_elim
    (λ (g : pos 0 <ℤ a).
    let k = same_positive a b n m hn hm e g in
    (lt_no a (pos 0) h ∙ sym (lt_no b (pos 0) (omega (arith, signed))), lt_yes (pos 0) a g ∙ sym (lt_yes (pos 0) b k)))
    (λ (g : a ≤ℤ pos 0).
    let z : a ≡ pos 0 = omega (arith, signed) in
    let w : m *ℤ b ≡ pos 0 = mul_comm m b ∙ sym e ∙ nothing n z in
    let y : b ≡ pos 0 = no_zero_divisor m b w (omega (arith, signed)) in
    (ap (λ x. int_lt x (pos 0)) (z ∙ sym y), ap (λ x. int_lt (pos 0) x) (z ∙ sym y)))
    (order (pos 0) a))
    (order a (pos 0))
  where
    nothing : (n : ℤ) → a ≡ pos 0 → a *ℤ n ≡ pos 0
    nothing n z = rw (z, zero-*ℤ n)

same_quarter : (c d c' d' n m : ℤ) → pos 0 <ℤ n → pos 0 <ℤ m → c *ℤ n ≡ c' *ℤ m → d *ℤ n ≡ d' *ℤ m → quarter_by c d ≡ quarter_by c' d'
same_quarter c d c' d' n m hn hm e f =
    let a = same_tests c c' n m hn hm e in
    let b = same_tests d d' n m hn hm f in
    three _ _ _ _ _ _ a.0 a.1 b.0
  where
    by_three : Bool → Bool → Bool → ℕ
    by_three x y z = if x then 1 else (if y then 3 else (if z then 2 else 0))

    three : (x y z x' y' z' : Bool) → x ≡ x' → y ≡ y' → z ≡ z' →
        by_three x y z ≡ by_three x' y' z'
    three x y z x' y' z' e f g = cc

add_none : (a b c : ℤ) → b *ℤ pos 0 ≡ c → a +ℤ c ≡ a
add_none a b c e = let f : c ≡ pos 0 = sym e ∙ *ℤ-zero b in omega (arith, signed)

plus_times_zero : (x a b z : ℤ) → x ≡ a +ℤ b *ℤ z → z ≡ pos 0 → x ≡ a
plus_times_zero x a b z e f = let g : b *ℤ z ≡ pos 0 = ap (λ k. b *ℤ k) f ∙ *ℤ-zero b in omega (arith, signed)

minus_times_zero : (x a b z : ℤ) → x ≡ a -ℤ b *ℤ z → z ≡ pos 0 → x ≡ a
minus_times_zero x a b z e f = let g : b *ℤ z ≡ pos 0 = ap (λ k. b *ℤ k) f ∙ *ℤ-zero b in omega (arith, signed)

-- two directions that point the same way have lengths
own_length_positive : (u v : Direction) → OneDirection u v → pos 0 <ℤ dot u u
own_length_positive u v one =
    ⊎_elim
    (λ (h : pos 0 <ℤ dot u u). h)
    (λ (h : dot u u ≤ℤ pos 0).
    let k = length_not_negative u in
    let z : dot u u ≡ pos 0 = between (dot u u) h k in
    absurd (none (dot u u) (dot v v) (dot u v) (cross u v) (squares u v) z one.ahead))
    (order (pos 0) (dot u u))
  where
    between : (a : ℤ) → a ≤ℤ pos 0 → pos 0 ≤ℤ a → a ≡ pos 0
    between a h k = omega (arith, signed)

    none : (a b d c : ℤ) → a *ℤ b ≡ d *ℤ d +ℤ c *ℤ c → a ≡ pos 0 → pos 0 <ℤ d → ⊥
    none a b d c e z h =
        let f : a *ℤ b ≡ pos 0 = ap (λ k. k *ℤ b) z ∙ zero-*ℤ b in
        let g = mul_positive d d h h in
        let k = square_not_negative c in
        omega (arith, signed)

pub one_quarter : (r u v : Direction) → OneDirection u v → quarter r u ≡ quarter r v
one_quarter r u v one =
    let n = own_length_positive u v one in
    sym (same_quarter (cross r v) (dot r v) (cross r u) (dot r u) (dot u u) (dot u v) n one.ahead
    (plus_times_zero (cross r v *ℤ dot u u) (cross r u *ℤ dot u v) (dot r u) (cross u v) (cross_through r u v) one.straight)
    (minus_times_zero (dot r v *ℤ dot u u) (dot r u *ℤ dot u v) (cross r u) (cross u v) (dot_through r u v) one.straight))

pub one_turned : (u v : Direction) → OneDirection u v → OneDirection v u
one_turned u v one = record {
  straight = zero (cross u v) (cross v u) (cross_turned u v) one.straight;
  ahead = subst (λ k. pos 0 <ℤ k) (sym (dot_turned u v)) one.ahead;
}
  where
    zero : (a b : ℤ) → b ≡ neg_ℤ a → a ≡ pos 0 → b ≡ pos 0
    zero a b e f = omega (arith, signed)

pub quarter_of_one : (r u v : Direction) → OneDirection u v → quarter u r ≡ quarter v r
quarter_of_one r u v one =
    let n = own_length_positive u v one in
    sym (same_quarter (cross v r) (dot v r) (cross u r) (dot u r) (dot u u) (dot u v) n one.ahead
    (turned_through (cross v r) (cross u r) (cross r v) (cross r u) (dot u u) (dot u v) (cross_turned r v) (cross_turned r u)
    (plus_times_zero (cross r v *ℤ dot u u) (cross r u *ℤ dot u v) (dot r u) (cross u v) (cross_through r u v) one.straight))
    (rw (dot_turned r v, dot_turned r u)
    (minus_times_zero (dot r v *ℤ dot u u) (dot r u *ℤ dot u v) (cross r u) (cross u v) (dot_through r u v) one.straight)))
  where
    turned_through : (a b c d n m : ℤ) → a ≡ neg_ℤ c → b ≡ neg_ℤ d → c *ℤ n ≡ d *ℤ m → a *ℤ n ≡ b *ℤ m
    turned_through a b c d n m e f g = rw (e, f) (simp multiplied (omega (arith, signed)))

-- ---- the order
pub nearer_self : (r u : Direction) → is_nearer r u u ≡ false
nearer_self r u =
    false_from_ne_true (is_nearer r u u)
    (λ e. ⊎_elim
    (λ (h : quarter r u < quarter r u). omega arith)
    (λ (h : (quarter r u ≡ quarter r u) × (cross u u <ℤ pos 0) × ((quarter r u ≡ 1) ⊎ (quarter r u ≡ 3))). none (cross u u) (cross_self u) h.1)
    (nearer_out (quarter r u) (quarter r u) (cross u u) e))
  where
    none : (a : ℤ) → a ≡ pos 0 → a <ℤ pos 0 → ⊥
    none a e h = omega (arith, signed)

pub nearer_one : (r u v : Direction) → OneDirection u v → is_nearer r u v ≡ false
nearer_one r u v one =
    false_from_ne_true (is_nearer r u v)
    (λ e. ⊎_elim
    (λ (h : quarter r u < quarter r v). let f = one_quarter r u v one in unequal (quarter r u) (quarter r v) f h)
    (λ (h : (quarter r u ≡ quarter r v) × (cross u v <ℤ pos 0) × ((quarter r u ≡ 1) ⊎ (quarter r u ≡ 3))). none (cross u v) one.straight h.1)
    (nearer_out (quarter r u) (quarter r v) (cross u v) e))
  where
    none : (a : ℤ) → a ≡ pos 0 → a <ℤ pos 0 → ⊥
    none a e h = omega (arith, signed)

    unequal : (q p : ℕ) → q ≡ p → q < p → ⊥
    unequal q p e h = omega arith

-- three cross products of one sign, where z, w and y are those of the first and the second, the second and the third, and the first and the third
onward_right : (a b c z w y : ℤ) → b *ℤ y ≡ z *ℤ c +ℤ w *ℤ a → a <ℤ pos 0 → b <ℤ pos 0 → c <ℤ pos 0 → z <ℤ pos 0 → w <ℤ pos 0 → y <ℤ pos 0
onward_right a b c z w y e ha hb hc hz hw =
    let p = simp multiplied at (mul_positive (neg_ℤ z) (neg_ℤ c) (omega (arith, signed)) (omega (arith, signed))) in
    let q = simp multiplied at (mul_positive (neg_ℤ w) (neg_ℤ a) (omega (arith, signed)) (omega (arith, signed))) in
    ⊎_elim
    (λ (k : y <ℤ pos 0). k)
    (λ (k : pos 0 ≤ℤ y).
    let m = simp multiplied at (mul_not_negative (neg_ℤ b) y (omega (arith, signed)) k) in
    let e' = simp multiplied at e in
    absurd (omega (arith, signed)))
    (order y (pos 0))

onward_left : (a b c z w y : ℤ) → b *ℤ y ≡ z *ℤ c +ℤ w *ℤ a → pos 0 <ℤ a → pos 0 <ℤ b → pos 0 <ℤ c → z <ℤ pos 0 → w <ℤ pos 0 → y <ℤ pos 0
onward_left a b c z w y e ha hb hc hz hw =
    let p = simp multiplied at (mul_positive (neg_ℤ z) c (omega (arith, signed)) hc) in
    let q = simp multiplied at (mul_positive (neg_ℤ w) a (omega (arith, signed)) ha) in
    ⊎_elim
    (λ (k : y <ℤ pos 0). k)
    (λ (k : pos 0 ≤ℤ y).
    let m = mul_not_negative b y (omega (arith, signed)) k in
    let e' = simp multiplied at e in
    absurd (omega (arith, signed)))
    (order y (pos 0))

onward_by : (q p o : ℕ) (z w y : ℤ) → (q ≡ 1 → p ≡ 1 → o ≡ 1 → z <ℤ pos 0 → w <ℤ pos 0 → y <ℤ pos 0) → (q ≡ 3 → p ≡ 3 → o ≡ 3 → z <ℤ pos 0 → w <ℤ pos 0 → y <ℤ pos 0) → Nearer q p z → Nearer p o w → Nearer q o y
onward_by q p o z w y right left a b =
    ⊎_elim
    (λ (h : q < p). ⊎_elim
    (λ (k : p < o). inl (omega arith))
    (λ (k : (p ≡ o) × (w <ℤ pos 0) × ((p ≡ 1) ⊎ (p ≡ 3))). let e = k.0 in inl (omega arith))
    b)
    (λ (h : (q ≡ p) × (z <ℤ pos 0) × ((q ≡ 1) ⊎ (q ≡ 3))). ⊎_elim
    (λ (k : p < o). let e = h.0 in inl (omega arith))
    (λ (k : (p ≡ o) × (w <ℤ pos 0) × ((p ≡ 1) ⊎ (p ≡ 3))).
    let e = h.0 in
    let f = k.0 in
    inr (
      e ∙ f,
      ⊎_elim
          (λ (s : q ≡ 1). right s (sym e ∙ s) (sym f ∙ sym e ∙ s) h.1 k.1)
          (λ (s : q ≡ 3). left s (sym e ∙ s) (sym f ∙ sym e ∙ s) h.1 k.1)
          h.2,
      h.2,
    ))
    b)
    a

pub nearer_onward : (r u v w : Direction) → IsTrue (is_nearer r u v) → IsTrue (is_nearer r v w) → IsTrue (is_nearer r u w)
nearer_onward r u v w a b =
    nearer_in (quarter r u) (quarter r w) (cross u w)
    (onward_by (quarter r u) (quarter r v) (quarter r w) (cross u v) (cross v w) (cross u w)
    (λ e f g. onward_right (cross r u) (cross r v) (cross r w) (cross u v) (cross v w) (cross u w) (over_three r u v w) (is_right (cross r u) (dot r u) e) (is_right (cross r v) (dot r v) f) (is_right (cross r w) (dot r w) g))
    (λ e f g. onward_left (cross r u) (cross r v) (cross r w) (cross u v) (cross v w) (cross u w) (over_three r u v w) (is_left (cross r u) (dot r u) e) (is_left (cross r v) (dot r v) f) (is_left (cross r w) (dot r w) g))
    (nearer_out (quarter r u) (quarter r v) (cross u v) a)
    (nearer_out (quarter r v) (quarter r w) (cross v w) b))

-- ---- two of which neither is nearer
-- a dot product that is not 0, by the lengths
straight_dot : (r u : Direction) → IsNotZero r → IsNotZero u → cross r u ≡ pos 0 → dot r u ≢ pos 0
straight_dot r u hr hu e f = none (dot r r) (dot u u) (dot r u) (cross r u) (squares r u) (length_positive r hr) (length_positive u hu) e f
  where
    none : (n m d c : ℤ) → n *ℤ m ≡ d *ℤ d +ℤ c *ℤ c → pos 0 <ℤ n → pos 0 <ℤ m → c ≡ pos 0 → d ≡ pos 0 → ⊥
    none n m d c g hn hm e f =
        let p = mul_positive n m hn hm in
        let a : c *ℤ c ≡ pos 0 = ap (λ k. k *ℤ c) e ∙ zero-*ℤ c in
        let b : d *ℤ d ≡ pos 0 = ap (λ k. k *ℤ d) f ∙ zero-*ℤ d in
        omega (arith, signed)

pub ahead_dot : (r u : Direction) → IsNotZero r → IsNotZero u → cross r u ≡ pos 0 → pos 0 ≤ℤ dot r u → pos 0 <ℤ dot r u
ahead_dot r u hr hu e h = strict (dot r u) h (straight_dot r u hr hu e)
  where
    strict : (d : ℤ) → pos 0 ≤ℤ d → d ≢ pos 0 → pos 0 <ℤ d
    strict d h n = omega (arith, signed)

by_sides : (b a n m : ℤ) → pos 0 <ℤ n → b *ℤ n ≡ a *ℤ m → ((a <ℤ pos 0) × (b <ℤ pos 0)) ⊎ ((pos 0 <ℤ a) × (pos 0 <ℤ b)) → pos 0 <ℤ m
by_sides b a n m hn e s =
    ⊎_elim
    (λ (k : pos 0 <ℤ m). k)
    (λ (k : m ≤ℤ pos 0).
    ⊎_elim
    (λ (h : (a <ℤ pos 0) × (b <ℤ pos 0)).
    let ha = h.0 in
    let hb = h.1 in
    let p = simp multiplied at (mul_positive (neg_ℤ b) n (omega (arith, signed)) hn) in
    let q = simp multiplied at (mul_not_negative (neg_ℤ a) (neg_ℤ m) (omega (arith, signed)) (omega (arith, signed))) in
    absurd (omega (arith, signed)))
    (λ (h : (pos 0 <ℤ a) × (pos 0 <ℤ b)).
    let ha = h.0 in
    let hb = h.1 in
    let p = mul_positive b n hb hn in
    let q = simp multiplied at (mul_not_negative a (neg_ℤ m) (omega (arith, signed)) (omega (arith, signed))) in
    absurd (omega (arith, signed)))
    s)
    (order (pos 0) m)

-- both on one side of r and in line
beside_dot : (r u v : Direction) → IsNotZero u → cross u v ≡ pos 0 → ((cross r u <ℤ pos 0) × (cross r v <ℤ pos 0)) ⊎ ((pos 0 <ℤ cross r u) × (pos 0 <ℤ cross r v)) → pos 0 <ℤ dot u v
beside_dot r u v hu e s = by_sides (cross r v) (cross r u) (dot u u) (dot u v) (length_positive u hu) (plus_times_zero (cross r v *ℤ dot u u) (cross r u *ℤ dot u v) (dot r u) (cross u v) (cross_through r u v) e) s

-- both straight ahead of r, or both behind it
pub in_line_dot : (r u v : Direction) → IsNotZero u → cross u v ≡ pos 0 → ((dot r u <ℤ pos 0) × (dot r v <ℤ pos 0)) ⊎ ((pos 0 <ℤ dot r u) × (pos 0 <ℤ dot r v)) → pos 0 <ℤ dot u v
in_line_dot r u v hu e s = by_sides (dot r v) (dot r u) (dot u u) (dot u v) (length_positive u hu) (minus_times_zero (dot r v *ℤ dot u u) (dot r u *ℤ dot u v) (cross r u) (cross u v) (dot_through r u v) e) s

-- two in one quarter from r, whose cross product is 0 where the quarter is a side
one_in_quarter : (r u v : Direction) → IsNotZero r → IsNotZero u → IsNotZero v → quarter r u ≡ quarter r v → ((quarter r u ≡ 1) ⊎ (quarter r u ≡ 3) → cross u v ≡ pos 0) → OneDirection u v
one_in_quarter r u v hr hu hv e side =
    by_quarter (λ q. quarter r u ≡ q → OneDirection u v) (cross r u) (dot r u)
    (λ h f. let z = side (inl f) in record { straight = z; ahead = beside_dot r u v hu z (inl (h, is_right (cross r v) (dot r v) (sym e ∙ f))) })
    (λ h f. let z = side (inr f) in record { straight = z; ahead = beside_dot r u v hu z (inr (h, is_left (cross r v) (dot r v) (sym e ∙ f))) })
    (λ c h f.
    let k = is_behind (cross r v) (dot r v) (sym e ∙ f) in
    let z = in_line (cross u v) (dot r r) (cross u r) (dot r v) (dot u r) (cross r v) (cross_through u r v) (length_positive r hr) (zero (cross r u) (cross u r) (cross_turned r u) c) k.0 in
    record { straight = z; ahead = in_line_dot r u v hu z (inl (h, k.1)) })
    (λ c h f.
    let k = is_in_front (cross r v) (dot r v) (sym e ∙ f) in
    let z = in_line (cross u v) (dot r r) (cross u r) (dot r v) (dot u r) (cross r v) (cross_through u r v) (length_positive r hr) (zero (cross r u) (cross u r) (cross_turned r u) c) k.0 in
    record { straight = z; ahead = in_line_dot r u v hu z (inr (ahead_dot r u hr hu c h, ahead_dot r v hr hv k.0 k.1)) })
    refl
  where
    zero : (a b : ℤ) → b ≡ neg_ℤ a → a ≡ pos 0 → b ≡ pos 0
    zero a b e f = omega (arith, signed)

    in_line : (z n a m d b : ℤ) → z *ℤ n ≡ a *ℤ m +ℤ d *ℤ b → pos 0 <ℤ n → a ≡ pos 0 → b ≡ pos 0 → z ≡ pos 0
    in_line z n a m d b e hn f g =
        let p : a *ℤ m ≡ pos 0 = ap (λ k. k *ℤ m) f ∙ zero-*ℤ m in
        let q : d *ℤ b ≡ pos 0 = ap (λ k. d *ℤ k) g ∙ *ℤ-zero d in
        let w : z *ℤ n ≡ pos 0 = omega (arith, signed) in
        no_zero_divisor n z (mul_comm n z ∙ w) (omega (arith, signed))

pub nearer_total : (r u v : Direction) → IsNotZero r → IsNotZero u → IsNotZero v → is_nearer r u v ≡ false → is_nearer r v u ≡ false → OneDirection u v
nearer_total r u v hr hu hv e f =
    one_in_quarter r u v hr hu hv
    (level (quarter r u) (quarter r v) (λ h. not_nearer r u v e (inl h)) (λ h. not_nearer r v u f (inl h)))
    (λ s. flat (cross u v) (cross v u) (cross_turned u v)
    (λ h. not_nearer r u v e (inr (level (quarter r u) (quarter r v) (λ h. not_nearer r u v e (inl h)) (λ h. not_nearer r v u f (inl h)), h, s)))
    (λ h. not_nearer r v u f (inr (
      sym (level (quarter r u) (quarter r v) (λ h. not_nearer r u v e (inl h)) (λ h. not_nearer r v u f (inl h))),
      h,
      moved (quarter r u) (quarter r v) (level (quarter r u) (quarter r v) (λ h. not_nearer r u v e (inl h)) (λ h. not_nearer r v u f (inl h))) s,
    ))))
  where
    not_nearer : (r u v : Direction) → is_nearer r u v ≡ false → Nearer (quarter r u) (quarter r v) (cross u v) → ⊥
    not_nearer r u v e n = both_ways (is_nearer r u v) e (nearer_in (quarter r u) (quarter r v) (cross u v) n)

    level : (q p : ℕ) → (q < p → ⊥) → (p < q → ⊥) → q ≡ p
    level q p h k = ⊎_elim (λ (e : q ≡ p). e) (λ (s : (q < p) ⊎ (p < q)). ⊎_elim (λ (g : q < p). absurd (h g)) (λ (g : p < q). absurd (k g)) s) (cases_order q p)

    flat : (a b : ℤ) → b ≡ neg_ℤ a → (a <ℤ pos 0 → ⊥) → (b <ℤ pos 0 → ⊥) → a ≡ pos 0
    flat a b e h k =
        ⊎_elim
        (λ (g : a <ℤ pos 0). absurd (h g))
        (λ (g : pos 0 ≤ℤ a). ⊎_elim (λ (l : pos 0 <ℤ a). absurd (k (omega (arith, signed)))) (λ (l : a ≤ℤ pos 0). omega (arith, signed)) (order (pos 0) a))
        (order a (pos 0))

    moved : (q p : ℕ) → q ≡ p → (q ≡ 1) ⊎ (q ≡ 3) → (p ≡ 1) ⊎ (p ≡ 3)
    moved q p e = ⊎_elim (λ (s : q ≡ 1). inl (sym e ∙ s)) (λ (s : q ≡ 3). inr (sym e ∙ s))

-- ---- one direction by the test, and by lengths
pub same_out : (u v : Direction) → IsNotZero u → IsNotZero v → IsTrue (same_direction u v) → OneDirection u v
same_out u v hu hv e =
    let k = is_in_front (cross u v) (dot u v) (eqb-true (quarter u v) 0 e) in
    record { straight = k.0; ahead = ahead_dot u v hu hv k.0 k.1 }

pub same_in : (u v : Direction) → OneDirection u v → IsTrue (same_direction u v)
same_in u v one = eq-eqb (quarter u v) 0 (in_front (cross u v) (dot u v) one.straight (weak (dot u v) one.ahead))
  where
    weak : (a : ℤ) → pos 0 <ℤ a → pos 0 ≤ℤ a
    weak a h = omega (arith, signed)

across_through : (u v : Direction) → dot u v *ℤ u.dx ≡ dot u u *ℤ v.dx +ℤ u.dy *ℤ cross u v
across_through u v = simp multiplied (simp summed (diff-same _ _ _ _ (omega arith)))

upward_through : (u v : Direction) → dot u v *ℤ u.dy ≡ dot u u *ℤ v.dy -ℤ u.dx *ℤ cross u v
upward_through u v = simp multiplied (simp summed (diff-same _ _ _ _ (omega arith)))

pub multiple_of_one : (u v : Direction) → OneDirection u v → IsMultiple u v
multiple_of_one u v one = (
  dot u v,
  dot u u,
  (
    one.ahead,
    own_length_positive u v one,
    plus_times_zero (dot u v *ℤ u.dx) (dot u u *ℤ v.dx) u.dy (cross u v) (across_through u v) one.straight,
    minus_times_zero (dot u v *ℤ u.dy) (dot u u *ℤ v.dy) u.dx (cross u v) (upward_through u v) one.straight,
  ),
)

-- ---- v after u as seen from r is r after v as seen from u: p, q and s are the cross products of r and u, r and v, u and v, and a, b and c the dot products
behind_cross : (p q s a b n : ℤ) → pos 0 <ℤ n → s *ℤ n ≡ neg_ℤ p *ℤ b +ℤ a *ℤ q → p <ℤ pos 0 → q ≡ pos 0 → b <ℤ pos 0 → s <ℤ pos 0
behind_cross p q s a b n hn e hp hq hb =
    let w : a *ℤ q ≡ pos 0 = ap (λ k. a *ℤ k) hq ∙ *ℤ-zero a in
    let m = mul_positive (neg_ℤ p) (neg_ℤ b) (omega (arith, signed)) (omega (arith, signed)) in
    let g = mul_neg (neg_ℤ p) b in
    let t : (neg_ℤ p *ℤ b) *ℤ pos 1 ≡ s *ℤ n = times_one (neg_ℤ p *ℤ b) ∙ (omega (arith, signed)) in
    same_negative (neg_ℤ p *ℤ b) s (pos 1) n (omega (arith, signed)) hn t (omega (arith, signed))

ahead_cross : (p q s a b n : ℤ) → pos 0 <ℤ n → s *ℤ n ≡ neg_ℤ p *ℤ b +ℤ a *ℤ q → p ≡ pos 0 → a <ℤ pos 0 → pos 0 <ℤ q → s <ℤ pos 0
ahead_cross p q s a b n hn e hp ha hq =
    let w : neg_ℤ p *ℤ b ≡ pos 0 = ap (λ k. neg_ℤ k *ℤ b) hp ∙ zero-*ℤ b in
    let m = mul_positive (neg_ℤ a) q (omega (arith, signed)) hq in
    let g = neg_mul a q in
    let t : (a *ℤ q) *ℤ pos 1 ≡ s *ℤ n = times_one (a *ℤ q) ∙ (omega (arith, signed)) in
    same_negative (a *ℤ q) s (pos 1) n (omega (arith, signed)) hn t (omega (arith, signed))

right_case : (p q s a b c n k : ℤ) → pos 0 <ℤ n → pos 0 <ℤ k → s *ℤ n ≡ neg_ℤ p *ℤ b +ℤ a *ℤ q → q *ℤ k ≡ p *ℤ c +ℤ a *ℤ s → p <ℤ pos 0 →
    Nearer 1 (quarter_by q b) s → Nearer (quarter_by s c) 3 (neg_ℤ q)
right_case p q s a b c n k hn hk e f hp =
    by_quarter (λ y. Nearer 1 y s → Nearer (quarter_by s c) 3 (neg_ℤ q)) q b
    (λ h. ⊎_elim (λ (l : 1 < 1). absurd (omega arith)) (λ (l : (1 ≡ 1) × (s <ℤ pos 0) × ((1 ≡ 1) ⊎ (1 ≡ 3))). less (to_right s c l.1)))
    (λ h near. by_quarter (λ z. Nearer z 3 (neg_ℤ q)) s c (λ l. inl (omega arith)) (λ l. inr (refl, omega (arith, signed), inr refl)) (λ z l. inl (omega arith)) (λ z l. absurd (level h z l)))
    (λ z h near. less (to_right s c (behind_cross p q s a b n hn e hp z h)))
    (λ z h. ⊎_elim (λ (l : 1 < 0). absurd (omega arith)) (λ (l : (1 ≡ 0) × (s <ℤ pos 0) × ((1 ≡ 1) ⊎ (1 ≡ 3))). let m = l.0 in absurd (omega arith)))
  where
    less : quarter_by s c ≡ 1 → Nearer (quarter_by s c) 3 (neg_ℤ q)
    less g = inl (omega arith)

    level : pos 0 <ℤ q → s ≡ pos 0 → pos 0 ≤ℤ c → ⊥
    level h z l =
        let w : a *ℤ s ≡ pos 0 = ap (λ k. a *ℤ k) z ∙ *ℤ-zero a in
        let x = mul_positive q k h hk in
        let y = mul_not_negative (neg_ℤ p) c (omega (arith, signed)) l in
        let g = neg_mul p c in
        omega (arith, signed)

cyclic_by : (p q s a b c n k : ℤ) → pos 0 <ℤ n → pos 0 <ℤ k → s *ℤ n ≡ neg_ℤ p *ℤ b +ℤ a *ℤ q → q *ℤ k ≡ p *ℤ c +ℤ a *ℤ s →
    (quarter_by p a ≡ 0 → ⊥) → Nearer (quarter_by p a) (quarter_by q b) s → Nearer (quarter_by s c) (quarter_by (neg_ℤ p) a) (neg_ℤ q)
cyclic_by p q s a b c n k hn hk e f =
    by_quarter (λ x. (x ≡ 0 → ⊥) → Nearer x (quarter_by q b) s → Nearer (quarter_by s c) (quarter_by (neg_ℤ p) a) (neg_ℤ q)) p a
    (λ h nz near. subst (λ y. Nearer (quarter_by s c) y (neg_ℤ q)) (sym (to_left (neg_ℤ p) a (omega (arith, signed)))) (right_case p q s a b c n k hn hk e f h near))
    (λ h nz near. subst (λ y. Nearer (quarter_by s c) y (neg_ℤ q)) (sym (to_right (neg_ℤ p) a (omega (arith, signed)))) (left_case near))
    (λ z h nz near. subst (λ y. Nearer (quarter_by s c) y (neg_ℤ q)) (sym (behind (neg_ℤ p) a (omega (arith, signed)) h)) (back_case z h near))
    (λ z h nz near. absurd (nz refl))
  where
    left_case : Nearer 3 (quarter_by q b) s → Nearer (quarter_by s c) 1 (neg_ℤ q)
    left_case = by_quarter (λ y. Nearer 3 y s → Nearer (quarter_by s c) 1 (neg_ℤ q)) q b
        (λ h. ⊎_elim (λ (l : 3 < 1). absurd (omega arith)) (λ (l : (3 ≡ 1) × (s <ℤ pos 0) × ((3 ≡ 1) ⊎ (3 ≡ 3))). let m = l.0 in absurd (omega arith)))
        (λ h. ⊎_elim (λ (l : 3 < 3). absurd (omega arith)) (λ (l : (3 ≡ 3) × (s <ℤ pos 0) × ((3 ≡ 1) ⊎ (3 ≡ 3))). let m = to_right s c l.1 in inr (m, omega (arith, signed), inl m)))
        (λ z h. ⊎_elim (λ (l : 3 < 2). absurd (omega arith)) (λ (l : (3 ≡ 2) × (s <ℤ pos 0) × ((3 ≡ 1) ⊎ (3 ≡ 3))). let m = l.0 in absurd (omega arith)))
        (λ z h. ⊎_elim (λ (l : 3 < 0). absurd (omega arith)) (λ (l : (3 ≡ 0) × (s <ℤ pos 0) × ((3 ≡ 1) ⊎ (3 ≡ 3))). let m = l.0 in absurd (omega arith)))

    back_case : p ≡ pos 0 → a <ℤ pos 0 → Nearer 2 (quarter_by q b) s → Nearer (quarter_by s c) 2 (neg_ℤ q)
    back_case hp ha = by_quarter (λ y. Nearer 2 y s → Nearer (quarter_by s c) 2 (neg_ℤ q)) q b
        (λ h. ⊎_elim (λ (l : 2 < 1). absurd (omega arith)) (λ (l : (2 ≡ 1) × (s <ℤ pos 0) × ((2 ≡ 1) ⊎ (2 ≡ 3))). let m = l.0 in absurd (omega arith)))
        (λ h near. let m = to_right s c (ahead_cross p q s a b n hn e hp ha h) in inl (omega arith))
        (λ z h. ⊎_elim (λ (l : 2 < 2). absurd (omega arith)) (λ (l : (2 ≡ 2) × (s <ℤ pos 0) × ((2 ≡ 1) ⊎ (2 ≡ 3))). absurd (⊎_elim (λ (m : 2 ≡ 1). omega arith) (λ (m : 2 ≡ 3). omega arith) l.2)))
        (λ z h. ⊎_elim (λ (l : 2 < 0). absurd (omega arith)) (λ (l : (2 ≡ 0) × (s <ℤ pos 0) × ((2 ≡ 1) ⊎ (2 ≡ 3))). let m = l.0 in absurd (omega arith)))

pub nearer_cyclic : (r u v : Direction) → IsNotZero r → IsNotZero u → IsTrue (is_nearer r u v) → same_direction r u ≡ false → IsTrue (is_nearer u v r)
nearer_cyclic r u v hr hu near apart =
    nearer_in (quarter u v) (quarter u r) (cross v r)
    (rw (cross_turned r u, dot_turned r u, cross_turned r v)
    (cyclic_by (cross r u) (cross r v) (cross u v) (dot r u) (dot r v) (dot u v) (dot r r) (dot u u) (length_positive r hr) (length_positive u hu)
    (subst (λ k. cross u v *ℤ dot r r ≡ k *ℤ dot r v +ℤ dot r u *ℤ cross r v) (cross_turned r u)
    (subst (λ k. cross u v *ℤ dot r r ≡ cross u r *ℤ dot r v +ℤ k *ℤ cross r v) (dot_turned r u) (cross_through u r v)))
    (cross_through r u v)
    (λ e. both_ways (same_direction r u) apart (eq-eqb (quarter r u) 0 e))
    (nearer_out (quarter r u) (quarter r v) (cross u v) near)))

-- ---- the law
pub clockwise_is_order : ClockwiseIsOrder
clockwise_is_order = record {
  order = λ r hr. record {
    irreflexive = nearer_self r;
    transitive = nearer_onward r;
    total = λ u v hu hv. nearer_total r u v hr hu hv;
    equal = λ u v one. (nearer_one r u v one, nearer_one r v u (one_turned u v one));
    lengths = one_quarter r;
    own_length = quarter_of_one r;
    cyclic = λ u v hu. nearer_cyclic r u v hr hu;
  };
  same = λ u v hu hv. (same_out u v hu hv, same_in u v);
  multiple = multiple_of_one;
}

-- A point on the way from q to m, by its two distances: the value of a linear function there is made of those at q and at m.
use Rattle.std.proofs.Common.{◌≡◌, ◌≢◌, ◌∙◌, ap, arith, ℤ, pos, ◌+ℤ◌, ◌-ℤ◌, ◌*ℤ◌, ◌<ℤ◌, ◌≤ℤ◌, ◌⊎◌, inl, inr, ⊎_elim}
use Rattle.std.specs.Prelude.{neg_ℤ}
use Rattle.std.proofs.Math.IntN.{*ℤ-zero, zero-*ℤ}
use Rattle.topo_base.specs.RationalPoint.{RationalPoint, IsBetween, SamePoint}
use Rattle.plane.specs.RationalTests.{IsOnWay}
use Rattle.plane.proofs.Middle.{equal_or_not, not_zero, cancel_le}
use Rattle.plane.proofs.Ring.{mul_comm, mul_neg, multiplied, signed}
use Rattle.plane.proofs.Signs.{mul_not_negative, mul_positive, no_zero_divisor, cancel, order}

-- u x + v y + w at a point, times its denominator
abbrev pub level : ℤ → ℤ → ℤ → RationalPoint → ℤ
level u v w p = u *ℤ p.x +ℤ v *ℤ p.y +ℤ w *ℤ p.d

-- ---- the distances along one axis: from q to m, from q to r, and from r to m
record AreInRow (A X Z d e k : ℤ) : Type 0 where
  sum : k *ℤ A ≡ e *ℤ X +ℤ d *ℤ Z
  one_way : ((pos 0 ≤ℤ X) × (pos 0 ≤ℤ Z)) ⊎ ((X ≤ℤ pos 0) × (Z ≤ℤ pos 0))

divided : (z d : ℤ) → pos 0 <ℤ d → pos 0 ≤ℤ (z *ℤ d) → pos 0 ≤ℤ z
divided z d h k = cancel_le (pos 0) z d h (let e = zero-*ℤ d in omega (arith, signed))

divided_below : (z d : ℤ) → pos 0 <ℤ d → (z *ℤ d) ≤ℤ pos 0 → z ≤ℤ pos 0
divided_below z d h k = cancel_le z (pos 0) d h (let e = zero-*ℤ d in omega (arith, signed))

not_positive : (a b : ℤ) → pos 0 ≤ℤ a → b ≤ℤ pos 0 → (a *ℤ b) ≤ℤ pos 0
not_positive a b h k = let w = mul_neg a b in let v = mul_not_negative a (neg_ℤ b) h (omega (arith, signed)) in omega (arith, signed)

in_row : (qx qd mx md rx rd : ℤ) → pos 0 <ℤ qd → pos 0 <ℤ md → pos 0 <ℤ rd → IsBetween (qx *ℤ (rd *ℤ md)) (rx *ℤ (qd *ℤ md)) (mx *ℤ (qd *ℤ rd)) →
    AreInRow (mx *ℤ qd -ℤ qx *ℤ md) (rx *ℤ qd -ℤ qx *ℤ rd) (mx *ℤ rd -ℤ rx *ℤ md) qd md rd
in_row qx qd mx md rx rd hq hm hr b = record {
  sum = simp multiplied (omega (arith, signed));
  one_way = ⊎_elim
      (λ (g : ((qx *ℤ (rd *ℤ md)) ≤ℤ (rx *ℤ (qd *ℤ md))) × ((rx *ℤ (qd *ℤ md)) ≤ℤ (mx *ℤ (qd *ℤ rd)))).
      let g0 = g.0 in let g1 = g.1 in
      inl (divided (rx *ℤ qd -ℤ qx *ℤ rd) md hm (let e = first in omega (arith, signed)), divided (mx *ℤ rd -ℤ rx *ℤ md) qd hq (let e = second in omega (arith, signed))))
      (λ (g : ((mx *ℤ (qd *ℤ rd)) ≤ℤ (rx *ℤ (qd *ℤ md))) × ((rx *ℤ (qd *ℤ md)) ≤ℤ (qx *ℤ (rd *ℤ md)))).
      let g0 = g.0 in let g1 = g.1 in
      inr (divided_below (rx *ℤ qd -ℤ qx *ℤ rd) md hm (let e = first in omega (arith, signed)), divided_below (mx *ℤ rd -ℤ rx *ℤ md) qd hq (let e = second in omega (arith, signed))))
      b;
}
  where
    first : (rx *ℤ qd -ℤ qx *ℤ rd) *ℤ md ≡ rx *ℤ (qd *ℤ md) -ℤ qx *ℤ (rd *ℤ md)
    first = simp multiplied (omega (arith, signed))

    second : (mx *ℤ rd -ℤ rx *ℤ md) *ℤ qd ≡ mx *ℤ (qd *ℤ rd) -ℤ rx *ℤ (qd *ℤ md)
    second = simp multiplied (omega (arith, signed))

-- the whole distance has the sign of its parts
signs : (A X Z d e k : ℤ) → pos 0 <ℤ d → pos 0 <ℤ e → pos 0 <ℤ k → AreInRow A X Z d e k → (pos 0 ≤ℤ (A *ℤ X)) × (pos 0 ≤ℤ (A *ℤ Z))
signs A X Z d e k hd he hk row =
    ⊎_elim
    (λ (g : (pos 0 ≤ℤ X) × (pos 0 ≤ℤ Z)).
    let p = mul_not_negative e X (omega (arith, signed)) g.0 in
    let q = mul_not_negative d Z (omega (arith, signed)) g.1 in
    let s = row.sum in
    let a = divided A k hk (let t = turn A k in omega (arith, signed)) in
    (mul_not_negative A X a g.0, mul_not_negative A Z a g.1))
    (λ (g : (X ≤ℤ pos 0) × (Z ≤ℤ pos 0)).
    let g0 = g.0 in let g1 = g.1 in
    let p = not_positive e X (omega (arith, signed)) g.0 in
    let q = not_positive d Z (omega (arith, signed)) g.1 in
    let s = row.sum in
    let a = divided_below A k hk (let t = turn A k in omega (arith, signed)) in
    (both A X a g0, both A Z a g1))
    row.one_way
  where
    turn : (a b : ℤ) → a *ℤ b ≡ b *ℤ a
    turn a b = simp multiplied

    both : (a b : ℤ) → a ≤ℤ pos 0 → b ≤ℤ pos 0 → pos 0 ≤ℤ (a *ℤ b)
    both a b h k = let w = simp multiplied at (mul_not_negative (neg_ℤ a) (neg_ℤ b) (omega (arith, signed)) (omega (arith, signed))) in omega (arith, signed)

-- no distance to the end, where it is none along the whole
none_left : (A X Z d e k : ℤ) → pos 0 <ℤ d → pos 0 <ℤ e → AreInRow A X Z d e k → A *ℤ Z ≡ pos 0 → Z ≡ pos 0
none_left A X Z d e k hd he row zero =
    ⊎_elim
    (λ (none : A ≡ pos 0).
    let s = row.sum in
    let t = no_product A k none in
    no_zero_divisor d Z
    (⊎_elim
    (λ (g : (pos 0 ≤ℤ X) × (pos 0 ≤ℤ Z)).
    let p = mul_not_negative e X (omega (arith, signed)) g.0 in
    let q = mul_not_negative d Z (omega (arith, signed)) g.1 in
    omega (arith, signed))
    (λ (g : (X ≤ℤ pos 0) × (Z ≤ℤ pos 0)).
    let g0 = g.0 in let g1 = g.1 in
    let p = not_positive e X (omega (arith, signed)) g.0 in
    let q = not_positive d Z (omega (arith, signed)) g.1 in
    omega (arith, signed))
    row.one_way)
    (not_zero d hd))
    (λ (some : A ≢ pos 0). no_zero_divisor A Z zero some)
    (equal_or_not A (pos 0))
  where
    no_product : (a b : ℤ) → a ≡ pos 0 → b *ℤ a ≡ pos 0
    no_product a b e = rw (e, *ℤ-zero b)

-- ---- the value at r, times the square of the distance from q to m
turned : (A B X Y u v : ℤ) → A *ℤ Y ≡ B *ℤ X → (A *ℤ A +ℤ B *ℤ B) *ℤ (u *ℤ X +ℤ v *ℤ Y) ≡ (A *ℤ X +ℤ B *ℤ Y) *ℤ (u *ℤ A +ℤ v *ℤ B)
turned A B X Y u v e =
    let f = simp multiplied at (ap (λ z. (u *ℤ B) *ℤ z) e) in
    let g = simp multiplied at (ap (λ z. (v *ℤ A) *ℤ z) e) in
    simp multiplied (omega (arith, signed))

from_first : (u v w qx qy qd rx ry rd : ℤ) → (u *ℤ rx +ℤ v *ℤ ry +ℤ w *ℤ rd) *ℤ qd ≡ rd *ℤ (u *ℤ qx +ℤ v *ℤ qy +ℤ w *ℤ qd) +ℤ (u *ℤ (rx *ℤ qd -ℤ qx *ℤ rd) +ℤ v *ℤ (ry *ℤ qd -ℤ qy *ℤ rd))
from_first u v w qx qy qd rx ry rd = simp multiplied (omega (arith, signed))

weighed : (N S T lq lm lr qd md rd p s : ℤ) → qd ≢ pos 0 → lr *ℤ qd ≡ rd *ℤ lq +ℤ p → lm *ℤ qd ≡ md *ℤ lq +ℤ s → N *ℤ p ≡ T *ℤ s → N *ℤ rd ≡ T *ℤ md +ℤ S *ℤ qd → N *ℤ lr ≡ S *ℤ lq +ℤ T *ℤ lm
weighed N S T lq lm lr qd md rd p s some a b c d =
    cancel (N *ℤ lr) (S *ℤ lq +ℤ T *ℤ lm) qd
    (let a' = simp multiplied at (ap (λ z. N *ℤ z) a) in
    let b' = simp multiplied at (ap (λ z. T *ℤ z) b) in
    let d' = simp multiplied at (ap (λ z. lq *ℤ z) d) in
    simp multiplied (omega (arith, signed)))
    some

-- r is between q and m, with these weights
pub record IsWeighed (r q m : RationalPoint) (N S T : ℤ) : Type 0 where
  pub first : pos 0 ≤ℤ S
  pub second : pos 0 ≤ℤ T
  pub sum : N *ℤ r.d ≡ T *ℤ m.d +ℤ S *ℤ q.d
  pub levels : (u v w : ℤ) → N *ℤ level u v w r ≡ S *ℤ level u v w q +ℤ T *ℤ level u v w m
  pub arrived : S ≡ pos 0 → SamePoint r m

-- the square of the distance, and the weights of q and of m
abbrev pub square : RationalPoint → RationalPoint → ℤ
square q m =
    (m.x *ℤ q.d -ℤ q.x *ℤ m.d) *ℤ (m.x *ℤ q.d -ℤ q.x *ℤ m.d)
    +ℤ (m.y *ℤ q.d -ℤ q.y *ℤ m.d) *ℤ (m.y *ℤ q.d -ℤ q.y *ℤ m.d)

abbrev pub weight : RationalPoint → RationalPoint → RationalPoint → RationalPoint → ℤ
weight q m r z =
    (m.x *ℤ q.d -ℤ q.x *ℤ m.d) *ℤ (z.x *ℤ r.d -ℤ r.x *ℤ z.d)
    +ℤ (m.y *ℤ q.d -ℤ q.y *ℤ m.d) *ℤ (z.y *ℤ r.d -ℤ r.y *ℤ z.d)

pub weights : (r q m : RationalPoint) → IsOnWay r q m → IsWeighed r q m (square q m) (weight q m r m) (weight q m q r)
weights r q m way = record {
  first = sum_not_negative (A *ℤ X') (B *ℤ Y') sx.1 sy.1;
  second = sum_not_negative (A *ℤ X) (B *ℤ Y) sx.0 sy.0;
  sum = summed_up A B X Y X' Y' q.d m.d r.d rowx.sum rowy.sum;
  levels = λ u v w. weighed (square q m) (weight q m r m) (weight q m q r) (level u v w q) (level u v w m) (level u v w r) q.d m.d r.d (u *ℤ X +ℤ v *ℤ Y) (u *ℤ A +ℤ v *ℤ B) (not_zero q.d q.whole)
      (from_first u v w q.x q.y q.d r.x r.y r.d)
      (from_first u v w q.x q.y q.d m.x m.y m.d)
      (turned A B X Y u v way.straight)
      (summed_up A B X Y X' Y' q.d m.d r.d rowx.sum rowy.sum);
  arrived = λ e.
      let none = both_none (A *ℤ X') (B *ℤ Y') sx.1 sy.1 e in
      (ended r.x m.d m.x r.d (none_left A X X' q.d m.d r.d q.whole m.whole rowx none.0), ended r.y m.d m.y r.d (none_left B Y Y' q.d m.d r.d q.whole m.whole rowy none.1));
}
  where
    A : ℤ
    A = m.x *ℤ q.d -ℤ q.x *ℤ m.d

    B : ℤ
    B = m.y *ℤ q.d -ℤ q.y *ℤ m.d

    X : ℤ
    X = r.x *ℤ q.d -ℤ q.x *ℤ r.d

    Y : ℤ
    Y = r.y *ℤ q.d -ℤ q.y *ℤ r.d

    X' : ℤ
    X' = m.x *ℤ r.d -ℤ r.x *ℤ m.d

    Y' : ℤ
    Y' = m.y *ℤ r.d -ℤ r.y *ℤ m.d

    rowx : AreInRow (m.x *ℤ q.d -ℤ q.x *ℤ m.d) (r.x *ℤ q.d -ℤ q.x *ℤ r.d) (m.x *ℤ r.d -ℤ r.x *ℤ m.d) q.d m.d r.d
    rowx = in_row q.x q.d m.x m.d r.x r.d q.whole m.whole r.whole way.across

    rowy : AreInRow (m.y *ℤ q.d -ℤ q.y *ℤ m.d) (r.y *ℤ q.d -ℤ q.y *ℤ r.d) (m.y *ℤ r.d -ℤ r.y *ℤ m.d) q.d m.d r.d
    rowy = in_row q.y q.d m.y m.d r.y r.d q.whole m.whole r.whole way.upward

    sx : (pos 0 ≤ℤ (A *ℤ X)) × (pos 0 ≤ℤ (A *ℤ X'))
    sx = signs A X X' q.d m.d r.d q.whole m.whole r.whole rowx

    sy : (pos 0 ≤ℤ (B *ℤ Y)) × (pos 0 ≤ℤ (B *ℤ Y'))
    sy = signs B Y Y' q.d m.d r.d q.whole m.whole r.whole rowy

    sum_not_negative : (a b : ℤ) → pos 0 ≤ℤ a → pos 0 ≤ℤ b → pos 0 ≤ℤ (a +ℤ b)
    sum_not_negative a b h k = omega (arith, signed)

    both_none : (a b : ℤ) → pos 0 ≤ℤ a → pos 0 ≤ℤ b → a +ℤ b ≡ pos 0 → (a ≡ pos 0) × (b ≡ pos 0)
    both_none a b h k e = (omega (arith, signed), omega (arith, signed))

    ended : (a d b e : ℤ) → b *ℤ e -ℤ a *ℤ d ≡ pos 0 → a *ℤ d ≡ b *ℤ e
    ended a d b e h = omega (arith, signed)

    summed_up : (A B X Y X' Y' d e k : ℤ) → k *ℤ A ≡ e *ℤ X +ℤ d *ℤ X' → k *ℤ B ≡ e *ℤ Y +ℤ d *ℤ Y' → (A *ℤ A +ℤ B *ℤ B) *ℤ k ≡ (A *ℤ X +ℤ B *ℤ Y) *ℤ e +ℤ (A *ℤ X' +ℤ B *ℤ Y') *ℤ d
    summed_up A B X Y X' Y' d e k f g =
        let f' = simp multiplied at (ap (λ z. A *ℤ z) f) in
        let g' = simp multiplied at (ap (λ z. B *ℤ z) g) in
        simp multiplied (omega (arith, signed))

-- ---- what a linear function is on the way
-- above 0, where it is at both ends
pub above_on_way : (r q m : RationalPoint) (u v w : ℤ) → pos 0 <ℤ square q m → IsOnWay r q m → pos 0 <ℤ level u v w q → pos 0 <ℤ level u v w m → pos 0 <ℤ level u v w r
above_on_way r q m u v w some way hq hm = from_weights (square q m) (weight q m r m) (weight q m q r) some (weights r q m way)
  where
    from_weights : (N S T : ℤ) → pos 0 <ℤ N → IsWeighed r q m N S T → pos 0 <ℤ level u v w r
    from_weights N S T some h =
        let e = h.levels u v w in
        let s = mul_not_negative S (level u v w q) h.first (omega (arith, signed)) in
        let t = mul_not_negative T (level u v w m) h.second (omega (arith, signed)) in
        ⊎_elim
        (λ (g : pos 0 <ℤ level u v w r). g)
        (λ (g : level u v w r ≤ℤ pos 0).
        let k = not_positive N (level u v w r) (omega (arith, signed)) g in
        let s0 = no_zero_divisor (level u v w q) S (times (level u v w q) S (omega (arith, signed))) (not_zero (level u v w q) hq) in
        let t0 = no_zero_divisor (level u v w m) T (times (level u v w m) T (omega (arith, signed))) (not_zero (level u v w m) hm) in
        let n = mul_positive N r.d some r.whole in
        let none = nothing T S m.d q.d t0 s0 in
        let sum = h.sum in
        absurd (omega (arith, signed)))
        (order (pos 0) (level u v w r))
      where
        times : (a b : ℤ) → b *ℤ a ≡ pos 0 → a *ℤ b ≡ pos 0
        times a b e = mul_comm a b ∙ e

        nothing : (a b c d : ℤ) → a ≡ pos 0 → b ≡ pos 0 → a *ℤ c +ℤ b *ℤ d ≡ pos 0
        nothing a b c d e f = rw (e, f, zero-*ℤ c, zero-*ℤ d)

-- where it is 0 at m and above 0 at q, it is above 0 everywhere else
pub only_at_end : (r q m : RationalPoint) (u v w : ℤ) → pos 0 <ℤ square q m → IsOnWay r q m → pos 0 <ℤ level u v w q → level u v w m ≡ pos 0 → level u v w r ≡ pos 0 → SamePoint r m
only_at_end r q m u v w some way hq hm hr = from_weights (square q m) (weight q m r m) (weight q m q r) (weights r q m way)
  where
    from_weights : (N S T : ℤ) → IsWeighed r q m N S T → SamePoint r m
    from_weights N S T h =
        h.arrived (no_zero_divisor (level u v w q) S (alone (level u v w q) (level u v w m) (level u v w r) hm hr (h.levels u v w)) (not_zero (level u v w q) hq))
      where
        alone : (lq lm lr : ℤ) → lm ≡ pos 0 → lr ≡ pos 0 → N *ℤ lr ≡ S *ℤ lq +ℤ T *ℤ lm → lq *ℤ S ≡ pos 0
        alone lq lm lr e f g = let k = rw (e, f, *ℤ-zero N, *ℤ-zero T) at g in let c = mul_comm lq S in omega (arith, signed)

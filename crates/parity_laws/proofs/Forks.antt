-- Two steps that leave one point in two directions have no other common rational point.
use Rattle.std.proofs.Common.{◌≡◌, refl, sym, ◌∙◌, ap, subst, arith, ℤ, pos, ◌-ℤ◌, ◌*ℤ◌, ◌<ℤ◌, ◌≤ℤ◌, inl, inr, ⊎_elim, Bool, true, false, not, ◌&&◌}
use Rattle.std.specs.Prelude.{neg_ℤ, ◌||◌, int_lt}
use Rattle.std.proofs.Math.IntN.{*ℤ-zero, zero-*ℤ}
use Rattle.plane.proofs.Ring.{multiplied, signed, mul_comm}
use Rattle.plane.proofs.Signs.{order, no_zero_divisor, times_one}
use Rattle.plane.proofs.Probe.{factor_first}
use Rattle.plane.specs.Segment.{Segment}
use Rattle.topo_base.specs.RationalPoint.{RationalPoint, IsBetween, rational, SamePoint}
use Rattle.plane.specs.RationalTests.{IsOn}
use Rattle.plane.specs.Direction.{Direction, cross}
use Rattle.parity_laws.specs.Steps.{direction, rightward}
use Rattle.parity_laws.specs.Ways.{Apart, Fork}
use Rattle.parity_laws.proofs.Gap.{seg}
use Rattle.parity_laws.proofs.Tests.{same_half}
use Rattle.plane.proofs.Tests.{lt_yes, lt_no}

between_shift : (a y b d : ℤ) → IsBetween (a *ℤ d) y (b *ℤ d) → IsBetween (pos 0) (y -ℤ a *ℤ d) ((b -ℤ a) *ℤ d)
between_shift a y b d h =
    let e : (b -ℤ a) *ℤ d ≡ b *ℤ d -ℤ a *ℤ d = simp multiplied in
    subst (λ z. IsBetween (pos 0) (y -ℤ a *ℤ d) z) (sym e)
    (⊎_elim
    (λ (g : ((a *ℤ d) ≤ℤ y) × (y ≤ℤ (b *ℤ d))). let g0 = g.0 in let g1 = g.1 in inl (omega (arith, signed), omega (arith, signed)))
    (λ (g : ((b *ℤ d) ≤ℤ y) × (y ≤ℤ (a *ℤ d))). let g0 = g.0 in let g1 = g.1 in inr (omega (arith, signed), omega (arith, signed)))
    h)

-- a number between 0 and u d has the sign of u
sign_up : (u y d : ℤ) → pos 0 <ℤ d → IsBetween (pos 0) y (u *ℤ d) → pos 0 <ℤ y → pos 0 <ℤ u
sign_up u y d h g k =
    factor_first u d h
    (⊎_elim
    (λ (f : (pos 0 ≤ℤ y) × (y ≤ℤ (u *ℤ d))). let f1 = f.1 in omega (arith, signed))
    (λ (f : ((u *ℤ d) ≤ℤ y) × (y ≤ℤ pos 0)). let f1 = f.1 in absurd (omega (arith, signed)))
    g)

sign_down : (u y d : ℤ) → pos 0 <ℤ d → IsBetween (pos 0) y (u *ℤ d) → y <ℤ pos 0 → u <ℤ pos 0
sign_down u y d h g k =
    let m = sign_up (neg_ℤ u) (neg_ℤ y) d h (turn g) (omega (arith, signed)) in omega (arith, signed)
  where
    turn : IsBetween (pos 0) y (u *ℤ d) → IsBetween (pos 0) (neg_ℤ y) (neg_ℤ u *ℤ d)
    turn g =
        let e : neg_ℤ u *ℤ d ≡ neg_ℤ (u *ℤ d) = simp multiplied in
        subst (λ z. IsBetween (pos 0) (neg_ℤ y) z) (sym e)
        (⊎_elim
        (λ (f : (pos 0 ≤ℤ y) × (y ≤ℤ (u *ℤ d))). let f0 = f.0 in let f1 = f.1 in inr (omega (arith, signed), omega (arith, signed)))
        (λ (f : ((u *ℤ d) ≤ℤ y) × (y ≤ℤ pos 0)). let f0 = f.0 in let f1 = f.1 in inl (omega (arith, signed), omega (arith, signed)))
        g)

-- both lines through 0 and (x, y)
on_line : (ux uy wx wy x y : ℤ) → ux *ℤ y -ℤ uy *ℤ x ≡ pos 0 → wx *ℤ y -ℤ wy *ℤ x ≡ pos 0 → x *ℤ (wx *ℤ uy -ℤ wy *ℤ ux) ≡ pos 0
on_line ux uy wx wy x y e f =
    let g = simp multiplied at (ap (λ z. wx *ℤ z) e) in
    let h = simp multiplied at (ap (λ z. ux *ℤ z) f) in
    let a = *ℤ-zero wx in
    let b = *ℤ-zero ux in
    simp multiplied (omega (arith, signed))

flat_line : (u v x y : ℤ) → u *ℤ y -ℤ v *ℤ x ≡ pos 0 → x ≡ pos 0 → (y ≡ pos 0 → ⊥) → u ≡ pos 0
flat_line u v x y e f n = no_zero_divisor y u (mul_comm y u ∙ rest (u *ℤ y) (v *ℤ x) e (ap (λ z. v *ℤ z) f ∙ *ℤ-zero v)) n
  where
    rest : (a b : ℤ) → a -ℤ b ≡ pos 0 → b ≡ pos 0 → a ≡ pos 0
    rest a b e f = omega (arith, signed)

-- of two points u and w seen from 0
record Rays (u w : Direction) (x y d : ℤ) : Type 0 where
  whole : pos 0 <ℤ d
  on_u : u.dx *ℤ y -ℤ u.dy *ℤ x ≡ pos 0
  on_w : w.dx *ℤ y -ℤ w.dy *ℤ x ≡ pos 0
  ux : IsBetween (pos 0) x (u.dx *ℤ d)
  uy : IsBetween (pos 0) y (u.dy *ℤ d)
  wx : IsBetween (pos 0) x (w.dx *ℤ d)
  wy : IsBetween (pos 0) y (w.dy *ℤ d)

by_half : (u : Direction) (a b c h : Bool) → int_lt (pos 0) u.dx ≡ a → int_lt u.dx (pos 0) ≡ b → int_lt u.dy (pos 0) ≡ c → (a || (not b && c)) ≡ h → rightward u ≡ h
by_half u a b c h e f g k = rw (e, f, g) k

right_x : (u : Direction) → pos 0 <ℤ u.dx → rightward u ≡ true
right_x u h = by_half u true false (int_lt u.dy (pos 0)) true (lt_yes (pos 0) u.dx h) (lt_no u.dx (pos 0) (omega (arith, signed))) refl refl

left_x : (u : Direction) → u.dx <ℤ pos 0 → rightward u ≡ false
left_x u h = by_half u false true (int_lt u.dy (pos 0)) false (lt_no (pos 0) u.dx (omega (arith, signed))) (lt_yes u.dx (pos 0) h) refl refl

up_y : (u : Direction) → u.dx ≡ pos 0 → pos 0 <ℤ u.dy → rightward u ≡ false
up_y u e h = by_half u false false false false (lt_no (pos 0) u.dx (omega (arith, signed))) (lt_no u.dx (pos 0) (omega (arith, signed))) (lt_no u.dy (pos 0) (omega (arith, signed))) refl

down_y : (u : Direction) → u.dx ≡ pos 0 → u.dy <ℤ pos 0 → rightward u ≡ true
down_y u e h = by_half u false false true true (lt_no (pos 0) u.dx (omega (arith, signed))) (lt_no u.dx (pos 0) (omega (arith, signed))) (lt_yes u.dy (pos 0) h) refl

rays : (u w : Direction) (x y d : ℤ) → Rays u w x y d → Apart w u → (x ≡ pos 0) × (y ≡ pos 0)
rays u w x y d r apart =
    ⊎_elim
    (λ (h : pos 0 <ℤ x). absurd (same_half w u true (right_x w (sign_up w.dx x d r.whole r.wx h)) (right_x u (sign_up u.dx x d r.whole r.ux h)) (crossing (λ e. omega (arith, signed))) apart))
    (λ (h : x ≤ℤ pos 0).
    ⊎_elim
    (λ (g : x <ℤ pos 0). absurd (same_half w u false (left_x w (sign_down w.dx x d r.whole r.wx g)) (left_x u (sign_down u.dx x d r.whole r.ux g)) (crossing (λ e. omega (arith, signed))) apart))
    (λ (g : pos 0 ≤ℤ x). let z : x ≡ pos 0 = omega (arith, signed) in (z, upright z))
    (order x (pos 0)))
    (order (pos 0) x)
  where
    crossing : (x ≡ pos 0 → ⊥) → cross w u ≡ pos 0
    crossing n = no_zero_divisor x (cross w u) (on_line u.dx u.dy w.dx w.dy x y r.on_u r.on_w) n

    both_flat : (a b c e : ℤ) → a ≡ pos 0 → c ≡ pos 0 → a *ℤ b -ℤ e *ℤ c ≡ pos 0
    both_flat a b c e f g = rw (f, g, zero-*ℤ b, *ℤ-zero e)

    upright : x ≡ pos 0 → y ≡ pos 0
    upright z =
        ⊎_elim
        (λ (h : pos 0 <ℤ y).
        let ux = flat_line u.dx u.dy x y r.on_u z (λ e. omega (arith, signed)) in
        let wx = flat_line w.dx w.dy x y r.on_w z (λ e. omega (arith, signed)) in
        absurd (same_half w u false (up_y w wx (sign_up w.dy y d r.whole r.wy h)) (up_y u ux (sign_up u.dy y d r.whole r.uy h)) (both_flat w.dx u.dy u.dx w.dy wx ux) apart))
        (λ (h : y ≤ℤ pos 0).
        ⊎_elim
        (λ (g : y <ℤ pos 0).
        let ux = flat_line u.dx u.dy x y r.on_u z (λ e. omega (arith, signed)) in
        let wx = flat_line w.dx w.dy x y r.on_w z (λ e. omega (arith, signed)) in
        absurd (same_half w u true (down_y w wx (sign_down w.dy y d r.whole r.wy g)) (down_y u ux (sign_down u.dy y d r.whole r.uy g)) (both_flat w.dx u.dy u.dx w.dy wx ux) apart))
        (λ (g : pos 0 ≤ℤ y). omega (arith, signed))
        (order y (pos 0)))
        (order (pos 0) y)

-- the only common rational point of a fork is where both begin
pub fork_only : (s t : Segment) (r : RationalPoint) → Fork s t → IsOn r s → IsOn r t → SamePoint r (rational s.a)
fork_only s t r f on_s on_t =
    let on_t' : IsOn r (seg s.a t.b) = subst (λ p. IsOn r (seg p t.b)) f.start on_t in
    let apart : Apart (direction (seg s.a t.b)) (direction s) = subst (λ p. Apart (direction (seg p t.b)) (direction s)) f.start f.apart in
    let z = rays (direction s) (direction (seg s.a t.b)) (r.x -ℤ s.a.x *ℤ r.d) (r.y -ℤ s.a.y *ℤ r.d) r.d (record {
      whole = r.whole;
      on_u = on_s.straight;
      on_w = on_t'.straight;
      ux = between_shift s.a.x r.x s.b.x r.d on_s.across;
      uy = between_shift s.a.y r.y s.b.y r.d on_s.upward;
      wx = between_shift s.a.x r.x t.b.x r.d on_t'.across;
      wy = between_shift s.a.y r.y t.b.y r.d on_t'.upward;
    }) apart
    in
    (back_one r.x (s.a.x *ℤ r.d) z.0, back_one r.y (s.a.y *ℤ r.d) z.1)
  where
    back_one : (x y : ℤ) → x -ℤ y ≡ pos 0 → x *ℤ pos 1 ≡ y
    back_one x y e = let f = times_one x in omega (arith, signed)

-- The order of directions in one half turn.
use Rattle.std.proofs.Common.{◌≡◌, arith, ℤ, pos, ◌+ℤ◌, ◌-ℤ◌, ◌*ℤ◌, ◌<ℤ◌, ◌≤ℤ◌, ◌⊎◌, inl, ⊎_elim}
use Rattle.std.specs.Prelude.{neg_ℤ}
use Rattle.std.proofs.Math.IntN.{*ℤ-zero}
use Rattle.plane.proofs.Diff.{diff-same}
use Rattle.plane.proofs.Ring.{multiplied, signed}
use Rattle.plane.proofs.Wide.{summed}
use Rattle.plane.proofs.Signs.{mul_positive, mul_not_negative, order}
use Rattle.plane.proofs.Probe.{factor_first}
use Rattle.plane.specs.Direction.{Direction, cross}

-- above the axis, or on it to the right
pub record Upper (u : Direction) : Type 0 where
  pub high : pos 0 ≤ℤ u.dy
  pub right : u.dy ≡ pos 0 → pos 0 <ℤ u.dx

three : (u v w : Direction) → cross u w *ℤ v.dy ≡ cross u v *ℤ w.dy +ℤ cross v w *ℤ u.dy
three u v w = simp multiplied (simp summed (diff-same _ _ _ _ (omega arith)))

level : (u v : Direction) → v.dy ≡ pos 0 → cross u v ≡ neg_ℤ (u.dy *ℤ v.dx)
level u v e = rw e (flat u.dx (u.dy *ℤ v.dx))
  where
    flat : (x z : ℤ) → x *ℤ pos 0 -ℤ z ≡ neg_ℤ z
    flat x z = rw (*ℤ-zero x) (omega (arith, signed))

pub crossed_onward : (u v w : Direction) → Upper u → Upper v → Upper w → pos 0 <ℤ cross u v → pos 0 <ℤ cross v w → pos 0 <ℤ cross u w
crossed_onward u v w hu hv hw a b =
    ⊎_elim
    (λ (g : pos 0 <ℤ v.dy). by_three (cross u w) (cross u v) (cross v w) u.dy v.dy w.dy (three u v w) a b hu.high hw.high g (inl (above w.dy (cross v w) (v.dy *ℤ w.dx) hw.high (λ e. level v w e) (λ e. mul_not_negative v.dy w.dx hv.high (weak w.dx (hw.right e))) b)))
    (λ (g : v.dy ≤ℤ pos 0).
    let h = hv.high in
    let e : v.dy ≡ pos 0 = omega (arith, signed) in
    let k = hv.right e in
    let k' : pos 0 ≤ℤ v.dx = omega (arith, signed) in
    let m = mul_not_negative u.dy v.dx hu.high k' in
    absurd (below (cross u v) (u.dy *ℤ v.dx) (level u v e) m a))
    (order (pos 0) v.dy)
  where
    below : (c z : ℤ) → c ≡ neg_ℤ z → pos 0 ≤ℤ z → pos 0 <ℤ c → ⊥
    below c z e h k = omega (arith, signed)

    weak : (x : ℤ) → pos 0 <ℤ x → pos 0 ≤ℤ x
    weak x h = omega (arith, signed)

    above : (y c z : ℤ) → pos 0 ≤ℤ y → (y ≡ pos 0 → c ≡ neg_ℤ z) → (y ≡ pos 0 → pos 0 ≤ℤ z) → pos 0 <ℤ c → pos 0 <ℤ y
    above y c z h f g k =
        ⊎_elim
        (λ (m : pos 0 <ℤ y). m)
        (λ (m : y ≤ℤ pos 0). let e : y ≡ pos 0 = omega (arith, signed) in absurd (below c z (f e) (g e) k))
        (order (pos 0) y)

    by_three : (c a b x y z : ℤ) → c *ℤ y ≡ a *ℤ z +ℤ b *ℤ x → pos 0 <ℤ a → pos 0 <ℤ b → pos 0 ≤ℤ x → pos 0 ≤ℤ z → pos 0 <ℤ y → (pos 0 <ℤ z) ⊎ (pos 0 <ℤ x) → pos 0 <ℤ c
    by_three c a b x y z e ha hb hx hz hy g =
        let ha' : pos 0 ≤ℤ a = omega (arith, signed) in
        let hb' : pos 0 ≤ℤ b = omega (arith, signed) in
        let m = mul_not_negative a z ha' hz in
        let n = mul_not_negative b x hb' hx in
        ⊎_elim
        (λ (h : pos 0 <ℤ z). let k = mul_positive a z ha h in factor_first c y hy (omega (arith, signed)))
        (λ (h : pos 0 <ℤ x). let k = mul_positive b x hb h in factor_first c y hy (omega (arith, signed)))
        g

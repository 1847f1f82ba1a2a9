-- Fractions in order: with positive denominators, by the signs of a * q - b * r for a / r and b / q.
use Rattle.std.proofs.Common.{◌≡◌, arith, ℤ, pos, ◌-ℤ◌, ◌+ℤ◌, ◌*ℤ◌, ◌<ℤ◌, ◌≤ℤ◌, ⊎_elim, sym, subst}
use Rattle.std.specs.Prelude.{neg_ℤ}
use Rattle.std.proofs.Math.IntN.{*ℤ-zero}
use Rattle.plane.proofs.Ring.{multiplied, signed}
use Rattle.plane.proofs.Signs.{mul_positive, mul_not_negative, order, no_zero_divisor}

-- the first two give the third, times the middle denominator
pub joined : (a r b q c w : ℤ) → q *ℤ (a *ℤ w -ℤ c *ℤ r) ≡ w *ℤ (a *ℤ q -ℤ b *ℤ r) +ℤ r *ℤ (b *ℤ w -ℤ c *ℤ q)
joined a r b q c w = simp multiplied (omega (arith, signed))

-- a factor of a positive product with a positive number is positive
pub positive_of : (q d : ℤ) → pos 0 <ℤ q → pos 0 <ℤ (q *ℤ d) → pos 0 <ℤ d
positive_of q d h k =
    ⊎_elim
    (λ (p : pos 0 <ℤ d). p)
    (λ (n : d ≤ℤ pos 0).
    let w = mul_not_negative q (neg_ℤ d) (omega (arith, signed)) (omega (arith, signed)) in
    let v = simp multiplied at w in
    absurd (omega (arith, signed)))
    (order (pos 0) d)

pub zero_of : (q d : ℤ) → pos 0 <ℤ q → q *ℤ d ≡ pos 0 → d ≡ pos 0
zero_of q d h e = no_zero_divisor q d e (λ z. let k : pos 0 <ℤ q = h in absurd (omega (arith, signed)))

-- in three fractions
pub less_less : (a r b q c w : ℤ) → pos 0 <ℤ r → pos 0 <ℤ q → pos 0 <ℤ w → pos 0 <ℤ (a *ℤ q -ℤ b *ℤ r) → pos 0 ≤ℤ (b *ℤ w -ℤ c *ℤ q) → pos 0 <ℤ (a *ℤ w -ℤ c *ℤ r)
less_less a r b q c w hr hq hw h k =
    let e = joined a r b q c w in
    let x = mul_positive w (a *ℤ q -ℤ b *ℤ r) hw h in
    let y = mul_not_negative r (b *ℤ w -ℤ c *ℤ q) (omega (arith, signed)) k in
    positive_of q (a *ℤ w -ℤ c *ℤ r) hq (by_sum _ _ _ e x y)
  where
    by_sum : (s x y : ℤ) → s ≡ x +ℤ y → pos 0 <ℤ x → pos 0 ≤ℤ y → pos 0 <ℤ s
    by_sum s x y e h k = omega (arith, signed)

pub not_less : (a r b q c w : ℤ) → pos 0 <ℤ r → pos 0 <ℤ q → pos 0 <ℤ w → pos 0 ≤ℤ (a *ℤ q -ℤ b *ℤ r) → pos 0 <ℤ (b *ℤ w -ℤ c *ℤ q) → pos 0 <ℤ (a *ℤ w -ℤ c *ℤ r)
not_less a r b q c w hr hq hw h k =
    let e = joined a r b q c w in
    let x = mul_not_negative w (a *ℤ q -ℤ b *ℤ r) (omega (arith, signed)) h in
    let y = mul_positive r (b *ℤ w -ℤ c *ℤ q) hr k in
    positive_of q (a *ℤ w -ℤ c *ℤ r) hq (by_sum _ _ _ e x y)
  where
    by_sum : (s x y : ℤ) → s ≡ x +ℤ y → pos 0 ≤ℤ x → pos 0 <ℤ y → pos 0 <ℤ s
    by_sum s x y e h k = omega (arith, signed)

pub same_same : (a r b q c w : ℤ) → pos 0 <ℤ q → a *ℤ q -ℤ b *ℤ r ≡ pos 0 → b *ℤ w -ℤ c *ℤ q ≡ pos 0 → a *ℤ w -ℤ c *ℤ r ≡ pos 0
same_same a r b q c w hq h k = zero_of q (a *ℤ w -ℤ c *ℤ r) hq (by_sum _ _ _ _ _ (joined a r b q c w) h k)
  where
    by_sum : (s d f w r : ℤ) → s ≡ w *ℤ d +ℤ r *ℤ f → d ≡ pos 0 → f ≡ pos 0 → s ≡ pos 0
    by_sum s d f w r e h k =
        let x : w *ℤ d ≡ pos 0 = subst (λ z. w *ℤ z ≡ pos 0) (sym h) (*ℤ-zero w) in
        let y : r *ℤ f ≡ pos 0 = subst (λ z. r *ℤ z ≡ pos 0) (sym k) (*ℤ-zero r) in
        omega (arith, signed)

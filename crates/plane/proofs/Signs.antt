-- Signs of products of whole numbers.
use Rattle.std.proofs.Common.{◌≡◌, ◌≤◌, arith, ℤ, pos, negsuc, ◌-ℤ◌, ◌*ℤ◌, ◌<ℤ◌, ◌≤ℤ◌, ◌⊎◌, inl, inr, ⊎_elim, ◌≢◌}
use Rattle.std.specs.Prelude.{neg_ℤ}
use Rattle.std.proofs.lemmas.Int.{ints, by_lt_z}
use Rattle.std.proofs.Math.Nat.{one-le-mul}
use Rattle.plane.proofs.Ring.{multiplied, signed}

pub mul_not_negative : (a b : ℤ) → pos 0 ≤ℤ a → pos 0 ≤ℤ b → pos 0 ≤ℤ (a *ℤ b)
mul_not_negative (pos m) (pos n) h k = omega (arith, ints)
mul_not_negative (pos m) (negsuc n) h k = absurd (omega (arith, ints))
mul_not_negative (negsuc m) b h k = absurd (omega (arith, ints))

pub mul_positive : (a b : ℤ) → pos 0 <ℤ a → pos 0 <ℤ b → pos 0 <ℤ (a *ℤ b)
mul_positive (pos m) (pos n) h k =
    let p : 1 ≤ m = omega (arith, ints) in
    let q : 1 ≤ n = omega (arith, ints) in
    omega (arith, ints, one-le-mul p q)
mul_positive (pos m) (negsuc n) h k = absurd (omega (arith, ints))
mul_positive (negsuc m) b h k = absurd (omega (arith, ints))

pub order : (a b : ℤ) → (a <ℤ b) ⊎ (b ≤ℤ a)
order a b = by_lt_z a b inl inr

pub mul_le : (a b c : ℤ) → a ≤ℤ b → pos 0 ≤ℤ c → (a *ℤ c) ≤ℤ (b *ℤ c)
mul_le a b c h k =
    let d : pos 0 ≤ℤ (b -ℤ a) = omega (arith, signed) in
    let e = simp multiplied at (mul_not_negative (b -ℤ a) c d k) in
    omega (arith, signed)

pub no_zero_divisor : (a b : ℤ) → a *ℤ b ≡ pos 0 → a ≢ pos 0 → b ≡ pos 0
no_zero_divisor a b e apart =
    ⊎_elim
    (λ (ha : a <ℤ pos 0).
    ⊎_elim
    (λ (hb : b <ℤ pos 0). let w = simp multiplied at (mul_positive (neg_ℤ a) (neg_ℤ b) (omega (arith, signed)) (omega (arith, signed))) in absurd (omega (arith, signed)))
    (λ (hb : pos 0 ≤ℤ b).
    ⊎_elim
    (λ (gb : pos 0 <ℤ b). let w = simp multiplied at (mul_positive (neg_ℤ a) b (omega (arith, signed)) gb) in absurd (omega (arith, signed)))
    (λ (gb : b ≤ℤ pos 0). omega (arith, signed))
    (order (pos 0) b))
    (order b (pos 0)))
    (λ (ha : pos 0 ≤ℤ a).
    let ka : pos 0 <ℤ a = omega (arith, signed) in
    ⊎_elim
    (λ (hb : b <ℤ pos 0). let w = simp multiplied at (mul_positive a (neg_ℤ b) ka (omega (arith, signed))) in absurd (omega (arith, signed)))
    (λ (hb : pos 0 ≤ℤ b).
    ⊎_elim
    (λ (gb : pos 0 <ℤ b). let w = mul_positive a b ka gb in absurd (omega (arith, signed)))
    (λ (gb : b ≤ℤ pos 0). omega (arith, signed))
    (order (pos 0) b))
    (order b (pos 0)))
    (order a (pos 0))

pub cancel : (a b c : ℤ) → a *ℤ c ≡ b *ℤ c → c ≢ pos 0 → a ≡ b
cancel a b c e apart =
    let z : c *ℤ (a -ℤ b) ≡ pos 0 = simp multiplied (omega (arith, signed)) in
    let k = no_zero_divisor c (a -ℤ b) z apart in
    omega (arith, signed)

pub times_one : (a : ℤ) → a *ℤ pos 1 ≡ a
times_one a = omega (arith, ints)

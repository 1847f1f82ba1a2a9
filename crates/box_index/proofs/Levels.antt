-- The level for a side.
use Rattle.std.proofs.Common.{ℕ, ◌≡◌, ◌-◌, ◌<◌, ◌≤◌, ◌^◌, inl, inr, arith, subst, lit<}
use Rattle.std.proofs.lemmas.Nat.{leading_length}
use Rattle.std.proofs.Math.Nat.{pow-le-pow_right}
use Rattle.std.proofs.lemmas.Bool.{cases_lt}
use lib.Count.{count_leading_zeros}
use Rattle.box_index.specs.Cells.{level_for}

-- at 41 bits the level is below 42
pub level_small : (a : ℕ) → a < 2 ^ 41 → 64 - count_leading_zeros 64 a < 42
level_small a h =
    let fits : a < 2 ^ 64 = omega arith in
    let w = leading_length 64 a fits in
    elim (cases_lt w.0 42) [
      | inl below ↦ omega (arith, w.1)
      | inr above ↦ let more : 2 ^ 42 ≤ 2 ^ w.0 = pow-le-pow_right {n = 2} (lit< tt) above in absurd (omega (arith, more, w.3))
    ]

-- a side is no longer than the side of its level's cells
pub side_fits : (side : ℕ) → side ≤ 2 ^ 41 → side ≤ 2 ^ level_for side
side_fits side h =
    let fits : side - 1 < 2 ^ 64 = omega arith in
    let w = leading_length 64 (side - 1) fits in
    let is : w.0 ≡ level_for side = omega (arith, w.1) in
    let P : ℕ → Type 0 = λ n. side ≤ 2 ^ n in
    let Q : ℕ → Type 0 = λ n. side ≤ n in
    subst P is (omega (arith, w.2))

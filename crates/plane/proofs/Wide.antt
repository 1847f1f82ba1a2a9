-- For long identities: each product of a sum becomes a difference of two unknown naturals.
use Rattle.std.proofs.Common.{◌≡◌, ℕ, ℤ, ◌*ℤ◌}
use borrow.Author.Differences.{up, down}
use Rattle.plane.proofs.Diff.{diff, diff_is, diff-add, diff-neg, diff-sub, diff-same}

pub more : ℤ → ℤ → ℕ
more a b = up (a *ℤ b)

pub less : ℤ → ℤ → ℕ
less a b = down (a *ℤ b)

pub as_diff : (a b : ℤ) → a *ℤ b ≡ diff (more a b) (less a b)
unfolding more less
as_diff a b = diff_is (a *ℤ b)

pub ruleset summed = (as_diff, diff-add, diff-neg, diff-sub)

-- How many places a branch has.
use Rattle.std.specs.Prelude.{ℕ, ◌*◌, ◌-◌, ◌^◌, ◌<◌, min}
use Rattle.std.proofs.Common.{arith}

-- a branch of nodes that have places has places
pub capacity_positive : (n : ℕ) → 0 < n → 0 < min (n * 64) (2 ^ 64 - 1)
capacity_positive n h = omega arith

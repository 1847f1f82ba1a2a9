-- The bound of a product of two bounded numbers.
use Rattle.std.proofs.Common.{◌^◌, ◌≤◌, arith, ℤ, ◌*ℤ◌}
use Rattle.std.specs.Int.RustNames.{unsigned_abs}
use Rattle.std.proofs.lemmas.Int.{ints, unsigned_abs-mul}
use Rattle.std.proofs.Math.Nat.{mul-le-mul}
use Rattle.topo_base.specs.Within.{IsWithin}

pub within-mul : (a b : ℤ) → IsWithin (2 ^ 41) a → IsWithin (2 ^ 41) b → IsWithin (2 ^ 82) (a *ℤ b)
within-mul a b h k =
    let p : unsigned_abs a ≤ 2 ^ 41 = omega (arith, ints) in
    let q : unsigned_abs b ≤ 2 ^ 41 = omega (arith, ints) in
    let r : unsigned_abs (a *ℤ b) ≤ 2 ^ 82 = rw unsigned_abs-mul (mul-le-mul p q) in
    omega (arith, ints)

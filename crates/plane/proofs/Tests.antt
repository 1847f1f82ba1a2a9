-- Tests of whole numbers.
use Rattle.std.proofs.Common.{◌≡◌, sym, arith, ℤ, ◌<ℤ◌, ◌≤ℤ◌, true, false}
use Rattle.std.specs.Int.RustNames.{int_lt}
use Rattle.std.proofs.lemmas.Int.{ints}
use Rattle.plane.proofs.Ring.{signed}

pub lt_yes : (x y : ℤ) → x <ℤ y → int_lt x y ≡ true
lt_yes x y h = let e : true ≡ int_lt x y = omega (arith, ints) in sym e

pub lt_no : (x y : ℤ) → y ≤ℤ x → int_lt x y ≡ false
lt_no x y h = let e : false ≡ int_lt x y = omega (arith, ints) in sym e

pub lt_self : (x : ℤ) → int_lt x x ≡ false
lt_self x = lt_no x x (omega (arith, signed))

pub yes_lt : (x y : ℤ) → int_lt x y ≡ true → x <ℤ y
yes_lt x y e = omega (arith, ints)

pub no_lt : (x y : ℤ) → int_lt x y ≡ false → y ≤ℤ x
no_lt x y e = omega (arith, ints)

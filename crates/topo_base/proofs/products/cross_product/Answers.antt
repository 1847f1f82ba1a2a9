use Rattle.std.proofs.Common.{arith, FitsSigned, ◌≡◌, ◌-ℤ◌, ◌*ℤ◌, ◌^◌, w64}
use Rattle.std.proofs.lemmas.Int.{ints, to_z-of_z}
use mir.Syntax.{w128}
use Rattle.topo_base.specs.Within.{IsWithin}
use Rattle.topo_base.proofs.products.cross_product.Goals as goal

pub overflow_sub-result : goal.overflow_sub-result
overflow_sub-result c =
    let p : IsWithin (2 ^ 82) c.product-left.result = c.product-left.ensures.within in
    let q : IsWithin (2 ^ 82) c.product-right.result = c.product-right.ensures.within in
    let fp : FitsSigned w128 c.product-left.result = omega (arith, ints) in
    let fq : FitsSigned w128 c.product-right.result = omega (arith, ints) in
    let f : FitsSigned w128 (c.product-left.result -ℤ c.product-right.result) = omega (arith, ints) in
    simp to_z-of_z f

pub returns-clause-value : goal.returns-clause-value
returns-clause-value c =
    let p : IsWithin (2 ^ 82) c.product-left.result = c.product-left.ensures.within in
    let q : IsWithin (2 ^ 82) c.product-right.result = c.product-right.ensures.within in
    let fp : FitsSigned w128 c.product-left.result = omega (arith, ints) in
    let fq : FitsSigned w128 c.product-right.result = omega (arith, ints) in
    let f : FitsSigned w128 (c.product-left.result -ℤ c.product-right.result) = omega (arith, ints) in
    let f1 : FitsSigned w64 c.args.ux = c.ranges.ux in
    let f2 : FitsSigned w64 c.args.uy = c.ranges.uy in
    let f3 : FitsSigned w64 c.args.vx = c.ranges.vx in
    let f4 : FitsSigned w64 c.args.vy = c.ranges.vy in
    let e1 : c.product-left.result ≡ c.args.ux *ℤ c.args.vy = simp to_z-of_z at c.product-left.ensures.value in
    let e2 : c.product-right.result ≡ c.args.uy *ℤ c.args.vx = simp to_z-of_z at c.product-right.ensures.value in
    rw (← e1, ← e2) (simp to_z-of_z)

pub returns-clause-within : goal.returns-clause-within
returns-clause-within c =
    let p : IsWithin (2 ^ 82) c.product-left.result = c.product-left.ensures.within in
    let q : IsWithin (2 ^ 82) c.product-right.result = c.product-right.ensures.within in
    let fp : FitsSigned w128 c.product-left.result = omega (arith, ints) in
    let fq : FitsSigned w128 c.product-right.result = omega (arith, ints) in
    let f : FitsSigned w128 (c.product-left.result -ℤ c.product-right.result) = omega (arith, ints) in
    let w : IsWithin (2 ^ 83) (c.product-left.result -ℤ c.product-right.result) = omega (arith, ints) in
    simp to_z-of_z w

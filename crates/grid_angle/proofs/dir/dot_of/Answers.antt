use Rattle.std.proofs.Common.{arith, FitsSigned, ◌^◌, ◌+ℤ◌, w64, rules}
use Rattle.std.proofs.lemmas.Int.{ints, to_z-of_z}
use mir.Syntax.{w128}
use Rattle.topo_base.specs.Within.{IsWithin}
use Rattle.grid_angle.proofs.dir.dot_of.Goals as goal

pub returns : goal.returns
returns c =
    let f1 : FitsSigned w64 c.dx.result = search rules in
    let f2 : FitsSigned w64 c.dx-2.result = search rules in
    let f3 : FitsSigned w64 c.dy.result = search rules in
    let f4 : FitsSigned w64 c.dy-2.result = search rules in
    let p : IsWithin (2 ^ 82) c.product-level.result = c.product-level.ensures.within in
    let q : IsWithin (2 ^ 82) c.product-upright.result = c.product-upright.ensures.within in
    let fp : FitsSigned w128 c.product-level.result = omega (arith, ints) in
    let fq : FitsSigned w128 c.product-upright.result = omega (arith, ints) in
    let f : FitsSigned w128 (c.product-level.result +ℤ c.product-upright.result) = omega (arith, ints) in
    let e1 = simp to_z-of_z at c.product-level.ensures.value in
    let e2 = simp to_z-of_z at c.product-upright.ensures.value in
    simp to_z-of_z (rw (e1, e2, c.dx.ensures.value, c.dx-2.ensures.value, c.dy.ensures.value, c.dy-2.ensures.value))

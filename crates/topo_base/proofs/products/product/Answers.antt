use Rattle.std.proofs.Common.{arith, FitsSigned, ◌*ℤ◌, ◌^◌, w64}
use Rattle.std.proofs.lemmas.Int.{ints, to_z-of_z}
use mir.Syntax.{w128}
use Rattle.topo_base.specs.Within.{IsWithin}
use Rattle.topo_base.proofs.Bounds.{within-mul}
use Rattle.topo_base.proofs.products.product.Goals as goal

pub returns-clause-within : goal.returns-clause-within
returns-clause-within c =
    let ra : FitsSigned w64 c.args.a = c.ranges.a in
    let rb : FitsSigned w64 c.args.b = c.ranges.b in
    let fa : FitsSigned w128 c.args.a = omega (arith, ints) in
    let fb : FitsSigned w128 c.args.b = omega (arith, ints) in
    let w : IsWithin (2 ^ 82) (c.args.a *ℤ c.args.b) = within-mul c.args.a c.args.b c.requires.a_in c.requires.b_in in
    let f : FitsSigned w128 (c.args.a *ℤ c.args.b) = omega (arith, ints) in
    simp to_z-of_z w

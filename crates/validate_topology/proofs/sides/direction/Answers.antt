use Rattle.std.proofs.Common.{◌∙◌, ap, subst, sym}
use Rattle.std.specs.Prelude.{is_some}
use Rattle.plane.specs.Direction.{IsNotZero, direction_to}
use Rattle.validate_topology.proofs.SideDirections.{same_up}
use Rattle.validate_topology.proofs.SpokeOrder.{some_same}
use Rattle.validate_topology.proofs.sides.direction.Goals as goal

pub returns-in-Some : goal.returns-in-Some
returns-in-Some c =
    let way = direction_to c.args.from c.args.to in
    let is = c.in-Some.ensures.value in
    is ∙ sym (some_same way (subst IsNotZero is c.dx.ensures.some))

pub returns-in-None : goal.returns-in-None
returns-in-None c = c.up.ensures ∙ same_up c.args.from c.args.to (c.between.ensures.none.0 (ap is_some c.in-None.is))

use Rattle.std.proofs.Common.{◌∙◌, sym, ap}
use Rattle.validate_topology.specs.RelationOrder.{comes_behind}
use Rattle.validate_topology.proofs.RelationOrder.{last_is}
use Rattle.validate_topology.proofs.raw.stands_behind.Goals as goal

pub returns-in-Some : goal.returns-in-Some
returns-in-Some c = c.comes_before.ensures ∙ ap (λ o. comes_behind o c.args.row.now) (sym (last_is c.args.rows.now c.in-Some.last.now c.in-Some.ensures.value))

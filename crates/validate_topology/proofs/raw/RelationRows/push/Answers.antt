use Rattle.std.proofs.Common.{None, sym, ap, ◌∙◌}
use Rattle.validate_topology.specs.RelationOrder.{comes_behind, last_relation}
use Rattle.validate_topology.proofs.RelationOrder.{relations_push}
use Rattle.validate_topology.proofs.raw.RelationRows.push.Goals as goal

pub invariant_of-self-2 : goal.invariant_of-self-2
invariant_of-self-2 c =
    let behind = ap (λ rows. comes_behind (last_relation None rows) c.args.row) (sym c.deref.ensures.value) ∙ sym c.stands_behind.ensures ∙ c.if-not-stands_behind.false in
    rw c.in_ok-push.ensures.items (relations_push None c.self.inside.rows.items c.args.row c.self.invariant behind)

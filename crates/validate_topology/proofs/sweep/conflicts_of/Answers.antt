use Rattle.std.proofs.Common.{List, subst}
use Rattle.validate_topology.specs.Pairs.{AreAllOf}
use Rattle.validate_topology.specs.Pieces.{IsAmong}
use Rattle.validate_topology.specs.declared.conflicts.Conflict.{Conflict}
use Rattle.validate_topology.specs.declared.conflicts.ConflictKind.TheVariants.{Coincident, Inside, Crossing}
use Rattle.validate_topology.proofs.PieceConflicts.{renamed}
use Rattle.validate_topology.proofs.sweep.conflicts_of.Goals as goal

pub returns-clause-nodes : goal.returns-clause-nodes
returns-clause-nodes g c =
    let pairs = c.in_ok-pairs_in_order.field-0.items in
    renamed c.in_ok-found.found.items c.args.nodes.now c.args.edges.now Coincident pairs c.in_ok-found.ensures.all c.in_ok-found.ensures.only
    (subst (λ (cs : List Conflict). AreAllOf (IsAmong cs Coincident) pairs) c.deref.ensures.value c.in_ok-pairs_in_order.ensures)

pub returns-clause-inside : goal.returns-clause-inside
returns-clause-inside g c =
    let pairs = c.in_ok-pairs_in_order-2.field-0.items in
    renamed c.in_ok-found.found.items c.args.nodes.now c.args.edges.now Inside pairs c.in_ok-found.ensures.all c.in_ok-found.ensures.only
    (subst (λ (cs : List Conflict). AreAllOf (IsAmong cs Inside) pairs) c.deref-2.ensures.value c.in_ok-pairs_in_order-2.ensures)

pub returns-clause-edges : goal.returns-clause-edges
returns-clause-edges g c =
    let pairs = c.in_ok-pairs_in_order-3.field-0.items in
    renamed c.in_ok-found.found.items c.args.nodes.now c.args.edges.now Crossing pairs c.in_ok-found.ensures.all c.in_ok-found.ensures.only
    (subst (λ (cs : List Conflict). AreAllOf (IsAmong cs Crossing) pairs) c.deref-3.ensures.value c.in_ok-pairs_in_order-3.ensures)

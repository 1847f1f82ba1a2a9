use Rattle.validate_topology.proofs.PieceConflicts.{ordered_of}
use Rattle.validate_topology.proofs.conflicts.pairs_in_order.Goals as goal

pub returns : goal.returns
returns c = ordered_of c.args.conflicts.now c.args.kind c.in_ok-pairs_of.field-0.items c.in_order.result.items c.in_ok-pairs_of.ensures c.in_order.ensures

use Rattle.validate_topology.proofs.Sweeping.{edges_answer}
use Rattle.validate_topology.proofs.sweep.conflict_of.Goals as goal

pub returns-in-Edge-owner-2 : goal.returns-in-Edge-owner-2
returns-in-Edge-owner-2 g c =
    edges_answer c.args.one.now c.args.other.now c.in-Edge.a c.in-Edge-owner-2.b c.in-Edge.ends c.in-Edge-owner-2.others c.pieces_cross.result c.of_edges.result c.in-Edge.is
    c.in-Edge-owner-2.is c.pieces_cross.ensures c.of_edges.ensures

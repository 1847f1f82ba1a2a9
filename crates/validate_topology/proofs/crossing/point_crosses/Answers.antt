use Rattle.validate_topology.specs.Pieces.{way_of}
use Rattle.validate_topology.proofs.Crossings.{cross_then, cross_else}
use Rattle.validate_topology.proofs.crossing.point_crosses.Goals as goal

pub returns-then-is_on : goal.returns-then-is_on
returns-then-is_on c =
    cross_then c.args.p.now c.args.a.now c.args.b.now (way_of c.args.piece.now) c.is_on.result c.is_end_of_both.result c.is_on.ensures c.is_end_of_both.ensures c.if-is_on.true

pub returns-else-is_on : goal.returns-else-is_on
returns-else-is_on c = cross_else c.args.p.now c.args.a.now c.args.b.now (way_of c.args.piece.now) c.is_on.result c.is_on.ensures c.if-is_on.false

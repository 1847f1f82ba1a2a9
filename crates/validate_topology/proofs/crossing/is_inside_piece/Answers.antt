use Rattle.validate_topology.specs.Pieces.{way_of}
use Rattle.validate_topology.proofs.Crossings.{inside_then, inside_else}
use Rattle.validate_topology.proofs.crossing.is_inside_piece.Goals as goal

pub returns-then-is_on : goal.returns-then-is_on
returns-then-is_on c =
    inside_then c.args.p.now c.args.line.now (way_of c.args.piece.now) c.is_on.result c.is_line_end.result c.is_on.ensures c.is_line_end.ensures c.if-is_on.true

pub returns-else-is_on : goal.returns-else-is_on
returns-else-is_on c = inside_else c.args.p.now c.args.line.now (way_of c.args.piece.now) c.is_on.result c.is_on.ensures c.if-is_on.false

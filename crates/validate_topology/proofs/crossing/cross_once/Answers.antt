use Rattle.std.proofs.Common.{sym}
use Rattle.validate_topology.proofs.Crossings.{once}
use Rattle.validate_topology.proofs.crossing.cross_once.Goals as goal

pub returns : goal.returns
returns c = once c.args.a.now c.args.b.now c.args.s.now c.args.t.now c.share_line_end.result c.requires (sym c.share_line_end.ensures)

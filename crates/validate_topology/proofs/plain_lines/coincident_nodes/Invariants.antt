use Rattle.std.proofs.Common.{◌≡◌, ◌++◌, map, take}
use Rattle.validate_topology.specs.PlainLines.{coincident}
use Rattle.validate_topology.proofs.plain_lines.coincident_nodes.Given as goal

abbrev pub invariant-loop-pair : goal.invariant-loop-pair
invariant-loop-pair l = l.report ≡ l.fn.report ++ map coincident (take l.pair-index l.pairs)

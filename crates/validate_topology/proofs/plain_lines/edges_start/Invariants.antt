use Rattle.std.proofs.Common.{◌≡◌, ◌++◌, take}
use Rattle.validate_topology.specs.PlainLines.{starts_mismatched}
use Rattle.validate_topology.proofs.plain_lines.edges_start.Given as goal

abbrev pub invariant-loop-row : goal.invariant-loop-row
invariant-loop-row l = l.report ≡ l.fn.report ++ starts_mismatched l.nodes (take l.row-index l.edges)

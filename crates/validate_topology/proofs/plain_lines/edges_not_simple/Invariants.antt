use Rattle.std.proofs.Common.{◌≡◌, ◌++◌, take}
use Rattle.validate_topology.specs.PlainLines.{not_simple}
use Rattle.validate_topology.proofs.plain_lines.edges_not_simple.Given as goal

abbrev pub invariant-loop-row : goal.invariant-loop-row
invariant-loop-row g l = l.report ≡ l.fn.report ++ not_simple (take l.row-index l.edges)

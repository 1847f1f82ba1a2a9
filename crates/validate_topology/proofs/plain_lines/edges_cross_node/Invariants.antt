use Rattle.std.proofs.Common.{◌≡◌, ◌++◌, map, take}
use Rattle.validate_topology.specs.PlainLines.{crossed_node}
use Rattle.validate_topology.proofs.plain_lines.edges_cross_node.Given as goal

abbrev pub invariant-loop-pair : goal.invariant-loop-pair
invariant-loop-pair l = l.report ≡ l.fn.report ++ map crossed_node (take l.pair-index l.pairs)

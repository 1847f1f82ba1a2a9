use Rattle.std.proofs.Common.{◌≡◌, ◌++◌, take}
use Rattle.validate_topology.specs.References.{lists_node, edges_without_node}
use Rattle.validate_topology.proofs.references.edges_without_node.Given as goal

abbrev pub invariant-loop-row : goal.invariant-loop-row
invariant-loop-row l = l.report ≡ l.fn.report ++ edges_without_node (lists_node l.nodes) (take l.row-index l.edges)

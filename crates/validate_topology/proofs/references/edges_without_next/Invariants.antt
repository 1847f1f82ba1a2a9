use Rattle.std.proofs.Common.{◌≡◌, ◌++◌, take}
use Rattle.validate_topology.specs.References.{lists_edge, edges_without_next}
use Rattle.validate_topology.proofs.references.edges_without_next.Given as goal

abbrev pub invariant-loop-row : goal.invariant-loop-row
invariant-loop-row l = l.report ≡ l.fn.report ++ edges_without_next (lists_edge l.edges) (take l.row-index l.rows)

use Rattle.std.proofs.Common.{◌≡◌, ◌++◌, take}
use Rattle.validate_topology.specs.References.{nodes_past_next}
use Rattle.validate_topology.proofs.counters.nodes_past_next.Given as goal

abbrev pub invariant-loop-row : goal.invariant-loop-row
invariant-loop-row l = l.report ≡ l.fn.report ++ nodes_past_next l.next (take l.row-index l.rows)

use Rattle.std.proofs.Common.{◌≡◌, ◌++◌, take}
use Rattle.validate_topology.specs.References.{layers_past_next}
use Rattle.validate_topology.proofs.counters.layers_past_next.Given as goal

abbrev pub invariant-loop-row : goal.invariant-loop-row
invariant-loop-row l = l.report ≡ l.fn.report ++ layers_past_next l.next (take l.row-index l.rows)

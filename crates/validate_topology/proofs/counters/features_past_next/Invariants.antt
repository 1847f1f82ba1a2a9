use Rattle.std.proofs.Common.{◌≡◌, ◌++◌, take}
use Rattle.validate_topology.specs.References.{features_past_next}
use Rattle.validate_topology.proofs.counters.features_past_next.Given as goal

abbrev pub invariant-loop-row : goal.invariant-loop-row
invariant-loop-row l = l.report ≡ l.fn.report ++ features_past_next l.next (take l.row-index l.rows)

use Rattle.std.proofs.Common.{◌≡◌, ◌++◌, take}
use Rattle.validate_topology.specs.References.{layer_levels}
use Rattle.validate_topology.proofs.layer_lines.layer_levels.Given as goal

abbrev pub invariant-loop-row : goal.invariant-loop-row
invariant-loop-row l = l.report ≡ l.fn.report ++ layer_levels (take l.row-index l.layers)

use Rattle.std.proofs.Common.{◌≡◌, ◌++◌, take}
use Rattle.validate_topology.specs.References.{taken_names}
use Rattle.validate_topology.proofs.layer_lines.layers_of_name.Given as goal

abbrev pub invariant-loop-other : goal.invariant-loop-other
invariant-loop-other l = l.report ≡ l.fn.report ++ taken_names l.row (take l.other-index l.others)

use Rattle.std.proofs.Common.{◌≡◌, ◌++◌, drop}
use Rattle.validate_topology.specs.References.{names_taken}
use Rattle.validate_topology.proofs.layer_lines.layer_names.Given as goal

abbrev pub invariant-loop-index : goal.invariant-loop-index
invariant-loop-index l = l.report ++ names_taken (drop l.index l.layers) ≡ l.fn.report ++ names_taken l.layers

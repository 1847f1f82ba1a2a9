use Rattle.std.proofs.Common.{◌≡◌, ◌++◌, take}
use Rattle.validate_topology.specs.References.{features_without_layer}
use Rattle.validate_topology.proofs.layer_lines.features_without_layer.Given as goal

abbrev pub invariant-loop-row : goal.invariant-loop-row
invariant-loop-row l = l.report ≡ l.fn.report ++ features_without_layer l.layers (take l.row-index l.features)

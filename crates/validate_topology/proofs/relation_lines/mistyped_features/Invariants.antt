use Rattle.std.proofs.Common.{◌≡◌, take}
use Rattle.validate_topology.specs.RelationLines.{mistyped}
use Rattle.validate_topology.proofs.relation_lines.mistyped_features.Given as goal

abbrev pub invariant-loop-row : goal.invariant-loop-row
invariant-loop-row l = l.pairs.items ≡ mistyped l.features l.layers (take l.row-index l.relations)

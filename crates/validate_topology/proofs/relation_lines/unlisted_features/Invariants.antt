use Rattle.std.proofs.Common.{◌≡◌, take}
use Rattle.validate_topology.specs.RelationLines.{unlisted}
use Rattle.validate_topology.proofs.relation_lines.unlisted_features.Given as goal

abbrev pub invariant-loop-row : goal.invariant-loop-row
invariant-loop-row l = l.pairs.items ≡ unlisted l.features (take l.row-index l.relations)

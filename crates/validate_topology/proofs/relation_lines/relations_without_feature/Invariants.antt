use Rattle.std.proofs.Common.{◌≡◌, ◌++◌, map, take}
use Rattle.validate_topology.specs.RelationLines.{without_feature}
use Rattle.validate_topology.proofs.relation_lines.relations_without_feature.Given as goal

abbrev pub invariant-loop-pair : goal.invariant-loop-pair
invariant-loop-pair l = l.report ≡ l.fn.report ++ map without_feature (take l.pair-index l.pairs)

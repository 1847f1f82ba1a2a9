use Rattle.std.proofs.Common.{◌≡◌, ◌++◌, map, take}
use Rattle.validate_topology.specs.RelationLines.{kind_wrong}
use Rattle.validate_topology.proofs.relation_lines.relations_of_wrong_kind.Given as goal

abbrev pub invariant-loop-pair : goal.invariant-loop-pair
invariant-loop-pair l = l.report ≡ l.fn.report ++ map kind_wrong (take l.pair-index l.pairs)

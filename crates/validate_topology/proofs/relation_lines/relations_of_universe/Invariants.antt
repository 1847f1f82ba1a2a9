use Rattle.std.proofs.Common.{◌≡◌, ◌++◌, take}
use Rattle.validate_topology.specs.Raw.{tables_in}
use Rattle.validate_topology.specs.RelationLines.{universes}
use Rattle.validate_topology.proofs.relation_lines.relations_of_universe.Given as goal

abbrev pub invariant-loop-row : goal.invariant-loop-row
invariant-loop-row l = l.report ≡ l.fn.report ++ universes (tables_in l.raw) (take l.row-index l.relations)

use Rattle.std.proofs.Common.{◌≡◌, ◌++◌, take}
use Rattle.validate_topology.specs.Raw.{tables_in}
use Rattle.validate_topology.specs.RelationLines.{missing_elements}
use Rattle.validate_topology.proofs.relation_lines.relations_without_element.Given as goal

abbrev pub invariant-loop-row : goal.invariant-loop-row
invariant-loop-row l = l.report ≡ l.fn.report ++ missing_elements (tables_in l.raw) (take l.row-index l.relations)

use Rattle.std.proofs.Common.{◌≡◌, ◌+◌, ◌*◌, ◌≤◌, drop}
use Rattle.std.specs.List.{list_any}
use Rattle.drawing.specs.Relations.{lists_element}
use Rattle.drawing.specs.Tables.{drawn}
use Rattle.drawing_queries.proofs.conditions.is_in_feature.Given as goal

-- no row before this one lists the element
abbrev pub invariant-loop-row : goal.invariant-loop-row
invariant-loop-row g l = record {
  test : list_any (lists_element (drawn l.tables.rows) l.element_type l.id) l.tables.rows.relations
      ≡ list_any (lists_element (drawn l.tables.rows) l.element_type l.id) (drop l.row-index l.tables.rows.relations);
  counted : l.steps ≤ l.fn.steps + 2 * l.row-index;
}

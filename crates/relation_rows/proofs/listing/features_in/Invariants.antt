use Rattle.std.proofs.Common.{◌≡◌, ◌+◌, ◌*◌, ◌≤◌, ◌++◌, map, filter, drop, length}
use Rattle.drawing.specs.Relations.{lists_element}
use Rattle.drawing.specs.Tables.{drawn}
use Rattle.relation_rows.specs.Following.{feature_of}
use Rattle.relation_rows.proofs.listing.features_in.Given as goal

-- the features so far, and those of the rows to come
abbrev pub invariant-loop-row : goal.invariant-loop-row
invariant-loop-row g l =
    let lists = lists_element (drawn l.tables.rows) l.element_type l.id in
    record {
      features : l.features ++ map feature_of (filter lists (drop l.row-index l.rows)) ≡ map feature_of (filter lists l.rows);
      counted : l.steps + 2 * length (drop l.row-index l.rows) ≤ l.fn.steps + 2 * length l.rows;
    }

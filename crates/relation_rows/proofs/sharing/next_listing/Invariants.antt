use Rattle.std.proofs.Common.{length, ◌-◌, ◌≡◌, ◌≤◌, drop}
use Rattle.drawing.specs.Tables.{drawn}
use Rattle.relation_rows.specs.Features.{features_in}
use Rattle.relation_rows.proofs.sharing.next_listing.Given as goal

-- no row before this place lists the element
abbrev pub invariant-loop-at : goal.invariant-loop-at
invariant-loop-at g l = record {
  behind : l.from ≤ l.at;
  within : l.at ≤ length l.rows;
  same : features_in (drawn l.tables.rows) l.element_type l.id (drop l.from l.rows) ≡ features_in (drawn l.tables.rows) l.element_type l.id (drop l.at l.rows);
}

abbrev pub decreases-loop-at : goal.decreases-loop-at
decreases-loop-at g l = length l.rows - l.at

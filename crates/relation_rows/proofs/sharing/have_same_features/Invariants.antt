use Rattle.std.proofs.Common.{length, ◌-◌, ◌≡◌, ◌≤◌, drop}
use Rattle.drawing.specs.RemoveEdge.{have_same_features, same_numbers}
use Rattle.drawing.specs.Tables.{drawn}
use Rattle.relation_rows.specs.Features.{features_in}
use Rattle.relation_rows.proofs.sharing.have_same_features.Given as goal

-- the features from these places on are the same where all of them are
abbrev pub invariant-loop-rows : goal.invariant-loop-rows
invariant-loop-rows g l = record {
  one : l.one ≤ length l.rows;
  other : l.other ≤ length l.rows;
  rows : l.rows ≡ l.tables.rows.relations;
  same : have_same_features (drawn l.tables.rows) l.element_type l.first l.second
      ≡ same_numbers (features_in (drawn l.tables.rows) l.element_type l.first (drop l.one l.rows)) (features_in (drawn l.tables.rows) l.element_type l.second (drop l.other l.rows));
}

abbrev pub decreases-loop-rows : goal.decreases-loop-rows
decreases-loop-rows g l = length l.rows - l.one

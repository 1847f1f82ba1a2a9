use Rattle.std.proofs.Common.{◌≡◌, ◌==◌, ◌++◌, map, filter, drop}
use Rattle.topo_base.specs.declared.rows.RelationRow.{RelationRow}
use Rattle.layer_tree.proofs.numbers.listed_in_rows.Given as goal

-- what the rows so far list, and what those to come do
abbrev pub invariant-loop-row : goal.invariant-loop-row
invariant-loop-row g l =
    l.listed.items ++ map (λ (r : RelationRow). r.element_id) (filter (λ (r : RelationRow). r.topogeo_id == l.fn.feature) (drop l.row-index l.rows))
    ≡ map (λ (r : RelationRow). r.element_id) (filter (λ (r : RelationRow). r.topogeo_id == l.fn.feature) l.rows)

use Rattle.std.proofs.Common.{◌≡◌, ◌++◌, drop}
use Rattle.layer_tree.specs.Descending.{listed_by_any}
use Rattle.layer_tree.proofs.numbers.listed_by_any.Given as goal

-- what the rows so far list, and what those to come do
abbrev pub invariant-loop-row : goal.invariant-loop-row
invariant-loop-row g l = l.listed.items ++ listed_by_any l.features (drop l.row-index l.rows) ≡ listed_by_any l.features l.rows

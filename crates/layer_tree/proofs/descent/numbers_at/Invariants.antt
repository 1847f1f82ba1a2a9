use Rattle.std.proofs.Common.{◌≡◌}
use Rattle.drawing.specs.Descent.{listed_by}
use Rattle.drawing.specs.Tables.{drawn}
use Rattle.layer_tree.specs.Descending.{levels_below}
use Rattle.layer_tree.proofs.descent.numbers_at.Given as goal

-- so many levels down
abbrev pub invariant-loop-step : goal.invariant-loop-step
invariant-loop-step g l = l.numbers.items ≡ levels_below (drawn l.tables.rows) l.step (listed_by (drawn l.tables.rows) l.fn.feature)

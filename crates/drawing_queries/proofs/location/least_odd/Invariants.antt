use Rattle.std.proofs.Common.{◌≡◌, ℕ, ◌+◌, ◌<◌, ◌≤◌, false, length}
use Rattle.drawing.specs.Tables.{drawn}
use Rattle.drawing_queries.specs.Location.{is_odd_listed}
use Rattle.drawing_queries.proofs.location.least_odd.Given as goal

-- none so far
abbrev pub invariant-loop-id : goal.invariant-loop-id
invariant-loop-id g l = record {
  none : (f : ℕ) → l.first ≤ f → f < l.id → is_odd_listed (drawn l.tables.rows) l.first l.odd f ≡ false;
  short : l.id ≤ l.first + length l.odd;
  counted : l.steps + l.first ≤ l.fn.steps + l.id;
}

use Rattle.std.proofs.Common.{◌≡◌, ◌≢◌, ℕ, ◌<◌, Some}
use Rattle.box_index.specs.Cells.{place}
use Rattle.box_index.specs.declared.entry.Entry.{Entry}
use Rattle.box_index.specs.LooseGrid.{entry_at}
use Rattle.box_index.proofs.loose_grid.LooseGrid.number_of.Given as goal

abbrev pub invariant-loop-number : goal.invariant-loop-number
invariant-loop-number l = (n : ℕ) → n < l.number → (e : Entry) → entry_at l.self (place l.cell n) ≡ Some e → e ≢ l.entry

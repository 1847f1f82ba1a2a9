use Rattle.std.proofs.Common.{◌≡◌, ℕ, ◌<◌, ◌≤◌, length}
use Rattle.shared_rows.specs.Slotted.{IsOpen}
use Rattle.shared_rows.proofs.table.Table.reserve.Given as goal

abbrev pub invariant-loop-place : goal.invariant-loop-place
invariant-loop-place g l =
    (l.self.slots ≡ l.initial.self.slots) × ((k : ℕ) → IsOpen l.initial.self k → IsOpen l.self k)
    × ((k : ℕ) → length l.initial.self.slots ≤ k → k < l.place → IsOpen l.self k)

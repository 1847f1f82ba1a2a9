use Rattle.std.proofs.Common.{◌≡◌, ◌++◌, take}
use Rattle.std.specs.Prelude.{flat_map}
use Rattle.drawing.specs.Places.{at_slot}
use Rattle.table_print.proofs.rows.push_rows.Given as goal

abbrev pub invariant-loop-slot : goal.invariant-loop-slot
invariant-loop-slot g l = l.text ≡ l.fn.text ++ flat_map (at_slot g.R.RowLine.line) (take l.slot-index l.slots)

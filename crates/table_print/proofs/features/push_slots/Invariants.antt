use Rattle.std.proofs.Common.{◌≡◌, ◌++◌, take}
use Rattle.std.specs.Prelude.{flat_map}
use Rattle.drawing.specs.Places.{at_slot}
use Rattle.drawing.specs.Tables.{drawn}
use Rattle.script_model.specs.Texts.{descent_text}
use Rattle.table_print.proofs.features.push_slots.Given as goal

-- the lines of the features so far
abbrev pub invariant-loop-slot : goal.invariant-loop-slot
invariant-loop-slot g l = l.text ≡ l.fn.text ++ flat_map (at_slot (descent_text (drawn l.tables.rows))) (take l.slot-index l.slots)

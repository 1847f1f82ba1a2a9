use Rattle.std.proofs.Common.{IsTrue, take, ◌==◌}
use Rattle.script_model.specs.Script.{is_whole}
use Rattle.table_dump.proofs.pieces.place_of.Given as goal

-- the byte doesn't stand in the text so far
abbrev pub invariant-loop-at : goal.invariant-loop-at
invariant-loop-at l = IsTrue (is_whole (λ c. c == l.byte) (take l.at l.text))

use Rattle.std.proofs.Common.{take}
use Rattle.script_reader.specs.Parting.{parts, IsWhole}
use Rattle.script_reader.proofs.parting.split.Given as goal

-- no byte so far parts the text
abbrev pub invariant-loop-at : goal.invariant-loop-at
invariant-loop-at l = IsWhole (parts l.separator) (take l.at l.text)

use Rattle.std.proofs.Common.{◌≡◌, drop}
use Rattle.script_model.specs.Script.{words_of}
use Rattle.script_reader.proofs.words.without_blanks.Given as goal

-- what is left has the words of the line
abbrev pub invariant-loop-at : goal.invariant-loop-at
invariant-loop-at l = words_of (drop l.at l.line) ≡ words_of l.line

use Rattle.std.proofs.Common.{◌≡◌, ◌++◌, drop}
use Rattle.script_model.specs.Texts.{number_words}
use Rattle.script_model.specs.Words.{spaced}
use Rattle.table_print.proofs.features.push_numbers.Given as goal

-- the numbers so far, and those to come
abbrev pub invariant-loop-number : goal.invariant-loop-number
invariant-loop-number l = l.text ++ spaced (number_words (drop l.number-index l.numbers)) ≡ l.fn.text ++ spaced (number_words l.numbers)

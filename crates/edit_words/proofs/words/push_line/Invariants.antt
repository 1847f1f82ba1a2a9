use Rattle.std.proofs.Common.{◌≡◌, ◌++◌, take}
use Rattle.script_model.specs.Words.{spaced, line_words}
use Rattle.edit_words.proofs.words.push_line.Given as goal

abbrev pub invariant-loop-vertex : goal.invariant-loop-vertex
invariant-loop-vertex l = l.text ≡ l.fn.text ++ spaced (line_words (take l.vertex-index l.vertex-items))

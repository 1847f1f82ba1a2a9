use Rattle.std.proofs.Common.{◌≡◌, ◌++◌, take}
use Rattle.std.specs.Prelude.{flat_map}
use Rattle.script_model.specs.Words.{spaced, element_words}
use Rattle.edit_words.proofs.replies.push_elements.Given as goal

abbrev pub invariant-loop-element : goal.invariant-loop-element
invariant-loop-element l = l.text ≡ l.fn.text ++ spaced (flat_map element_words (take l.element-index l.elements))

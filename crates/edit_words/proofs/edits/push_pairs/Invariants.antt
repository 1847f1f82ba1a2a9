use Rattle.std.proofs.Common.{◌≡◌, ◌++◌, take}
use Rattle.std.specs.Prelude.{flat_map}
use Rattle.script_model.specs.Words.{spaced, pair_words}
use Rattle.edit_words.proofs.edits.push_pairs.Given as goal

abbrev pub invariant-loop-pair : goal.invariant-loop-pair
invariant-loop-pair l = l.text ≡ l.fn.text ++ spaced (flat_map pair_words (take l.pair-index l.pair-items))

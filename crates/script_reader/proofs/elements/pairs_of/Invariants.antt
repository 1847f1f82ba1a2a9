use Rattle.std.proofs.Common.{◌≡◌, ◌≤◌, ◌++◌, IsTrue, length}
use Rattle.std.specs.Prelude.{flat_map}
use Rattle.std.specs.List.{list_all}
use Rattle.script_model.specs.NamedRange.{is_named_pair}
use Rattle.script_model.specs.NamedWords.{named_pair_words}
use Rattle.script_model.specs.Script.{words_of}
use Rattle.script_reader.proofs.elements.pairs_of.Given as goal

-- the elements so far are the words before the rest
abbrev pub invariant-loop-id : goal.invariant-loop-id
invariant-loop-id l = record {
  good : IsTrue (list_all is_named_pair l.pairs.items);
  few : length l.pairs.items ≤ 4096;
  spelled : words_of l.words ≡ flat_map named_pair_words l.pairs.items ++ words_of l.rest;
}

abbrev pub decreases-loop-id : goal.decreases-loop-id
decreases-loop-id l = length (words_of l.rest)

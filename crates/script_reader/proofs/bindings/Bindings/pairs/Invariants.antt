use Rattle.std.proofs.Common.{◌≡◌, length, take, Some}
use Rattle.script_model.specs.Bindings.{pairs_of}
use Rattle.script_reader.specs.Bindings.{names_of}
use Rattle.script_reader.proofs.bindings.Bindings.pairs.Given as goal

abbrev pub invariant-loop-pair : goal.invariant-loop-pair
invariant-loop-pair l = record {
  found : pairs_of (names_of l.self) (take l.pair-index l.named) ≡ Some l.pairs.items;
  count : length l.pairs.items ≡ l.pair-index;
}

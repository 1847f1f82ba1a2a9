use Rattle.std.proofs.Common.{◌≡◌, ◌++◌, IsTrue, take, flat_map}
use Rattle.std.specs.List.{list_all}
use Rattle.drawing.specs.InRange.{is_pair}
use Rattle.history_model.specs.Spelling.{pair_bytes}
use Rattle.entry_codec.proofs.fields.put_each.Given as goal

abbrev pub invariant-loop-pair : goal.invariant-loop-pair
invariant-loop-pair l = record {
  bytes : l.out.items ≡ l.fn.out.items ++ flat_map pair_bytes (take l.pair-index l.pairs);
  good : IsTrue (list_all is_pair (take l.pair-index l.pairs));
}

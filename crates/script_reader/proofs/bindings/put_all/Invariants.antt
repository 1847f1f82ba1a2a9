use Rattle.std.proofs.Common.{◌≡◌, ◌≤◌, length, map}
use Rattle.std.specs.Vec.Iter.{into_iter_items}
use Rattle.indexmap.specs.IndexMap.{spare}
use Rattle.script_model.specs.Bindings.{bound}
use Rattle.script_reader.specs.Bindings.{names_of, with_bytes}
use Rattle.script_reader.proofs.bindings.put_all.Given as goal

abbrev pub invariant-loop-name : goal.invariant-loop-name
invariant-loop-name l = record {
  can_next : (goal.iterator-loop-name).can_next l.name-iterator;
  is_finite : (goal.iterator-loop-name).is_finite l.name-iterator;
  room : length (into_iter_items l.name-iterator) ≤ spare l.ids;
  left : bound (names_of (with_bytes l.ids.entries)) (map (λ bytes. bytes.items) (into_iter_items l.name-iterator)) l.rest
      ≡ bound (names_of (with_bytes l.fn.ids.entries)) (map (λ bytes. bytes.items) l.fn.names.items) l.fn.elements;
}

use Rattle.std.proofs.Common.{◌≡◌, ◌++◌}
use Rattle.std.specs.Vec.Iter.{into_iter_items}
use Rattle.topo_tables.proofs.writes.Writes.append.Given as goal

-- the writes so far and those still to come are all of them
abbrev pub invariant-loop-one : goal.invariant-loop-one
invariant-loop-one l = record {
  iterator : goal.iterator-loop-one.can_next l.one-iterator × goal.iterator-loop-one.is_finite l.one-iterator;
  behind : l.self ++ into_iter_items l.one-iterator ≡ l.fn.self ++ l.fn.more;
}

use Rattle.std.proofs.Common.{◌≡◌, ◌+◌, ◌*◌, ◌≤◌, length}
use Rattle.std.specs.Vec.Iter.{into_iter_items}
use Rattle.drawing.specs.Writable.{CanWriteAll}
use Rattle.drawing.specs.Writes.{all_written}
use Rattle.topo_tables.specs.Room.{HasRoom}
use Rattle.topo_tables.proofs.tables.Tables.write_all.Given as goal

-- the writes that are still to come may be made, and leave what all leave
abbrev pub invariant-loop-one : goal.invariant-loop-one
invariant-loop-one g l = record {
  iterator : (goal.iterator-loop-one g).can_next l.one-iterator × (goal.iterator-loop-one g).is_finite l.one-iterator;
  can : CanWriteAll l.fn.self.rows.next_ids l.self.rows (into_iter_items l.one-iterator);
  room : HasRoom l.self.room (into_iter_items l.one-iterator);
  rest : all_written l.fn.self.rows.next_ids l.self.rows (into_iter_items l.one-iterator) ≡ all_written l.fn.self.rows.next_ids l.fn.self.rows l.fn.writes;
  counted : l.steps + 6 * length (into_iter_items l.one-iterator) ≤ l.fn.steps + 6 * length l.fn.writes;
}

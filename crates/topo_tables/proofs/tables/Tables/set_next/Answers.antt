use Rattle.std.proofs.Common.{refl}
use Rattle.topo_tables.proofs.tables.Tables.set_next.Goals as goal

pub returns-clause-rows : goal.returns-clause-rows
returns-clause-rows c = rw (c.dart.ensures c.args.self.now.rows.next_ids, c.number.ensures, c.change.ensures.rows, c.change.ensures.next_id, ← c.self.view_is) refl

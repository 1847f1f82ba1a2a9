use Rattle.std.proofs.Common.{refl}
use Rattle.topo_tables.proofs.tables.Tables.set_containing.Goals as goal

pub returns-clause-rows : goal.returns-clause-rows
returns-clause-rows c = rw (c.face_if_any.ensures c.args.self.now.rows.next_ids.face, c.number.ensures, c.change.ensures.rows, c.change.ensures.next_id, ← c.self.view_is) refl

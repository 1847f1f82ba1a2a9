use Rattle.std.proofs.Common.{refl}
use Rattle.topo_tables.proofs.tables.Tables.put_layer.Goals as goal

pub returns-clause-rows : goal.returns-clause-rows
returns-clause-rows c = rw (c.layer_if_any.ensures c.args.self.now.rows.next_ids.layer, c.number.ensures, c.push.ensures.rows, c.push.ensures.next_id, ← c.self.view_is) refl

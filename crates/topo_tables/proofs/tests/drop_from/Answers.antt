use Rattle.drawing.specs.Drawing.{node_id_of}
use Rattle.topo_tables.proofs.PlaceLemmas.{there_if_found}
use Rattle.topo_tables.proofs.tests.drop_from.Goals as goal

pub write-requires-clause-can : goal.write-requires-clause-can
write-requires-clause-can g c =
    there_if_found node_id_of c.args.tables.now.rows.nodes c.args.node c.node-2.inside.0 c.node.result c.is_some.result c.is_some.ensures c.if-is_some.true c.node.ensures.row c.node-2.view_is

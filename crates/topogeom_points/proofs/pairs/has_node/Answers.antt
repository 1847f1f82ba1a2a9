use Rattle.std.proofs.Common.{◌∙◌}
use Rattle.drawing.specs.Drawing.{node_id_of}
use Rattle.topogeom_points.proofs.Elements.{has_found}
use Rattle.topogeom_points.proofs.pairs.has_node.Goals as goal

pub returns : goal.returns
returns g c = c.is_some.ensures ∙ has_found node_id_of c.args.tables.now.rows.nodes c.args.id c.node.result c.node.ensures.row

use Rattle.std.proofs.Common.{◌∙◌}
use Rattle.drawing.specs.Writes.{edge_row_id}
use Rattle.topogeom_points.proofs.Elements.{has_edge_is, has_found}
use Rattle.topogeom_points.proofs.pairs.has_edge.Goals as goal

pub returns : goal.returns
returns g c =
    c.is_some.ensures ∙ has_found edge_row_id c.args.tables.now.rows.edges c.args.id c.edge.result c.edge.ensures.row ∙ has_edge_is c.args.tables.now.rows c.args.id

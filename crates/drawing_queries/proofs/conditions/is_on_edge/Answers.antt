use Rattle.std.proofs.Common.{◌∙◌, ap}
use Rattle.std.specs.List.{list_all}
use Rattle.topo_base.specs.declared.rows.EdgeRow.{EdgeRow}
use Rattle.plane.specs.LinePoints.{has_proper_segments}
use Rattle.drawing.specs.Places.{rows_of}
use Rattle.drawing_queries.proofs.RowTests.{proper_rows, on_edge_rows}
use Rattle.drawing_queries.proofs.conditions.is_on_edge.Goals as goal

pub any_row-requires : goal.any_row-requires
any_row-requires g c = ap (list_all (λ (r : EdgeRow). has_proper_segments r.geom)) c.edges.ensures ∙ proper_rows c.args.tables.now.rows c.requires

pub returns-clause-test : goal.returns-clause-test
returns-clause-test g c =
    on_edge_rows c.args.tables.now.rows c.args.point (rows_of c.edges.result.now) c.any_row.result c.edges.ensures c.any_row.ensures.test

use Rattle.std.proofs.Common.{◌∙◌, ap}
use Rattle.std.specs.List.{list_all}
use Rattle.topo_base.specs.declared.rows.EdgeRow.{EdgeRow}
use Rattle.plane.specs.LinePoints.{has_proper_segments}
use Rattle.drawing.specs.Places.{rows_of}
use Rattle.drawing_queries.proofs.RowTests.{both_fit, proper_rows, meets_rows}
use Rattle.drawing_queries.proofs.conditions.meets_edge.Goals as goal

pub any_row-requires : goal.any_row-requires
any_row-requires g c =
    both_fit (has_proper_segments c.args.line.now) (λ (r : EdgeRow). has_proper_segments r.geom) (rows_of c.edges.result.now) c.requires.proper
    (ap (list_all (λ (r : EdgeRow). has_proper_segments r.geom)) c.edges.ensures ∙ proper_rows c.args.tables.now.rows c.requires.plain)

pub returns-clause-test : goal.returns-clause-test
returns-clause-test g c =
    meets_rows c.args.tables.now.rows c.args.line.now (rows_of c.edges.result.now) c.any_row.result c.edges.ensures c.any_row.ensures.test

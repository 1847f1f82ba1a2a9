use Rattle.drawing.specs.Places.{rows_of}
use Rattle.drawing_queries.proofs.RowTests.{all_fit}
use Rattle.topogeom_points.proofs.layers.is_name_taken.Goals as goal

pub any_row-requires : goal.any_row-requires
any_row-requires g c = all_fit (rows_of c.layers.result.now)

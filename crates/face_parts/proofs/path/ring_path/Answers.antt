use Rattle.std.proofs.Common.{◌∙◌, ap}
use Rattle.plane.specs.ClosedWalk.{closed_segments}
use Rattle.face_parts.proofs.DartPaths.{ring_closes}
use Rattle.face_parts.proofs.path.ring_path.Goals as goal

pub returns-clause-segments : goal.returns-clause-segments
returns-clause-segments g c = λ T h is. ap closed_segments (c.in-Ok.ensures.ring ∙ c.in_ok-vertices_along.ensures.path) ∙ ring_closes c.args.tables.now.rows.edges c.args.ring.now T h is

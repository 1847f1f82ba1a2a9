use Rattle.point_laws.proofs.PointsStaying.{points_stay}
use Rattle.point_laws.proofs.laws.points_law.Goals as goal

pub returns : goal.returns
returns c = points_stay

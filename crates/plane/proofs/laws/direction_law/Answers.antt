use Rattle.plane.proofs.Directions.{clockwise_is_order}
use Rattle.plane.proofs.laws.direction_law.Goals as goal

pub returns : goal.returns
returns c = clockwise_is_order

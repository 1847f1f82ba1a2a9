use Rattle.above_laws.proofs.Told.{faces_are_told_above}
use Rattle.above_laws.proofs.laws.above_law.Goals as goal

pub returns : goal.returns
returns c = faces_are_told_above

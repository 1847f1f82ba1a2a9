use Rattle.above_laws.proofs.Placing.{places_are_told}
use Rattle.above_laws.proofs.laws.places_law.Goals as goal

pub returns : goal.returns
returns c = places_are_told

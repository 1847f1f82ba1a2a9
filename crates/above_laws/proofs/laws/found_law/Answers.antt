use Rattle.above_laws.proofs.Finding.{faces_are_found}
use Rattle.above_laws.proofs.laws.found_law.Goals as goal

pub returns : goal.returns
returns c = faces_are_found

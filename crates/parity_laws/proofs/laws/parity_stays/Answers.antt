use Rattle.parity_laws.proofs.Walking.{path_stays}
use Rattle.parity_laws.proofs.laws.parity_stays.Goals as goal

pub returns : goal.returns
returns c = λ s X e f. path_stays s X e f

use Rattle.parity_laws.proofs.Larger.{path_at}
use Rattle.parity_laws.proofs.laws.parity_stays_at_rational_points.Goals as goal

pub returns : goal.returns
returns c = λ p q X e c. path_at p q X e c

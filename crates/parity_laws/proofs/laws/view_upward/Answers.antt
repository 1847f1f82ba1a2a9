use Rattle.parity_laws.proofs.Seeing.{view}
use Rattle.parity_laws.proofs.laws.view_upward.Goals as goal

pub returns : goal.returns
returns c = λ T d. view T d

use Rattle.parity_laws.proofs.Ringwise.{side_back}
use Rattle.parity_laws.proofs.laws.parity_changes.Goals as goal

pub returns : goal.returns
returns c = λ T X d p e w i. side_back T X d p e w i

use Rattle.reference_laws.proofs.ReferencesStaying.{references_stay}
use Rattle.reference_laws.proofs.laws.references_law.Goals as goal

pub returns : goal.returns
returns c = references_stay

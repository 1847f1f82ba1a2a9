use Rattle.covered_laws.proofs.DefinitionTelling.{definition_tells_all}
use Rattle.covered_laws.proofs.laws.definition_law.Goals as goal

pub returns : goal.returns
returns c = definition_tells_all

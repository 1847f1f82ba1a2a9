use Rattle.topo_model.proofs.TestsAgreeing.{tests_agree}
use Rattle.topo_model.proofs.laws.tests_law.Goals as goal

pub returns : goal.returns
returns c = tests_agree

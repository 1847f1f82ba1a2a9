use Rattle.above_laws.proofs.Faultless.{faults_tell_all}
use Rattle.above_laws.proofs.laws.faults_law.Goals as goal

pub returns : goal.returns
returns c = faults_tell_all

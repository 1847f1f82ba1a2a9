use Rattle.core_law.proofs.CoreRunning.{core_right}
use Rattle.core_law.proofs.laws.core_law.Goals as goal

pub returns : goal.returns
returns c = core_right

use Rattle.history_model.proofs.Running.{runs_right}
use Rattle.history_model.proofs.laws.runs_law.Goals as goal

pub returns : goal.returns
returns c = runs_right

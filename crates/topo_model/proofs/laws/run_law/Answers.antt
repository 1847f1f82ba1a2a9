use Rattle.topo_model.proofs.ScriptRunning.{scripts_right}
use Rattle.topo_model.proofs.laws.run_law.Goals as goal

pub returns : goal.returns
returns c = scripts_right

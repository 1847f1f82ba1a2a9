use Rattle.edge_heal.proofs.HealAgain.{heal_undoes_split}
use Rattle.edge_heal.proofs.laws.heal_law.Goals as goal

pub returns : goal.returns
returns c = heal_undoes_split

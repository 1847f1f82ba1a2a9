use Rattle.edit_changes.proofs.IdsGrowing.{all_grow}
use Rattle.edit_changes.proofs.laws.ids_law.Goals as goal

pub returns : goal.returns
returns c = all_grow

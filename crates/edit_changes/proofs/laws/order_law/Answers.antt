use Rattle.edit_changes.proofs.IdsOrdering.{ids_in_order_law}
use Rattle.edit_changes.proofs.laws.order_law.Goals as goal

pub returns : goal.returns
returns c = ids_in_order_law

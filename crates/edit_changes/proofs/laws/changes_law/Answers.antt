use Rattle.edit_changes.proofs.ChangesHold.{changes_are_steps}
use Rattle.edit_changes.proofs.laws.changes_law.Goals as goal

pub returns : goal.returns
returns c = changes_are_steps

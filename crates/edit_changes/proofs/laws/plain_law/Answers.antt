use Rattle.edit_changes.proofs.PlainStays.{plain_stays}
use Rattle.edit_changes.proofs.laws.plain_law.Goals as goal

pub returns : goal.returns
returns c = plain_stays

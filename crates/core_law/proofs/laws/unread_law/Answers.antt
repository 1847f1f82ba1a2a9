use Rattle.core_law.proofs.Unread.{unread_wrong}
use Rattle.core_law.proofs.laws.unread_law.Goals as goal

pub returns : goal.returns
returns c = unread_wrong

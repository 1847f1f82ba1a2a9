use Rattle.core_law.proofs.Stamps.{stamps_tell}
use Rattle.core_law.proofs.laws.stamp_law.Goals as goal

pub returns : goal.returns
returns c = stamps_tell

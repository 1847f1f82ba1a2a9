use Rattle.ring_laws.proofs.DividedSides.{parts_follow}
use Rattle.ring_laws.proofs.laws.parts_law.Goals as goal

pub returns : goal.returns
returns c = parts_follow

use Rattle.ring_laws.proofs.RingsStaying.{rings_stay}
use Rattle.ring_laws.proofs.laws.rings_law.Goals as goal

pub returns : goal.returns
returns c = rings_stay

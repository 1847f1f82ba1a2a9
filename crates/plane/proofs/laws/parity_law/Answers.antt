use Rattle.plane.proofs.ParityStaying.{parity_stays}
use Rattle.plane.proofs.laws.parity_law.Goals as goal

pub returns : goal.returns
returns c = parity_stays

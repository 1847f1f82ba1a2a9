use Rattle.point_laws.proofs.FirstAloneLoses.{first_alone_loses}
use Rattle.point_laws.proofs.laws.first_alone_law.Goals as goal

pub returns : goal.returns
returns c = first_alone_loses

use Rattle.parity_laws.proofs.Nearer.{near_left_at}
use Rattle.parity_laws.proofs.laws.near_point_sees_left.Goals as goal

pub returns : goal.returns
returns c = λ T X d m q h s e w. near_left_at T X d m q h s e w

use Rattle.parity_laws.proofs.Splitting.{join_faces}
use Rattle.parity_laws.proofs.laws.faces_joined.Goals as goal

pub returns : goal.returns
returns c = λ T f g h k. join_faces T f g h k

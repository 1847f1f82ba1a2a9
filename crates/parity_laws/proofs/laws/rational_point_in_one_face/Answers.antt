use Rattle.parity_laws.proofs.Larger.{one_face_at}
use Rattle.parity_laws.proofs.laws.rational_point_in_one_face.Goals as goal

pub returns : goal.returns
returns c = λ T F q d h s. one_face_at T F q d h s

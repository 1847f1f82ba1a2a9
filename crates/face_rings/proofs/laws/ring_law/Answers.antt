use Rattle.face_rings.proofs.Dividing.{rings_divide}
use Rattle.face_rings.proofs.laws.ring_law.Goals as goal

pub returns : goal.returns
returns c = rings_divide

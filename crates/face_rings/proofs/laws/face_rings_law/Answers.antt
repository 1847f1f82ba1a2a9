use Rattle.face_rings.proofs.FaceBorders.{rings_are_right}
use Rattle.face_rings.proofs.laws.face_rings_law.Goals as goal

pub returns : goal.returns
returns c = rings_are_right

use Rattle.face_parts.proofs.SideWrites.{sides_follow}
use Rattle.face_parts.proofs.laws.sides_law.Goals as goal

pub returns : goal.returns
returns c = sides_follow

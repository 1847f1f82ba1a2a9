use Rattle.face_laws.proofs.Covering.{covered_faced, sides_of, point_placed}
use Rattle.face_laws.proofs.laws.faced_law.Goals as goal

pub returns-clause-faced : goal.returns-clause-faced
returns-clause-faced c = λ S covered. covered_faced S covered

pub returns-clause-placed : goal.returns-clause-placed
returns-clause-placed c = λ S p covered. point_placed S p (sides_of S covered)

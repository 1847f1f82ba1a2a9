use Rattle.local_laws.proofs.LineLaws.{lines_lie_in_faces}
use Rattle.local_laws.proofs.laws.line_law.Goals as goal

pub returns : goal.returns
returns c = lines_lie_in_faces

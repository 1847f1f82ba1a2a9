use Rattle.core_law.proofs.WholeDrawing.{whole_drawing_right}
use Rattle.core_law.proofs.laws.whole_drawing_law.Goals as goal

pub returns : goal.returns
returns c = whole_drawing_right

use Rattle.local_laws.proofs.RingsOfDivision.{parts_lie_in_boxes}
use Rattle.local_laws.proofs.laws.box_law.Goals as goal

pub returns : goal.returns
returns c = parts_lie_in_boxes

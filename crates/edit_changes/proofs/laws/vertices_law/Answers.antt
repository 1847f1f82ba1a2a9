use Rattle.edit_changes.proofs.VerticesStay.{segments_stay}
use Rattle.edit_changes.proofs.laws.vertices_law.Goals as goal

pub returns : goal.returns
returns c = segments_stay

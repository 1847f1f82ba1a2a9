use Rattle.above_laws.proofs.KeptEdges.{edges_are_kept}
use Rattle.above_laws.proofs.laws.keeping_law.Goals as goal

pub returns : goal.returns
returns c = edges_are_kept

use Rattle.std.proofs.Common.{length}
use Rattle.box_index.proofs.tests.ids_near.Given as goal

abbrev pub decreases-loop-entry : goal.decreases-loop-entry
decreases-loop-entry g l = length l.near

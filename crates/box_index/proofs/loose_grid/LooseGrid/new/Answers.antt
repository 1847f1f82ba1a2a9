use Rattle.std.proofs.Common.{refl}
use Rattle.box_index.proofs.Indexed.{none_kept}
use Rattle.box_index.proofs.loose_grid.LooseGrid.new.Goals as goal

pub invariant_of-result : goal.invariant_of-result
invariant_of-result c = none_kept _ c.new.ensures.empty c.new-2.ensures.empty refl

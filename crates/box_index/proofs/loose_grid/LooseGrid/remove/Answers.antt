use Rattle.std.proofs.Common.{refl}
use Rattle.box_index.proofs.Taken.{is_there}
use Rattle.box_index.proofs.loose_grid.LooseGrid.remove.Goals as goal

pub returns-in-Some-clause-found : goal.returns-in-Some-clause-found
returns-in-Some-clause-found c = (λ _. is_there _ _ c.args.entry.now c.take_out.ensures.kept, λ _. refl)

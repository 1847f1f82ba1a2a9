use Rattle.std.proofs.Common.{refl}
use Rattle.box_index.proofs.Indexed.{reordered, kept_again}
use Rattle.box_index.proofs.loose_grid.LooseGrid.reserve.Goals as goal

pub invariant_of-self : goal.invariant_of-self
invariant_of-self c = reordered _ _ c.self.invariant c.reserve.ensures.unique c.reserve.ensures.entries.0 c.reserve.ensures.entries.2 (λ c. refl) refl

pub invariant_of-self-in_err-reserve-2 : goal.invariant_of-self-in_err-reserve-2
invariant_of-self-in_err-reserve-2 c = reordered _ _ c.self.invariant c.reserve.ensures.unique c.reserve.ensures.entries.0 c.reserve.ensures.entries.2 c.reserve-2.ensures.entries.2 refl

pub returns-in_err-reserve-2-clause-kept : goal.returns-in_err-reserve-2-clause-kept
returns-in_err-reserve-2-clause-kept c = kept_again _ _ _ c.self.view_is c.reserve.ensures.entries.0

pub invariant_of-self-2 : goal.invariant_of-self-2
invariant_of-self-2 c = reordered _ _ c.self.invariant c.reserve.ensures.unique c.reserve.ensures.entries.0 c.reserve.ensures.entries.2 c.reserve-2.ensures.entries.2 refl

pub returns-clause-kept : goal.returns-clause-kept
returns-clause-kept c = kept_again _ _ _ c.self.view_is c.reserve.ensures.entries.0

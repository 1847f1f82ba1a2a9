use Rattle.parity_laws.proofs.Ringwise.{ring_side, rings_are_even}
use Rattle.parity_laws.proofs.laws.ring_has_one_side.Goals as goal

pub returns-clause-constant : goal.returns-clause-constant
returns-clause-constant c = λ T X d R p e w k h. ring_side T X d R p e w k h

pub returns-clause-even : goal.returns-clause-even
returns-clause-even c = λ T R h. rings_are_even T R h

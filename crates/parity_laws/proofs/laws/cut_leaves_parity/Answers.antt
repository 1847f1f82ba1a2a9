use Rattle.parity_laws.proofs.Cutting.{cut_above, cut_left, cut_first}
use Rattle.parity_laws.proofs.laws.cut_leaves_parity.Goals as goal

pub returns-clause-over : goal.returns-clause-over
returns-clause-over c = λ s m X h q. cut_above s m X q h

pub returns-clause-others : goal.returns-clause-others
returns-clause-others c = λ s m X t h n. cut_left s m X t h n

pub returns-clause-part : goal.returns-clause-part
returns-clause-part c = λ s m X h. cut_first s m X h

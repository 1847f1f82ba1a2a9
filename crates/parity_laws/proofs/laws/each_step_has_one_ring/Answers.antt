use Rattle.parity_laws.proofs.Following.{follows, next_same, next_apart}
use Rattle.parity_laws.proofs.Orbits.{ring_label, label_even}
use Rattle.parity_laws.proofs.laws.each_step_has_one_ring.Goals as goal

pub returns-clause-next : goal.returns-clause-next
returns-clause-next c = λ T s p i. follows T p s i

pub returns-clause-same : goal.returns-clause-same
returns-clause-same c = λ T d n m p i j h k. next_same T d n m p i j h k

pub returns-clause-apart : goal.returns-clause-apart
returns-clause-apart c = λ T d e n p i j h k. next_apart T d e n p i j h k

pub returns-clause-ring : goal.returns-clause-ring
returns-clause-ring c = λ T s p i. ring_label T p s i

pub returns-clause-even : goal.returns-clause-even
returns-clause-even c = λ T label p o r. label_even T p o label r

use Rattle.parity_laws.proofs.Walking.{lines_even}
use Rattle.parity_laws.proofs.laws.lines_are_even.Goals as goal

pub returns : goal.returns
returns c = λ ls e. lines_even ls e

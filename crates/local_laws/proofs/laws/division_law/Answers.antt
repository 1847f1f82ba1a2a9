use Rattle.local_laws.proofs.RingsOfDivision.{division_is_local}
use Rattle.local_laws.proofs.laws.division_law.Goals as goal

pub returns : goal.returns
returns c = division_is_local

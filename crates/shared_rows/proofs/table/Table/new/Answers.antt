use Rattle.std.proofs.Common.{refl}
use Rattle.shared_rows.specs.Slotted.{tabulate}
use Rattle.shared_rows.proofs.table.Table.new.Goals as goal

pub returns : goal.returns
unfolding tabulate
returns g c = refl

use Rattle.parity_laws.proofs.Shells.{shell_law}
use Rattle.parity_laws.proofs.Splitting.{world}
use Rattle.parity_laws.proofs.laws.shell_by_parity.Goals as goal

pub returns : goal.returns
returns c = λ T ring n r d h f i e m t. shell_law T ring (world T ring d h) n r f i e m t

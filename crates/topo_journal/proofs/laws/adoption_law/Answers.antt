use Rattle.topo_journal.proofs.Parsed.{adoptable}
use Rattle.topo_journal.proofs.laws.adoption_law.Goals as goal

pub returns : goal.returns
returns c = adoptable

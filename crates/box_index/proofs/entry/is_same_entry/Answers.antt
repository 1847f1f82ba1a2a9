use Rattle.box_index.proofs.Same.{entry_decides}
use Rattle.box_index.proofs.entry.is_same_entry.Goals as goal

pub returns : goal.returns
returns c = entry_decides c.args.first.now c.args.second.now c.eq.result c.eq.ensures

use Rattle.edge_links.proofs.RightUnlinks.{unlinks_are_right}
use Rattle.edge_links.proofs.laws.unlinks_law.Goals as goal

pub returns : goal.returns
returns c = unlinks_are_right

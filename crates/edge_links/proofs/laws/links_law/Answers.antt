use Rattle.edge_links.proofs.RightLinks.{links_are_right}
use Rattle.edge_links.proofs.laws.links_law.Goals as goal

pub returns : goal.returns
returns c = links_are_right

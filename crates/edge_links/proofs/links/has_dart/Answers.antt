use Rattle.topo_base.specs.Darts.{same_dart}
use Rattle.edge_links.proofs.Places.{has_place}
use Rattle.edge_links.proofs.links.has_dart.Goals as goal

pub returns : goal.returns
returns c = has_place (same_dart c.args.dart.now) c.darts-darts.result.now c.args.star.now.darts c.place_of.result c.place_of.ensures c.darts-darts.ensures.darts

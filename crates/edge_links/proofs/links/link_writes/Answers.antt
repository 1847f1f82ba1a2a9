use Rattle.topo_base.specs.Darts.{same_dart}
use Rattle.edge_links.proofs.Places.{place_within}
use Rattle.edge_links.proofs.links.link_writes.Goals as goal

pub index_before-requires : goal.index_before-requires
index_before-requires c = place_within (same_dart c.args.dart) c.darts-darts.result.now c.args.star.now.darts c.place_of-place.result c.place_of-place.ensures c.darts-darts.ensures.darts c.requires

pub index_after-requires : goal.index_after-requires
index_after-requires c = place_within (same_dart c.args.dart) c.darts-darts.result.now c.args.star.now.darts c.place_of-place.result c.place_of-place.ensures c.darts-darts.ensures.darts c.requires

use Rattle.std.proofs.Common.{refl}
use Rattle.topo_base.specs.Darts.{same_dart}
use Rattle.edge_links.proofs.Places.{place_within}
use Rattle.edge_links.proofs.unlinks.dart_after.Goals as goal

pub index_after-requires : goal.index_after-requires
index_after-requires c = place_within (same_dart c.args.dart.now) c.args.darts.now c.args.darts.now c.place_of-place.result c.place_of-place.ensures refl c.requires

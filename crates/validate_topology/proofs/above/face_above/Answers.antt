use Rattle.std.proofs.Common.{Some, None, refl}
use Rattle.validate_topology.proofs.FirstAbove.{counted_above}
use Rattle.validate_topology.proofs.above.face_above.Goals as goal

pub returns-in-None : goal.returns-in-None
returns-in-None g c = record { first = None; above = counted_above c.args.edges.now c.args.index.now.kept c.args.point None c.requires c.in-None.ensures.above; face = refl }

pub returns-in-Some : goal.returns-in-Some
returns-in-Some g c = record {
  first = Some c.in-Some.dart;
  above = counted_above c.args.edges.now c.args.index.now.kept c.args.point (Some c.in-Some.dart) c.requires c.in-Some.ensures.above;
  face = c.face_left_of.ensures;
}

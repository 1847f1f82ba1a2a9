use Rattle.validate_topology.proofs.RingsFound.{AreFound}
use Rattle.validate_topology.proofs.walks.walks_of.Given as goal

abbrev pub invariant-loop-place : goal.invariant-loop-place
invariant-loop-place l = AreFound l.sides l.place l.walks.items l.seen.items

use Rattle.std.proofs.Common.{◌-◌, length}
use Rattle.validate_topology.proofs.RingWalks.{IsRounding}
use Rattle.validate_topology.proofs.walks.ring_from.Given as goal

abbrev pub invariant-loop-ring : goal.invariant-loop-ring
invariant-loop-ring l = IsRounding l.sides l.first l.here l.ring.items l.initial.seen l.seen

abbrev pub decreases-loop-ring : goal.decreases-loop-ring
decreases-loop-ring l = length l.sides - length l.ring.items

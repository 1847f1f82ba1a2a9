use Rattle.std.proofs.Common.{◌-◌, length}
use Rattle.face_rings.proofs.Walking.{IsWalked}
use Rattle.face_rings.proofs.rings.ring_of.Given as goal

abbrev pub invariant-loop-ring : goal.invariant-loop-ring
invariant-loop-ring l = IsWalked l.rows l.dart l.ring.items l.here

abbrev pub decreases-loop-ring : goal.decreases-loop-ring
decreases-loop-ring l = length l.rows - length l.ring.items

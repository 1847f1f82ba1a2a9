use Rattle.std.proofs.Common.{◌≡◌, ◌++◌, take}
use Rattle.validate_topology.specs.RingLines.{sides_differ, walked_forward}
use Rattle.validate_topology.specs.Walks.{halves_of}
use Rattle.validate_topology.proofs.ring_lines.forward_sides.Given as goal

abbrev pub invariant-loop-place : goal.invariant-loop-place
invariant-loop-place l = l.report ≡ l.fn.report ++ sides_differ (halves_of l.sides) (walked_forward (take l.place (halves_of l.sides)))

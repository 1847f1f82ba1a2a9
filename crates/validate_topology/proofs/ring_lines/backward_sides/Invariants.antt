use Rattle.std.proofs.Common.{◌≡◌, ◌≤◌, ◌++◌, drop, length}
use Rattle.validate_topology.specs.RingLines.{sides_differ, walked_back}
use Rattle.validate_topology.specs.Walks.{halves_of}
use Rattle.validate_topology.proofs.ring_lines.backward_sides.Given as goal

abbrev pub invariant-loop-left : goal.invariant-loop-left
invariant-loop-left l = record {
  within : l.left ≤ length l.sides;
  lines : l.report ≡ l.fn.report ++ sides_differ (halves_of l.sides) (walked_back (drop l.left (halves_of l.sides)));
}

abbrev pub decreases-loop-left : goal.decreases-loop-left
decreases-loop-left l = l.left

use Rattle.std.proofs.Common.{◌≡◌, ◌≤◌, ◌++◌, drop, length}
use Rattle.std.specs.Prelude.{reverse}
use Rattle.validate_topology.proofs.walks.push_reversed.Given as goal

-- those from this place on are there, the last first
abbrev pub invariant-loop-left : goal.invariant-loop-left
invariant-loop-left l = record {
  within : l.left ≤ length l.vertices;
  path : l.path.items ≡ l.fn.path.items ++ reverse (drop l.left l.vertices);
}

abbrev pub decreases-loop-left : goal.decreases-loop-left
decreases-loop-left l = l.left

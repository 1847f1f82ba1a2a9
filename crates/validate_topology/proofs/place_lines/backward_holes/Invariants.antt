use Rattle.std.proofs.Common.{◌≡◌, ◌≤◌, ◌++◌, ℕ, false, drop, flat_map, length, map}
use Rattle.std.specs.Prelude.{reverse}
use Rattle.topo_base.specs.Point.{Point}
use Rattle.validate_topology.specs.FaceAbove.{TellsFaces}
use Rattle.validate_topology.specs.PlaceLines.{hole_line}
use Rattle.validate_topology.specs.Walks.{ring_in}
use Rattle.validate_topology.proofs.place_lines.backward_holes.Given as goal

abbrev pub invariant-loop-left : goal.invariant-loop-left
invariant-loop-left g l = record {
  within : l.left ≤ length l.walks;
  lines : (above : Point → ℕ) → TellsFaces l.edges above → l.report ≡ l.fn.report ++ flat_map (hole_line above false) (reverse (drop l.left (map ring_in l.walks)));
}

abbrev pub decreases-loop-left : goal.decreases-loop-left
decreases-loop-left g l = l.left

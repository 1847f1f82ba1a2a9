use Rattle.std.proofs.Common.{◌≡◌, ◌++◌, ℕ, true, flat_map, map, take}
use Rattle.topo_base.specs.Point.{Point}
use Rattle.validate_topology.specs.FaceAbove.{TellsFaces}
use Rattle.validate_topology.specs.PlaceLines.{hole_line}
use Rattle.validate_topology.specs.Walks.{ring_in}
use Rattle.validate_topology.proofs.place_lines.forward_holes.Given as goal

abbrev pub invariant-loop-walk : goal.invariant-loop-walk
invariant-loop-walk g l = (above : Point → ℕ) → TellsFaces l.edges above → l.report ≡ l.fn.report ++ flat_map (hole_line above true) (map ring_in (take l.walk-index l.walks))

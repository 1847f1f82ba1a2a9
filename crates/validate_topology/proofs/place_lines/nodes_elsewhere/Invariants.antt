use Rattle.std.proofs.Common.{◌≡◌, ◌++◌, ℕ, take}
use Rattle.topo_base.specs.Point.{Point}
use Rattle.validate_topology.specs.FaceAbove.{TellsFaces}
use Rattle.validate_topology.specs.PlaceLines.{node_lines}
use Rattle.validate_topology.proofs.place_lines.nodes_elsewhere.Given as goal

abbrev pub invariant-loop-row : goal.invariant-loop-row
invariant-loop-row g l = (above : Point → ℕ) → TellsFaces l.edges above → l.report ≡ l.fn.report ++ node_lines above (take l.row-index l.nodes)

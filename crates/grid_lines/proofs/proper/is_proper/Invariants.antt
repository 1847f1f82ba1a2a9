use Rattle.std.proofs.Common.{◌≡◌, drop}
use Rattle.plane.specs.LinePoints.{has_proper_segments}
use Rattle.grid_lines.proofs.proper.is_proper.Given as goal

-- the segments before this vertex are proper
abbrev pub invariant-loop-i : goal.invariant-loop-i
invariant-loop-i l = has_proper_segments l.vertices ≡ has_proper_segments (drop l.i l.vertices)

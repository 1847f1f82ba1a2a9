use Rattle.std.proofs.Common.{◌≡◌, ◌+◌, ◌*◌, ◌≤◌, drop, length}
use Rattle.plane.specs.Line.{are_simple, segments_of}
use Rattle.grid_lines.proofs.simple.are_simple.Given as goal

-- the segments before this vertex meet the others as those of a simple line
abbrev pub invariant-loop-i : goal.invariant-loop-i
invariant-loop-i g l = record {
  test : are_simple l.first (segments_of l.vertices) ≡ are_simple l.first (segments_of (drop l.i l.vertices));
  counted : l.steps ≤ l.fn.steps + l.i * length l.vertices;
}

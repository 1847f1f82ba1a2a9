use Rattle.std.proofs.Common.{◌≡◌, ◌+◌, ◌≤◌, drop}
use Rattle.plane.specs.Line.{on_line}
use Rattle.grid_lines.proofs.points.on_line.Given as goal

-- p is not on the segments before this vertex
abbrev pub invariant-loop-i : goal.invariant-loop-i
invariant-loop-i g l = record {
  test : on_line l.p l.vertices ≡ on_line l.p (drop l.i l.vertices);
  counted : l.steps ≤ l.fn.steps + l.i;
}

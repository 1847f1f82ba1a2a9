use Rattle.std.proofs.Common.{◌≡◌, ◌++◌, drop, take}
use Rattle.plane.specs.Line.{line_from, line_up_to, on_line}
use Rattle.grid_lines.proofs.splits.find_segment.Given as goal

-- p is on no segment before this vertex
abbrev pub invariant-loop-i : goal.invariant-loop-i
invariant-loop-i l = record {
  on : on_line l.p l.vertices ≡ on_line l.p (drop l.i l.vertices);
  up_to : line_up_to l.p l.vertices ≡ take l.i l.vertices ++ line_up_to l.p (drop l.i l.vertices);
  from : line_from l.p l.vertices ≡ line_from l.p (drop l.i l.vertices);
}

use Rattle.std.proofs.Common.{◌≡◌, ◌+◌, ◌≤◌, drop}
use Rattle.plane.specs.Line.{is_apart_from, segments_of}
use Rattle.grid_lines.proofs.simple.is_apart_from.Given as goal

-- the segments before this vertex have no common point with s
abbrev pub invariant-loop-i : goal.invariant-loop-i
invariant-loop-i g l = record {
  test : is_apart_from l.p l.s (segments_of l.vertices) ≡ is_apart_from l.p l.s (segments_of (drop l.i l.vertices));
  counted : l.steps ≤ l.fn.steps + l.i;
}

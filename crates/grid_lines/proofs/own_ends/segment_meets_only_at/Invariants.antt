use Rattle.std.proofs.Common.{◌≡◌, ◌+◌, ◌≤◌, drop}
use Rattle.std.specs.List.{list_all}
use Rattle.plane.specs.Line.{segments_of}
use Rattle.plane.specs.Segment.{meets_only_at}
use Rattle.grid_lines.proofs.own_ends.segment_meets_only_at.Given as goal

-- s meets the segments before this vertex at p or q alone
abbrev pub invariant-loop-i : goal.invariant-loop-i
invariant-loop-i g l = record {
  test : list_all (meets_only_at l.p l.q l.s) (segments_of l.vertices) ≡ list_all (meets_only_at l.p l.q l.s) (segments_of (drop l.i l.vertices));
  counted : l.steps ≤ l.fn.steps + l.i;
}

use Rattle.std.proofs.Common.{◌≡◌, ◌+◌, ◌*◌, ◌≤◌, drop, length}
use Rattle.std.specs.List.{list_all}
use Rattle.plane.specs.Line.{segments_of}
use Rattle.plane.specs.Segment.{meets_only_at}
use Rattle.grid_lines.proofs.own_ends.meets_at_own_ends.Given as goal

-- the segments before this vertex meet the other line at the two ends alone
abbrev pub invariant-loop-i : goal.invariant-loop-i
invariant-loop-i g l = record {
  test : list_all (λ s. list_all (meets_only_at l.first l.last s) (segments_of l.other)) (segments_of l.vertices)
      ≡ list_all (λ s. list_all (meets_only_at l.first l.last s) (segments_of l.other)) (segments_of (drop l.i l.vertices));
  counted : l.steps ≤ l.fn.steps + l.i * length l.other;
}

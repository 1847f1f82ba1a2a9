use Rattle.std.proofs.Common.{◌+◌, ◌*◌, ◌≤◌, drop, length}
use Rattle.topo_base.specs.declared.meeting.Meeting.{Meeting}
use Rattle.plane.specs.Line.{segments_of}
use Rattle.grid_lines.specs.Parts.{PartsMeet, combined}
use Rattle.grid_lines.proofs.meetings.lines_meet.Given as goal

-- what the rest of a meets in b, with what was met before, is what the whole meets
abbrev pub invariant-loop-i : goal.invariant-loop-i
invariant-loop-i g l = record {
  meets : (m : Meeting) → PartsMeet m l.a l.b (segments_of (drop l.i l.vertices)) (segments_of l.b)
      → PartsMeet (combined l.meeting m) l.a l.b (segments_of l.vertices) (segments_of l.b);
  counted : l.steps ≤ l.fn.steps + l.i * length l.b;
}

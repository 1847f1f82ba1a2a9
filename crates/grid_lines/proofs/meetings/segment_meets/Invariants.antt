use Rattle.std.proofs.Common.{◌+◌, ◌≤◌, [], ◌∷◌, drop}
use Rattle.topo_base.specs.declared.meeting.Meeting.{Meeting}
use Rattle.plane.specs.Line.{segments_of}
use Rattle.grid_lines.specs.Parts.{PartsMeet, combined}
use Rattle.grid_lines.proofs.meetings.segment_meets.Given as goal

-- what s meets in the rest of b, with what it met before, is what it meets in the whole
abbrev pub invariant-loop-i : goal.invariant-loop-i
invariant-loop-i g l = record {
  meets : (m : Meeting) → PartsMeet m l.a l.b (l.s ∷ []) (segments_of (drop l.i l.vertices))
      → PartsMeet (combined l.meeting m) l.a l.b (l.s ∷ []) (segments_of l.vertices);
  counted : l.steps ≤ l.fn.steps + l.i;
}

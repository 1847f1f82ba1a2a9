use Rattle.std.proofs.Common.{◌+◌, List, drop, subst, arith}
use Rattle.topo_base.specs.Point.{Point}
use Rattle.plane.specs.Line.{segments_of}
use Rattle.grid_lines.specs.Parts.{PartsMeet}
use Rattle.grid_lines.proofs.Vertices.{segments_end}
use Rattle.grid_lines.proofs.LinesMeeting.{first_step, first_end}
use Rattle.grid_lines.proofs.meetings.lines_meet.Goals as goal

pub loop-i-preserved : goal.loop-i-preserved
loop-i-preserved g c =
    let vs = c.vertices-vertices.result.now in
    let i = c.loop-i.i in
    record {
      meets = λ m after.
          first_step c.loop-i.meeting c.segment_meets.result m c.combined-meeting.result c.args.a.now c.args.b.now (segments_of c.args.b.now)
          (segments_of vs) (segments_of (drop i vs)) (segments_of (drop (i + 1) vs)) c.segment-s.result
          c.combined-meeting.ensures c.segment-s.ensures c.loop-i.invariant.meets c.segment_meets.ensures.meets after;
      counted = omega arith;
    }

pub returns-clause-meets : goal.returns-clause-meets
returns-clause-meets g c =
    let vs = c.vertices-vertices.result.now in
    let k = first_end c.loop-i.meeting c.args.a.now c.args.b.now (segments_of c.args.b.now) (segments_of vs) (segments_of (drop c.loop-i.i vs))
    (segments_end vs c.loop-i.i (omega arith)) c.loop-i.invariant.meets in
    let whole = λ (l : List Point). PartsMeet c.loop-i.meeting c.args.a.now c.args.b.now (segments_of l) (segments_of c.args.b.now) in
    subst whole c.vertices-vertices.ensures.vertices k

use Rattle.grid_lines.proofs.LinesMeeting.{apart_meet, overlap_meet}
use Rattle.grid_lines.proofs.meetings.segments_meet.Goals as goal

pub returns-in-Apart-clause-meets : goal.returns-in-Apart-clause-meets
returns-in-Apart-clause-meets g c = apart_meet c.args.a.now c.args.b.now c.args.s.now c.args.t.now c.in-Apart.ensures.relates

pub returns-in-Overlap-clause-meets : goal.returns-in-Overlap-clause-meets
returns-in-Overlap-clause-meets g c = overlap_meet c.args.a.now c.args.b.now c.args.s.now c.args.t.now c.in-Overlap.ensures.relates

pub met_once-requires : goal.met_once-requires
met_once-requires g c = let h = c.in-TouchEnds.ensures.relates in (h.0, h.1.0)

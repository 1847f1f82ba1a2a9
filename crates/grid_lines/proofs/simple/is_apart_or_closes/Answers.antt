use Rattle.grid_lines.proofs.Links.{apart_closes, ends_close, meet_closes, overlap_closes}
use Rattle.grid_lines.proofs.simple.is_apart_or_closes.Goals as goal

pub returns-in-Apart-clause-test : goal.returns-in-Apart-clause-test
returns-in-Apart-clause-test g c = apart_closes c.args.p.now c.args.s.now c.args.t.now c.in-Apart.ensures.relates

pub returns-in-TouchEnds-clause-test : goal.returns-in-TouchEnds-clause-test
returns-in-TouchEnds-clause-test g c =
    ends_close c.args.p.now c.args.s.now c.args.t.now c.begins_and_ends.result c.begins_and_ends.ensures c.in-TouchEnds.ensures.relates

pub returns-in-Meet-clause-test : goal.returns-in-Meet-clause-test
returns-in-Meet-clause-test g c = meet_closes c.args.p.now c.args.s.now c.args.t.now c.in-Meet.ensures.relates

pub returns-in-Overlap-clause-test : goal.returns-in-Overlap-clause-test
returns-in-Overlap-clause-test g c = overlap_closes c.args.p.now c.args.s.now c.args.t.now c.in-Overlap.ensures.relates

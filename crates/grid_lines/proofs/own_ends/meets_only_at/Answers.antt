use Rattle.grid_lines.proofs.Tested.{apart_only, ends_only, meet_only, overlap_only}
use Rattle.grid_lines.proofs.own_ends.meets_only_at.Goals as goal

pub returns-in-Apart-clause-test : goal.returns-in-Apart-clause-test
returns-in-Apart-clause-test g c = apart_only c.args.p c.args.q c.args.s.now c.args.t.now c.in-Apart.ensures.relates

pub returns-in-TouchEnds-clause-test : goal.returns-in-TouchEnds-clause-test
returns-in-TouchEnds-clause-test g c =
    ends_only c.args.p c.args.q c.args.s.now c.args.t.now c.share_either.result c.in-TouchEnds.ensures.relates c.share_either.ensures

pub returns-in-Meet-clause-test : goal.returns-in-Meet-clause-test
returns-in-Meet-clause-test g c =
    meet_only c.args.p c.args.q c.args.s.now c.args.t.now c.share_either-in-Meet.result c.in-Meet.ensures.relates c.share_either-in-Meet.ensures

pub returns-in-Overlap-clause-test : goal.returns-in-Overlap-clause-test
returns-in-Overlap-clause-test g c = overlap_only c.args.p c.args.q c.args.s.now c.args.t.now c.in-Overlap.ensures.relates

use Rattle.std.proofs.Common.{sym, ◌∙◌}
use Rattle.grid_lines.proofs.LinesMeeting.{ends_meet, inside_meet}
use Rattle.grid_lines.proofs.meetings.met_once.Goals as goal

pub returns-then-share_line_end : goal.returns-then-share_line_end
returns-then-share_line_end c =
    ends_meet c.args.a.now c.args.b.now c.args.s.now c.args.t.now c.requires (sym c.share_line_end.ensures ∙ c.if-share_line_end.true)

pub returns-else-share_line_end : goal.returns-else-share_line_end
returns-else-share_line_end c =
    inside_meet c.args.a.now c.args.b.now c.args.s.now c.args.t.now c.requires (sym c.share_line_end.ensures ∙ c.if-share_line_end.false)

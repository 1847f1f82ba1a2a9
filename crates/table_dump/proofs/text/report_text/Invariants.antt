use Rattle.std.proofs.Common.{◌≡◌, take}
use Rattle.table_dump.specs.ReportText.{report_text}
use Rattle.table_dump.proofs.text.report_text.Given as goal

abbrev pub invariant-loop-line : goal.invariant-loop-line
invariant-loop-line l = l.text ≡ report_text (take l.line-index l.line-items)

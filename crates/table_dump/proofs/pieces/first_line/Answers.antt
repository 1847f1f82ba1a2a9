use Rattle.table_dump.proofs.Lines.{line_at, line_all}
use Rattle.table_dump.proofs.pieces.first_line.Goals as goal

pub returns-in-Some-clause-lines : goal.returns-in-Some-clause-lines
returns-in-Some-clause-lines c =
    line_at c.args.text.now c.split_at.result.0.now c.split_at.result.1.now c.split_at-in-Some.result.1.now c.in-Some.at c.in-Some.ensures.some c.split_at.ensures.front c.split_at.ensures.back c.split_at-in-Some.ensures.back

pub returns-in-None-clause-lines : goal.returns-in-None-clause-lines
returns-in-None-clause-lines c =
    line_all c.args.text.now c.split_at-in-None.result.0.now c.split_at-in-None.result.1.now c.requires c.in-None.ensures.none c.split_at-in-None.ensures.front c.split_at-in-None.ensures.back

use Rattle.table_dump.proofs.Lines.{front_at, front_all}
use Rattle.table_dump.proofs.pieces.front_word.Goals as goal

pub returns-in-Some : goal.returns-in-Some
returns-in-Some c = front_at c.args.line.now c.split_at.result.0.now c.split_at.result.1.now c.in-Some.at c.in-Some.ensures.some c.split_at.ensures.front c.split_at.ensures.back

pub returns-in-None : goal.returns-in-None
returns-in-None c = front_all c.args.line.now c.split_at-in-None.result.0.now c.split_at-in-None.result.1.now c.in-None.ensures.none c.split_at-in-None.ensures.front c.split_at-in-None.ensures.back

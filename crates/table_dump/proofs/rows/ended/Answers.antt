use Rattle.table_dump.proofs.Places.{not_whole}
use Rattle.table_dump.proofs.rows.ended.Goals as goal

pub returns-in-len1-up : goal.returns-in-len1-up
returns-in-len1-up g c = not_whole c.args.read c.args.rest.now c.in-len1-up.len_at_least

use Rattle.table_dump.specs.Lines.{words_behind}
use Rattle.table_dump.proofs.Places.{longer}
use Rattle.table_dump.proofs.rows.is_face_0.Goals as goal

pub returns-in-len1-up : goal.returns-in-len1-up
returns-in-len1-up c =
    longer (words_behind c.args.words.now) c.in-Some.id.now c.in-Some-next_word.mbr.now c.in-Some-next_word.rest.now c.in-Some.rest.now c.in-Some.ensures.some c.in-Some-next_word.ensures.some c.in-len1-up.len_at_least

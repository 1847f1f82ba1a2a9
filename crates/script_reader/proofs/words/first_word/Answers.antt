use Rattle.std.proofs.Common.{◌<◌, length, sym, ◌∙◌, rules}
use Rattle.script_reader.proofs.WordSplits.{words_front, words_alone}
use Rattle.script_reader.proofs.words.first_word.Goals as goal

pub returns-in-Some : goal.returns-in-Some
returns-in-Some c =
    let some : 0 < length c.without_blanks-line.result.now = search rules in
    sym c.without_blanks-line.ensures.words ∙ words_front _ _ _ c.in-Some.ensures.some c.without_blanks-line.ensures.begins some

pub returns-in-None : goal.returns-in-None
returns-in-None c =
    let some : 0 < length c.without_blanks-line.result.now = search rules in
    sym c.without_blanks-line.ensures.words ∙ words_alone _ _ _ c.in-None.ensures.none some c.split_at.ensures.front c.split_at.ensures.back

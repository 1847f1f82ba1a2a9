use Rattle.std.proofs.Common.{◌∷◌, ◌++◌, ◌∙◌, sym, ap, rules}
use Rattle.std.proofs.lemmas.Bool.Decides.{Decides-eqb}
use Rattle.std.proofs.lemmas.Slice.Eq.{starts_is}
use Rattle.script_model.specs.Script.{is_comment, words_of}
use Rattle.script_reader.specs.Reading.{AreWordsOf}
use Rattle.script_reader.proofs.ScriptSteps.{not_comment}
use Rattle.script_reader.proofs.read.read_line.Goals as goal

pub returns-in-Some-2 : goal.returns-in-Some-2
returns-in-Some-2 c =
    let h : AreWordsOf (c.in-Some.word.now ∷ words_of c.in-Some.rest.now) c.in-Some-2.line = search rules in
    let other = (starts_is Decides-eqb c.in-Some.word.now c.as_slice.result.now c.starts_with.result c.starts_with.ensures.value).1 in
    let plain = not_comment c.in-Some.word.now (words_of c.in-Some.rest.now) (λ rest e. cc (other rest (e ∙ ap (λ l. l ++ rest) (sym c.as_slice.ensures)))) in
    (ap is_comment c.in-Some.ensures ∙ plain, record { good = h.good; spelled = c.in-Some.ensures ∙ h.spelled })

use Rattle.std.proofs.Common.{◌≡◌, ◌++◌, Some, false, ap, ◌∙◌, rules}
use Rattle.std.proofs.lemmas.Bool.Decides.{Decides-eqb}
use Rattle.std.proofs.lemmas.Slice.Eq.{strip_prefix_is}
use Rattle.topo_base.specs.Names.{is_name}
use Rattle.script_reader.proofs.IdWords.{no_bound}
use Rattle.script_reader.proofs.ids.id_word.Goals as goal

pub returns-in-None-2 : goal.returns-in-None-2
returns-in-None-2 c =
    let other : is_name c.in-Some.name.now ≡ false = search rules in
    let word = strip_prefix_is Decides-eqb c.args.word.now c.as_slice.result.now (Some c.in-Some.name) c.in-Some.ensures.cases in
    no_bound _ _ (word ∙ ap (λ l. l ++ c.in-Some.name.now) c.as_slice.ensures) other

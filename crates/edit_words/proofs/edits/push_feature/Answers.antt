use Rattle.std.proofs.Common.{◌≡◌, ℕ, List, ◌++◌, ◌∷◌, [], subst, ap, ◌∙◌, OnOk}
use Rattle.std.specs.Prelude.{codes, flat_map}
use Rattle.std.specs.Fmt.{decimal}
use Rattle.script_model.specs.Words.{spaced, pair_words}
use Rattle.script_model.proofs.Lines.{join-more}
use Rattle.edit_words.proofs.edits.push_feature.Goals as goal

pub returns : goal.returns
returns c =
    let elements = flat_map pair_words c.args.elements.now in
    let whole = ap (λ (t : List ℕ). t ++ spaced elements) c.in_ok-push_one.ensures ∙ join-more c.args.text.now (codes "createtopogeom") (decimal c.args.layer ∷ []) elements in
    subst (λ (t : List ℕ). OnOk c.push_pairs.result (c.push_pairs.new.text ≡ t)) whole c.push_pairs.ensures

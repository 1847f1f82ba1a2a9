use Rattle.std.proofs.Common.{◌≡◌, ℕ, List, ◌++◌, ◌∷◌, [], subst, ap, ◌∙◌, OnOk}
use Rattle.std.specs.Prelude.{codes, flat_map}
use Rattle.topo_base.specs.declared.element.Element.{Element}
use Rattle.script_model.specs.Words.{spaced, element_words}
use Rattle.script_model.specs.Texts.{at_front}
use Rattle.script_model.proofs.Lines.{line_of-two}
use Rattle.edit_words.proofs.replies.push_done.Goals as goal

pub returns : goal.returns
returns c =
    let text = c.args.text.now in
    let behind = spaced (at_front c.args.front) ++ 10 ∷ [] in
    let elements = ap (λ (xs : List Element). spaced (flat_map element_words xs)) c.as_slice.ensures.elements in
    let before = c.in_ok-push_elements.ensures
    ∙ ap (λ (t : List ℕ). t ++ spaced (flat_map element_words c.as_slice.result.now)) c.in_ok-push_bytes.ensures
    ∙ ap (λ (t : List ℕ). (text ++ codes "done") ++ t) elements in
    subst (λ (t : List ℕ). OnOk c.push_front.result (c.push_front.new.text ≡ t))
    (ap (λ (t : List ℕ). t ++ behind) before ∙ line_of-two text (codes "done") (flat_map element_words c.args.ids.now) (at_front c.args.front)) c.push_front.ensures

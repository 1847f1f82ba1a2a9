use Rattle.std.proofs.Common.{◌≡◌, ℕ, List, ◌++◌, ◌∷◌, [], subst, ap, ◌∙◌, OnOk}
use Rattle.std.specs.Prelude.{codes}
use Rattle.std.specs.Fmt.{decimal}
use Rattle.script_model.specs.Words.{spaced, element_words}
use Rattle.script_model.specs.Texts.{at_front}
use Rattle.script_model.proofs.Lines.{line_of-three}
use Rattle.edit_words.proofs.replies.push_stale.Goals as goal

pub returns : goal.returns
returns c =
    let text = c.args.text.now in
    let behind = spaced (at_front c.args.front) ++ 10 ∷ [] in
    let words = element_words c.args.element in
    let stamps = codes "read" ∷ decimal c.args.read ∷ codes "now" ∷ decimal c.args.now ∷ [] in
    let before = c.in_ok-push_stamps.ensures
    ∙ ap (λ (t : List ℕ). t ++ spaced stamps) (c.in_ok-push_element.ensures ∙ ap (λ (t : List ℕ). t ++ spaced words) c.in_ok-push_bytes.ensures) in
    subst (λ (t : List ℕ). OnOk c.push_front.result (c.push_front.new.text ≡ t))
    (ap (λ (t : List ℕ). t ++ behind) before ∙ line_of-three text (codes "stale") words stamps (at_front c.args.front)) c.push_front.ensures

use Rattle.std.proofs.Common.{◌≡◌, ℕ, List, ◌++◌, ◌∷◌, [], subst, ap, ◌∙◌, OnOk}
use Rattle.std.specs.Fmt.{decimal}
use Rattle.std.specs.List.{join_with_byte}
use Rattle.script_model.specs.Words.{spaced, line_words}
use Rattle.script_model.proofs.Lines.{join-more}
use Rattle.edit_words.proofs.edits.push_edge.Goals as goal

pub returns : goal.returns
returns c =
    let line = line_words c.args.line.now in
    let words = λ (m n : ℕ). c.args.text.now ++ join_with_byte 32 (c.args.verb.now ∷ decimal m ∷ decimal n ∷ line) in
    let whole = ap (λ (t : List ℕ). t ++ spaced line) c.in_ok-push_two.ensures
    ∙ join-more c.args.text.now c.args.verb.now (decimal c.start.inside.0 ∷ decimal c.end.inside.0 ∷ []) line
    ∙ ap (λ (m : ℕ). words m c.end.inside.0) c.start.view_is ∙ ap (λ (n : ℕ). words c.args.start n) c.end.view_is in
    subst (λ (t : List ℕ). OnOk c.push_line.result (c.push_line.new.text ≡ t)) whole c.push_line.ensures

use Rattle.std.proofs.Common.{◌≡◌, ℕ, List, [], ◌∷◌, ◌++◌, ap, subst, ◌∙◌, OnOk, append_assoc}
use Rattle.std.specs.Prelude.{codes}
use Rattle.std.specs.Fmt.{decimal}
use Rattle.topo.proofs.end.push_bad_gate.Goals as goal

pub returns : goal.returns
returns c =
    let text = c.args.text.now in
    let word = codes "fault journal " in
    let number = decimal c.args.offset in
    let before = ap (λ (t : List ℕ). t ++ 10 ∷ []) (c.in_ok-push_count.ensures ∙ ap (λ (t : List ℕ). t ++ number) c.in_ok-push_bytes.ensures)
    ∙ append_assoc (text ++ word) number (10 ∷ []) ∙ append_assoc text word (number ++ 10 ∷ []) in
    subst (λ (t : List ℕ). OnOk c.push.result (c.push.new.self ≡ t)) before c.push.ensures

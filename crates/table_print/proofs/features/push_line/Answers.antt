use Rattle.std.proofs.Common.{◌≡◌, ℕ, List, length, ◌++◌, ◌∷◌, [], subst, ap, ◌∙◌, OnOk, append_assoc}
use Rattle.std.specs.Prelude.{codes}
use Rattle.std.specs.Fmt.{decimal}
use Rattle.topo_base.specs.declared.rows.FeatureRow.{FeatureRow}
use Rattle.script_model.specs.Texts.{number_words}
use Rattle.script_model.specs.Words.{spaced}
use Rattle.script_model.proofs.Lines.{line_of-two}
use Rattle.table_print.proofs.features.push_line.Goals as goal

pub returns : goal.returns
returns c =
    let row : FeatureRow = c.args.row.now in
    let text = c.args.text.now in
    let head = decimal row.feature_id ∷ decimal row.layer_id ∷ decimal c.args.kind ∷ decimal (length c.args.numbers.now) ∷ [] in
    let numbers = number_words c.args.numbers.now in
    let behind = λ (ws : List (List ℕ)) (t : List ℕ). t ++ spaced ws in
    let before = c.in_ok-push_numbers.ensures ∙ ap (behind numbers) (c.in_ok-push_head.ensures ∙ ap (behind head) c.in_ok-push_bytes.ensures) in
    subst (λ (t : List ℕ). OnOk c.push.result (c.push.new.self ≡ t))
    (ap (λ (t : List ℕ). t ++ 10 ∷ []) before ∙ append_assoc ((text ++ codes "feature") ++ spaced head) (spaced numbers) (10 ∷ []) ∙ line_of-two text (codes "feature") head numbers) c.push.ensures

use Rattle.std.proofs.Common.{ℕ, List, Option, ◌++◌, ap, ◌∙◌}
use Rattle.std.specs.Prelude.{flat_map}
use Rattle.std.proofs.lemmas.List.{take_all}
use Rattle.topo_base.specs.declared.rows.FeatureRow.{FeatureRow}
use Rattle.drawing.specs.Places.{at_slot}
use Rattle.drawing.specs.Tables.{drawn}
use Rattle.script_model.specs.Texts.{descent_text}
use Rattle.drawing.proofs.RowLemmas.{flat_map-places}
use Rattle.table_print.proofs.features.push_slots.Goals as goal

pub returns : goal.returns
returns g c =
    let line = descent_text (drawn c.args.tables.now.rows) in
    let slots = c.args.slots.now in
    let text = c.args.text.now in
    let all = take_all c.loop-slot.slot-index slots c.loop-slot-test.false in
    c.loop-slot.invariant ∙ ap (λ (ss : List (Option FeatureRow)). text ++ flat_map (at_slot line) ss) all
    ∙ ap (λ (l : List ℕ). text ++ l) (flat_map-places line slots)

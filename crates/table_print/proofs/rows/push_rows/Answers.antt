use Rattle.std.proofs.Common.{ℕ, List, Option, ◌++◌, ap, ◌∙◌}
use Rattle.std.specs.Prelude.{flat_map}
use Rattle.std.proofs.lemmas.List.{take_all}
use Rattle.drawing.specs.Places.{at_slot}
use Rattle.drawing.proofs.RowLemmas.{flat_map-places}
use Rattle.table_print.proofs.rows.push_rows.Goals as goal

pub returns : goal.returns
returns g c =
    let slots = c.args.slots.now in
    let text = c.args.text.now in
    let all = take_all c.loop-slot.slot-index slots c.loop-slot-test.false in
    c.loop-slot.invariant ∙ ap (λ (ss : List (Option g.row.R.Denot)). text ++ flat_map (at_slot g.R.RowLine.line) ss) all
    ∙ ap (λ (l : List ℕ). text ++ l) (flat_map-places g.R.RowLine.line slots)

use Rattle.std.proofs.Common.{true, false, refl, sym, ◌∙◌}
use Rattle.topo_base.specs.declared.rows.RelationRow.{RelationRow}
use Rattle.drawing.specs.Relations.{is_among}
use Rattle.layer_tree.specs.Descending.{listed_by_any}
use Rattle.layer_tree.proofs.Listing.{listed_step}
use Rattle.layer_tree.proofs.numbers.listed_by_any.Goals as goal
use Rattle.layer_tree.proofs.numbers.listed_by_any.Goals.{then-is_of_any+in_ok-push, else-is_of_any}

pub loop-row-preserved : goal.loop-row-preserved
loop-row-preserved g c =
    let rows = c.args.rows.now in
    let row : RelationRow = c.row-item.result in
    let p = λ (r : RelationRow). is_among r.topogeo_id c.args.features.now in
    let step = listed_step p rows c.loop-row.row-index row c.loop-row.listed.items c.if-is_of_any.listed.items (listed_by_any c.args.features.now rows) in
    elim c.if-is_of_any.branch [
      | then-is_of_any+in_ok-push w ↦ step true c.loop-row-test.true c.row-item.is c.loop-row.invariant (sym c.is_of_any.ensures ∙ w.if-is_of_any.true) (rw (w.listed-is, w.in_ok-push.ensures.items, w.element_of.ensures) refl)
      | else-is_of_any w ↦ step false c.loop-row-test.true c.row-item.is c.loop-row.invariant (sym c.is_of_any.ensures ∙ w.if-is_of_any.false) (rw w.listed-is refl)
    ]

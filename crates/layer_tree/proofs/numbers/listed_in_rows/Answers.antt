use Rattle.std.proofs.Common.{◌==◌, true, false, refl, sym, ◌∙◌}
use Rattle.topo_base.specs.declared.rows.RelationRow.{RelationRow}
use Rattle.layer_tree.proofs.Listing.{listed, listed_step}
use Rattle.layer_tree.proofs.numbers.listed_in_rows.Goals as goal
use Rattle.layer_tree.proofs.numbers.listed_in_rows.Goals.{then-is_of+in_ok-push, else-is_of}

pub loop-row-preserved : goal.loop-row-preserved
loop-row-preserved g c =
    let rows = c.args.rows.now in
    let row : RelationRow = c.row-item.result in
    let p = λ (r : RelationRow). r.topogeo_id == c.args.feature in
    let step = listed_step p rows c.loop-row.row-index row c.loop-row.listed.items c.if-is_of.listed.items (listed p rows) in
    elim c.if-is_of.branch [
      | then-is_of+in_ok-push w ↦ step true c.loop-row-test.true c.row-item.is c.loop-row.invariant (sym c.is_of.ensures ∙ w.if-is_of.true) (rw (w.listed-is, w.in_ok-push.ensures.items, w.element_of.ensures) refl)
      | else-is_of w ↦ step false c.loop-row-test.true c.row-item.is c.loop-row.invariant (sym c.is_of.ensures ∙ w.if-is_of.false) (rw w.listed-is refl)
    ]

use Rattle.std.proofs.Common.{◌≡◌, [], ◌∷◌, sym, ap, ◌∙◌, Some, false, true, refl}
use Rattle.topo_base.specs.declared.edit.Edit.TheVariants.{RemoveIsoNode}
use Rattle.topo_base.specs.declared.rows.NodeRow.{NodeRow}
use Rattle.topo_base.specs.declared.write.RowId.TheVariants.{Old}
use Rattle.topo_base.specs.declared.write.RowWrite.TheVariants.{DropNode}
use Rattle.drawing.specs.Drawing.{node_at, is_isolated}
use Rattle.drawing.specs.IsoEdits.{is_in_feature}
use Rattle.drawing.specs.Outcome.{the_node}
use Rattle.read_set.specs.Plans.{IsPlanFor}
use Rattle.drawing.specs.Relations.{node_type}
use Rattle.drawing.specs.Tables.{drawn}
use Rattle.iso_edits.proofs.IsolatedNodes.{node_goes, node_goes_where}
use Rattle.iso_edits.proofs.Answering.{answers_with, found_row}
use Rattle.read_set.proofs.Keeping.{answer_keeps}
use Rattle.iso_edits.proofs.nodes.remove_iso_node.Goals as goal

pub returns-clause-answer : goal.returns-clause-answer
returns-clause-answer g c =
    let S = drawn c.args.tables.now.rows in
    let row : NodeRow = c.in-Some.row.now in
    let k = c.node-2.inside.0 in
    let id : k ≡ row.node_id = c.node-2.view_is in
    let found : node_at S c.args.node ≡ Some row = found_row c.node.result c.in-Some.row (node_at S c.args.node) c.in-Some.is c.node.ensures.row in
    let isolated : is_isolated S row.node_id ≡ true = sym c.is_isolated.ensures.test ∙ c.if-not-is_isolated.false in
    let free : is_in_feature S node_type k ≡ false = sym c.is_in_feature.ensures.test ∙ c.if-is_in_feature.false in
    let free' : is_in_feature S node_type row.node_id ≡ false = ap (is_in_feature S node_type) (sym id) ∙ free in
    let plan : IsPlanFor S (RemoveIsoNode c.args.node) (DropNode (Old k) ∷ []) (the_node row.node_id ∷ []) =
    rw id (node_goes S c.args.node row found (node_goes_where S c.args.node row found isolated free')) in
    answers_with S (RemoveIsoNode c.args.node) (DropNode (Old k) ∷ []) (the_node row.node_id ∷ []) c.edited_by.result plan
    c.edited_by.ensures.writes c.edited_by.ensures.ids c.edited_by.ensures.err

pub returns-clause-kept : goal.returns-clause-kept
returns-clause-kept g c = answer_keeps (drawn c.args.tables.now.rows) (RemoveIsoNode c.args.node) _ c.edited_by.result refl (returns-clause-answer g c)

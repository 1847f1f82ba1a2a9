use Rattle.std.proofs.Common.{ap, ◌≡◌, [], ◌∷◌, sym, ◌∙◌, Some, false, true, eqb, refl}
use Rattle.std.specs.Option.{option_eq}
use Rattle.topo_base.specs.declared.edit.Edit.TheVariants.{MoveIsoNode}
use Rattle.topo_base.specs.declared.rows.NodeRow.{NodeRow}
use Rattle.topo_base.specs.declared.write.RowId.TheVariants.{Old}
use Rattle.topo_base.specs.declared.write.RowWrite.TheVariants.{SetPoint}
use Rattle.drawing.specs.Blocked.{is_blocked_for}
use Rattle.drawing.specs.Drawing.{node_at, is_isolated}
use Rattle.drawing.specs.Faces.{face_at}
use Rattle.drawing.specs.Outcome.{the_node}
use Rattle.read_set.specs.Plans.{IsPlanFor}
use Rattle.drawing.specs.Tables.{drawn}
use Rattle.iso_edits.proofs.IsolatedNodes.{node_moves, node_moves_where}
use Rattle.iso_edits.proofs.Answering.{answers_with, found_row}
use Rattle.read_set.proofs.Keeping.{answer_keeps}
use Rattle.iso_edits.proofs.nodes.move_iso_node.Goals as goal

pub returns-clause-answer : goal.returns-clause-answer
returns-clause-answer g c =
    let S = drawn c.args.tables.now.rows in
    let p = c.args.geom in
    let row : NodeRow = c.in-Some.row.now in
    let k = c.node-2.inside.0 in
    let id : k ≡ row.node_id = c.node-2.view_is in
    let found : node_at S c.args.node ≡ Some row = found_row c.node.result c.in-Some.row (node_at S c.args.node) c.in-Some.is c.node.ensures.row in
    let isolated : is_isolated S row.node_id ≡ true = sym c.is_isolated.ensures.test ∙ c.if-not-is_isolated.false in
    let free : is_blocked_for S row.node_id p ≡ false = sym c.is_blocked_for.ensures.test ∙ c.if-is_blocked_for.false in
    let at : c.face_at-within.result ≡ face_at S p = c.face_at-within.ensures.face in
    let within : option_eq eqb row.containing_face (Some (face_at S p)) ≡ true =
    ap (λ f. option_eq eqb row.containing_face (Some f)) (sym at) ∙ sym c.is_same_face.ensures ∙ c.if-not-is_same_face.false in
    let plan : IsPlanFor S (MoveIsoNode c.args.node p) (SetPoint (Old k) p ∷ []) (the_node row.node_id ∷ []) =
    rw id (node_moves S c.args.node row p found (node_moves_where S c.args.node row p found isolated free within)) in
    answers_with S (MoveIsoNode c.args.node p) (SetPoint (Old k) p ∷ []) (the_node row.node_id ∷ []) c.edited_by.result plan
    c.edited_by.ensures.writes c.edited_by.ensures.ids c.edited_by.ensures.err

pub returns-clause-kept : goal.returns-clause-kept
returns-clause-kept g c = answer_keeps (drawn c.args.tables.now.rows) (MoveIsoNode c.args.node c.args.geom) _ c.edited_by.result refl (returns-clause-answer g c)

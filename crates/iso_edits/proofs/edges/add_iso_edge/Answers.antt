use Rattle.std.proofs.Common.{arith, ◌+◌, ◌<◌, ◌^◌, ◌++◌, ◌≡◌, [], sym, ap, ◌∙◌, ◌∷◌, Some, true, false, eqb, unwrap_or, refl}
use Rattle.std.specs.Option.{option_eq}
use Rattle.topo_base.specs.declared.edit.Edit.TheVariants.{AddIsoEdge}
use Rattle.topo_base.specs.declared.rows.Counters.{Counters}
use Rattle.topo_base.specs.declared.rows.NodeRow.{NodeRow}
use Rattle.drawing.specs.Blocked.{goes_between, is_line_blocked}
use Rattle.drawing.specs.Drawing.{node_at, is_isolated, has_face}
use Rattle.plane.specs.Line.{is_simple}
use Rattle.drawing.specs.Outcome.{the_edge}
use Rattle.read_set.specs.Plans.{IsPlanFor}
use Rattle.drawing.specs.Tables.{drawn}
use Rattle.iso_edits.proofs.IsolatedEdges.{edge_comes, edge_comes_where, edge_writes}
use Rattle.iso_edits.proofs.Answering.{answers_with, found_row}
use Rattle.face_boxes.specs.Bounds.{box_with, box_write, without}
use Rattle.iso_edits.proofs.KnownFaces.{knows_faces, node_face}
use Rattle.read_set.proofs.Keeping.{answer_keeps}
use Rattle.iso_edits.proofs.edges.add_iso_edge.Goals as goal

pub returns-clause-answer : goal.returns-clause-answer
returns-clause-answer g c =
    let S = drawn c.args.tables.now.rows in
    let line = c.args.line.now in
    let start = c.args.start in
    let end = c.args.end in
    let a : NodeRow = c.in-Some.first.now in
    let b : NodeRow = c.in-Some-node.last.now in
    let n = c.counters-edge.result.edge in
    let next : n ≡ S.next_ids.edge = ap (λ (k : Counters). k.edge) c.counters-edge.ensures in
    let found_a : node_at S start ≡ Some a = found_row c.node.result c.in-Some.first (node_at S start) c.in-Some.is c.node.ensures.row in
    let found_b : node_at S end ≡ Some b = found_row c.node-2.result c.in-Some-node.last (node_at S end) c.in-Some-node.is c.node-2.ensures.row in
    let differ : eqb a.node_id b.node_id ≡ false = sym c.is_same_node.ensures ∙ c.if-is_same_node.false in
    let lone_a : is_isolated S a.node_id ≡ true = sym c.is_isolated.ensures.test ∙ c.if-not-is_isolated.false in
    let lone_b : is_isolated S b.node_id ≡ true = sym c.is_isolated-2.ensures.test ∙ c.if-not-is_isolated-2.false in
    let within : option_eq eqb a.containing_face b.containing_face ≡ true = sym c.is_same_face.ensures ∙ c.if-not-is_same_face.false in
    let ends : goes_between a b line ≡ true = sym c.goes_between.ensures ∙ c.if-not-goes_between.false in
    let simple : is_simple line ≡ true = sym c.is_simple.ensures.test ∙ c.if-not-is_simple.false in
    let free : is_line_blocked S line ≡ false = sym c.is_line_blocked.ensures.test ∙ c.if-is_line_blocked.false in
    let beside = c.beside_new-beside.result in
    let f = beside.face in
    let face : f ≡ unwrap_or a.containing_face 0 = c.beside_new-beside.ensures.face in
    let bounds : beside.bounds ≡ box_with line (without S.next_ids.edge S) f =
    c.beside_new-beside.ensures.bounds
    ∙ ap (λ k. box_with line (without k S) (unwrap_or a.containing_face 0)) next
    ∙ ap (box_with line (without S.next_ids.edge S)) (sym face) in
    let listed : has_face S f ≡ true = ap (has_face S) face ∙ node_face S start a (knows_faces S c.requires.ready) found_a in
    let more : S.next_ids.edge + 1 < 2 ^ 32 = omega (arith, c.requires.ready.edge_more) in
    let ws = edge_writes n a.node_id b.node_id f line ++ box_write f beside.bounds in
    let plan : IsPlanFor S (AddIsoEdge start end line) ws (the_edge n ∷ []) =
    rw next (edge_comes S start end a b line f beside.bounds listed bounds (record { test = c.requires.plain.edge_ids }) more found_a found_b differ lone_a lone_b
    (edge_comes_where S start end a b line f found_a found_b differ lone_a lone_b within ends simple free face)) in
    answers_with S (AddIsoEdge start end line) ws (the_edge n ∷ []) c.coming_edge.result plan
    c.coming_edge.ensures.writes c.coming_edge.ensures.ids c.coming_edge.ensures.err

pub returns-clause-kept : goal.returns-clause-kept
returns-clause-kept g c = answer_keeps (drawn c.args.tables.now.rows) (AddIsoEdge c.args.start c.args.end c.args.line.now) _ c.coming_edge.result refl (returns-clause-answer g c)

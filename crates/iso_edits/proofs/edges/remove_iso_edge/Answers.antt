use Rattle.std.proofs.Common.{◌++◌, ◌≡◌, [], ◌∷◌, sym, ap, ◌∙◌, Some, true, false, not, ◌&&◌, ◌==◌, refl}
use Rattle.std.proofs.lemmas.Bool.{and_parts}
use Rattle.topo_base.specs.declared.edit.Edit.TheVariants.{RemoveIsoEdge}
use Rattle.drawing.specs.Drawing.{Edge, edge_at, has_only}
use Rattle.drawing.specs.IsoEdits.{is_in_feature, is_isolated_edge}
use Rattle.drawing.specs.Outcome.{the_edge}
use Rattle.read_set.specs.Plans.{IsPlanFor}
use Rattle.drawing.specs.Relations.{edge_type}
use Rattle.drawing.specs.Tables.{drawn, drawn_edge, face_box}
use Rattle.iso_edits.proofs.IsolatedEdges.{edge_goes, edge_goes_where, gone_writes}
use Rattle.iso_edits.proofs.Answering.{answers_with}
use Rattle.face_boxes.specs.Bounds.{box_write, other_write, without}
use Rattle.iso_edits.proofs.KnownFaces.{knows_faces, edge_faces, ends_there}
use Rattle.drawing_queries.proofs.RowTests.{edge_found, edge_none}
use Rattle.read_set.proofs.Keeping.{answer_keeps}
use Rattle.iso_edits.proofs.edges.remove_iso_edge.Goals as goal

pub returns-in_default-clause-answer : goal.returns-in_default-clause-answer
returns-in_default-clause-answer g c = rw (edge_none c.args.tables.now.rows c.args.edge c.edge.result c.in_default.not-Some c.edge.ensures.row) refl

pub returns-then-not-is_isolated_edge-clause-answer :
    goal.returns-then-not-is_isolated_edge-clause-answer
returns-then-not-is_isolated_edge-clause-answer g c =
    let t = c.args.tables.now.rows in
    let e : Edge = drawn_edge c.in-Some.row.now in
    let found : edge_at (drawn t) c.args.edge ≡ Some e = edge_found t c.args.edge c.edge.result c.in-Some.row c.in-Some.is c.edge.ensures.row in
    let isolated : is_isolated_edge (drawn t) e ≡ false = sym c.is_isolated_edge.ensures.test ∙ c.if-not-is_isolated_edge.true in
    rw (found, isolated) refl

pub returns-then-is_in_feature-clause-answer : goal.returns-then-is_in_feature-clause-answer
returns-then-is_in_feature-clause-answer g c =
    let t = c.args.tables.now.rows in
    let e : Edge = drawn_edge c.in-Some.row.now in
    let found : edge_at (drawn t) c.args.edge ≡ Some e = edge_found t c.args.edge c.edge.result c.in-Some.row c.in-Some.is c.edge.ensures.row in
    let isolated : is_isolated_edge (drawn t) e ≡ true = sym c.is_isolated_edge.ensures.test ∙ c.if-not-is_isolated_edge.false in
    let k = c.edge-2.inside.0 in
    let id : k ≡ e.edge_id = c.edge-2.view_is in
    let listed : is_in_feature (drawn t) edge_type e.edge_id ≡ true = ap (is_in_feature (drawn t) edge_type) (sym id) ∙ sym c.is_in_feature.ensures.test ∙ c.if-is_in_feature.true in
    rw (found, isolated, listed) refl

pub returns-clause-answer : goal.returns-clause-answer
returns-clause-answer g c =
    let t = c.args.tables.now.rows in
    let S = drawn t in
    let n = c.args.edge in
    let e : Edge = drawn_edge c.in-Some.row.now in
    let found : edge_at S n ≡ Some e = edge_found t n c.edge.result c.in-Some.row c.in-Some.is c.edge.ensures.row in
    let isolated : is_isolated_edge S e ≡ true = sym c.is_isolated_edge.ensures.test ∙ c.if-not-is_isolated_edge.false in
    let k = c.edge-2.inside.0 in
    let id : k ≡ e.edge_id = c.edge-2.view_is in
    let free : is_in_feature S edge_type e.edge_id ≡ false = ap (is_in_feature S edge_type) (sym id) ∙ sym c.is_in_feature.ensures.test ∙ c.if-is_in_feature.false in
    let only_a = has_only S e.start_node e.edge_id e.edge_id in
    let only_b = has_only S e.end_node e.edge_id e.edge_id in
    let parts = and_parts (not (e.start_node == e.end_node) && only_a) only_b isolated in
    let front = and_parts (not (e.start_node == e.end_node)) only_a parts.0 in
    let there = ends_there S n e c.requires.plain.plain found in
    let listed = edge_faces S n e (knows_faces S c.requires.ready) found in
    let left = c.beside_gone-left.result in
    let right = c.beside_gone-right.result in
    let on_left : left.face ≡ e.left_face = c.beside_gone-left.ensures.face in
    let on_right : right.face ≡ e.right_face = c.beside_gone-right.ensures.face in
    let box_left : left.bounds ≡ face_box (without e.edge_id S) e.left_face = c.beside_gone-left.ensures.bounds in
    let box_right : right.bounds ≡ face_box (without e.edge_id S) e.right_face = c.beside_gone-right.ensures.bounds in
    let ws = gone_writes e.edge_id e.start_node e.end_node left.face ++ (box_write left.face left.bounds ++ other_write left.face right.face right.bounds) in
    let plan : IsPlanFor S (RemoveIsoEdge n) ws (the_edge e.edge_id ∷ []) =
    rw (on_left, on_right) (edge_goes S n e left.bounds right.bounds listed.0 listed.1 box_left box_right (record { test = c.requires.plain.edge_ids }) found there.0 there.1 front.1 parts.1
    (edge_goes_where S n e found isolated free)) in
    answers_with S (RemoveIsoEdge n) ws (the_edge e.edge_id ∷ []) c.going_edge.result plan
    c.going_edge.ensures.writes c.going_edge.ensures.ids c.going_edge.ensures.err

pub returns-clause-kept : goal.returns-clause-kept
returns-clause-kept g c = answer_keeps (drawn c.args.tables.now.rows) (RemoveIsoEdge c.args.edge) _ c.going_edge.result refl (returns-clause-answer g c)

use Rattle.std.proofs.Common.{◌≡◌, Ok, Err, IsOk, refl, sym, ◌∙◌, subst}
use Rattle.std.specs.List.{Contains}
use Rattle.topo_base.specs.declared.rows.EdgeRow.{EdgeRow}
use Rattle.topo_base.specs.declared.rule.Rule.TheVariants.{NoEdge, EdgeInFeature, FaceInFeature}
use Rattle.drawing.specs.Drawing.{edge_at}
use Rattle.drawing.specs.Edits.{merged, remove_edge}
use Rattle.drawing.specs.Outcome.{Outcome}
use Rattle.drawing.specs.Tables.{Tables, drawn, drawn_edge}
use Rattle.drawing_queries.proofs.RowTests.{edge_found, edge_none}
use Rattle.read_set.specs.Plans.{AreWritesOf}
use Rattle.face_merge.proofs.Answering.{faces_joined, found_there, refused_between, refused_listed, refused_unknown, edit_of, step_of}
use Rattle.read_set.proofs.Keeping.{answer_keeps}
use Rattle.face_merge.proofs.Outcomes.{accepted}
use Rattle.face_merge.proofs.planning.remove_edge.Goals as goal

pub returns-in_default-clause-answer : goal.returns-in_default-clause-answer
returns-in_default-clause-answer g c =
    let t = c.args.tables.now.rows in
    let none = edge_none t c.args.edge c.edge.result c.in_default.not-Some c.edge.ensures.row in
    (refused_unknown c.args.anew (drawn t) c.args.edge none)

pub returns-then-is_listed-clause-answer : goal.returns-then-is_listed-clause-answer
returns-then-is_listed-clause-answer g c =
    let t = c.args.tables.now.rows in
    let row : EdgeRow = c.in-Some.row.now in
    let found = edge_found t c.args.edge c.edge.result c.in-Some.row c.in-Some.is c.edge.ensures.row in
    (refused_listed c.args.anew (drawn t) c.args.edge (drawn_edge row) found (sym c.is_listed.ensures ∙ c.if-is_listed.true))

pub returns-then-is_border_of_features-clause-answer : goal.returns-then-is_border_of_features-clause-answer
returns-then-is_border_of_features-clause-answer g c =
    let t = c.args.tables.now.rows in
    let row : EdgeRow = c.in-Some.row.now in
    let found = edge_found t c.args.edge c.edge.result c.in-Some.row c.in-Some.is c.edge.ensures.row in
    (refused_between c.args.anew (drawn t) c.args.edge (drawn_edge row) found (sym c.is_listed.ensures ∙ c.if-is_listed.false) (sym c.is_border_of_features.ensures ∙ c.if-is_border_of_features.true))

pub without_edge-requires-clause-there : goal.without_edge-requires-clause-there
without_edge-requires-clause-there g c =
    let t = c.args.tables.now.rows in
    found_there t.edges c.args.edge c.edge.result c.in-Some.row c.in-Some.is c.edge.ensures.row

pub returns-in-Ok-clause-answer : goal.returns-in-Ok-clause-answer
returns-in-Ok-clause-answer g c =
    let t = c.args.tables.now.rows in
    let row : EdgeRow = c.in-Some.row.now in
    let found = edge_found t c.args.edge c.edge.result c.in-Some.row c.in-Some.is c.edge.ensures.row in
    let joined =
    faces_joined c.args.anew (drawn t) c.args.edge (drawn_edge row) found (sym c.is_listed.ensures ∙ c.if-is_listed.false) (sym c.is_border_of_features.ensures ∙ c.if-is_border_of_features.false) in
    subst (λ (o : Outcome). AreWritesOf (drawn c.args.tables.now.rows) o c.in-Ok.edited.writes c.in-Ok.edited.ids) (sym joined) c.in-Ok.ensures

pub returns-in-Err-clause-answer : goal.returns-in-Err-clause-answer
returns-in-Err-clause-answer g c =
    let t = c.args.tables.now.rows in
    let row : EdgeRow = c.in-Some.row.now in
    let found = edge_found t c.args.edge c.edge.result c.in-Some.row c.in-Some.is c.edge.ensures.row in
    let joined =
    faces_joined c.args.anew (drawn t) c.args.edge (drawn_edge row) found (sym c.is_listed.ensures ∙ c.if-is_listed.false) (sym c.is_border_of_features.ensures ∙ c.if-is_border_of_features.false) in
    subst IsOk (sym (joined ∙ (accepted c.args.anew (drawn t) (drawn_edge row)).1)) refl

pub returns-in-Ok-clause-kept : goal.returns-in-Ok-clause-kept
returns-in-Ok-clause-kept g c =
    answer_keeps (drawn c.args.tables.now.rows) (edit_of c.args.anew c.args.edge) _ (Ok c.in-Ok.edited) (step_of (drawn c.args.tables.now.rows) c.args.anew c.args.edge) (returns-in-Ok-clause-answer g c)

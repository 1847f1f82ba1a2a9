use Rattle.std.proofs.Common.{◌≡◌, List, false, refl, sym, ap, subst, ◌∙◌, Some, Ok}
use Rattle.std.specs.List.{list_any}
use Rattle.topo_base.specs.declared.rows.FeatureRow.{FeatureRow}
use Rattle.topo_base.specs.declared.rows.RelationRow.{RelationRow}
use Rattle.drawing.specs.Drawing.{feature_at, feature_id_of}
use Rattle.drawing.specs.Edits.{drop_feature}
use Rattle.drawing.specs.Outcome.{Outcome}
use Rattle.drawing.specs.Relations.{lists_feature}
use Rattle.drawing.specs.Tables.{Tables, drawn}
use Rattle.read_set.specs.Edited.{Follows}
use Rattle.topogeom_points.proofs.Found.{found_row, own_there}
use Rattle.topogeom_points.proofs.FeatureGoes.{goes_where}
use Rattle.read_set.proofs.Keeping.{answer_keeps}
use Rattle.topo_base.specs.declared.edit.Edit.TheVariants.{DropFeature}
use Rattle.topogeom_points.proofs.dropping.drop_feature.Goals as goal

pub going-requires-clause-there : goal.going-requires-clause-there
going-requires-clause-there g c =
    let rows = c.args.tables.now.rows.features in
    own_there feature_id_of rows c.args.feature (c.in-Some.row.now) (found_row feature_id_of c.feature.result c.in-Some.row rows rows c.args.feature c.in-Some.is c.feature.ensures.row refl)

pub returns-clause-answer : goal.returns-clause-answer
returns-clause-answer g c =
    let t = c.args.tables.now.rows in
    let S = drawn t in
    let f = c.args.feature in
    let d = c.in_ok-going.field-0 in
    let row : FeatureRow = c.in-Some.row.now in
    let found : feature_at S f ≡ Some row = found_row feature_id_of c.feature.result c.in-Some.row t.features t.features f c.in-Some.is c.feature.ensures.row refl in
    let free : list_any (lists_feature S row.feature_id) S.relations ≡ false =
    ap (λ (rows : List RelationRow). list_any (lists_feature S row.feature_id) rows) (sym c.relations.ensures) ∙ sym c.is_used.ensures ∙ c.if-is_used.false in
    subst (λ (o : Outcome). Follows S o d) (sym (goes_where S f row found free)) c.in_ok-going.ensures

pub returns-clause-kept : goal.returns-clause-kept
returns-clause-kept g c = answer_keeps (drawn c.args.tables.now.rows) (DropFeature c.args.feature) _ (Ok c.in_ok-going.field-0) refl (returns-clause-answer g c)

-- In a drawing whose references are known, the features that list an element are features of its tables.
use Rattle.std.proofs.Common.{◌≡◌, ◌∙◌, ℕ, Bool, true, false, not, cond, ◌||◌, ◌==◌, eqb-true, eq-eqb, List, [], ◌∷◌, map, filter, Option, Some, None, is_some, IsTrue, refl, sym, ap}
use Rattle.std.specs.List.{list_all}
use Rattle.std.proofs.lemmas.Bool.{and_parts, and_from}
use Rattle.topo_base.specs.declared.rows.FeatureRow.{FeatureRow}
use Rattle.topo_base.specs.declared.rows.LayerRow.{LayerRow}
use Rattle.topo_base.specs.declared.rows.RelationRow.{RelationRow}
use Rattle.drawing.specs.Content.{listing}
use Rattle.drawing.specs.Drawing.{Drawing, feature_at, feature_id_of, has_face, layer_at, layer_id_of}
use Rattle.drawing.specs.Relations.{lists_element}
use Rattle.drawing.specs.Rows.{has_row}
use Rattle.drawing.specs.Subdivision.{is_edge_known, is_layer_known, is_node_known, is_row_known, is_row_of, may_list, names_differ, references_known, rows_ascend}
use Rattle.drawing.specs.Tables.{Tables}
use Rattle.drawing.specs.Writable.{has_feature_row, has_layer_row}
use Rattle.plane.proofs.ListTests.{all_weaker}
use Rattle.drawing.proofs.RowLemmas.{is_some-row_at}
use Rattle.relation_rows.specs.Following.{AreFeaturesOf, feature_of, has_layer_of, is_known}

-- ---- the parts of the test
pub record KnowsReferences (S : Drawing) : Type 0 where
  pub universe : has_face S 0 ≡ true
  pub edges : list_all (is_edge_known S) S.edges ≡ true
  pub nodes : list_all (is_node_known S) S.nodes ≡ true
  pub layers : list_all (λ (l : LayerRow). is_layer_known S l l.child_id) S.layers ≡ true
  pub names : names_differ S.layers ≡ true
  pub features : list_all (λ (t : FeatureRow). is_some (layer_at S t.layer_id)) S.features ≡ true
  pub relations : list_all (is_row_known S) S.relations ≡ true
  pub ascend : rows_ascend S.relations ≡ true

pub references_parts : (S : Drawing) → IsTrue (references_known S) → KnowsReferences S
references_parts S h =
    let p7 = and_parts _ _ h in
    let p6 = and_parts _ _ p7.0 in
    let p5 = and_parts _ _ p6.0 in
    let p4 = and_parts _ _ p5.0 in
    let p3 = and_parts _ _ p4.0 in
    let p2 = and_parts _ _ p3.0 in
    let p1 = and_parts _ _ p2.0 in
    record { universe = p1.0; edges = p1.1; nodes = p2.1; layers = p3.1; names = p4.1; features = p5.1; relations = p6.1; ascend = p7.1 }

pub references_from : (S : Drawing) → KnowsReferences S → IsTrue (references_known S)
references_from S k =
    and_from _ _ (and_from _ _ (and_from _ _ (and_from _ _ (and_from _ _ (and_from _ _ (and_from _ _ k.universe k.edges) k.nodes) k.layers) k.names) k.features) k.relations) k.ascend

-- ---- a row that is known
abbrev pub layer_in : Option FeatureRow → ℕ
layer_in None = 0
layer_in (Some t) = t.layer_id

-- the feature and the layer of a row are listed, and the feature has that layer
pub record IsKnownRow (S : Drawing) (f : FeatureRow) : Type 0 where
  pub feature : has_row feature_id_of S.features f.feature_id ≡ true
  pub layer : has_row layer_id_of S.layers f.layer_id ≡ true
  pub same : f.layer_id ≡ layer_in (feature_at S f.feature_id)

of_feature : (r : RelationRow) (o : Option FeatureRow) → is_row_of r o ≡ true → (is_some o ≡ true) × (r.layer_id ≡ layer_in o)
of_feature r None h = absurd cc
of_feature r (Some t) h = (refl, eqb-true r.layer_id t.layer_id h)

in_layer : (S : Drawing) (r : RelationRow) (o : Option LayerRow) → may_list S r o ≡ true → is_some o ≡ true
in_layer S r None h = absurd cc
in_layer S r (Some l) h = refl

pub known_row : (S : Drawing) (r : RelationRow) → is_row_known S r ≡ true → IsKnownRow S (feature_of r)
known_row S r h =
    let parts = and_parts (is_row_of r (feature_at S r.topogeo_id)) (may_list S r (layer_at S r.layer_id)) h in
    let of = of_feature r (feature_at S r.topogeo_id) parts.0 in
    record {
      feature = sym (is_some-row_at feature_id_of S.features r.topogeo_id) ∙ of.0;
      layer = sym (is_some-row_at layer_id_of S.layers r.layer_id) ∙ in_layer S r (layer_at S r.layer_id) parts.1;
      same = of.1;
    }

-- ---- features that list an element
-- a test of the features that are taken from rows
of_rows : (p : FeatureRow → Bool) (q lists : RelationRow → Bool) (rows : List RelationRow) → ((r : RelationRow) → q r ≡ true → p (feature_of r) ≡ true) → list_all q rows ≡ true
    → list_all p (map feature_of (filter lists rows)) ≡ true
of_rows p q lists [] each h = refl
of_rows p q lists (r ∷ rows) each h =
    let parts = and_parts (q r) (list_all q rows) h in
    by (lists r) (filter lists rows) (each r parts.0) (of_rows p q lists rows each parts.1)
  where
    by : (b : Bool) (kept : List RelationRow) → p (feature_of r) ≡ true → list_all p (map feature_of kept) ≡ true → list_all p (map feature_of (cond b (r ∷ kept) kept)) ≡ true
    by true kept first rest = and_from (p (feature_of r)) (list_all p (map feature_of kept)) first rest
    by false kept first rest = rest

one_layer : (S : Drawing) (f g : FeatureRow) → IsKnownRow S f → IsKnownRow S g → (not (f.feature_id == g.feature_id) || f.layer_id == g.layer_id) ≡ true
one_layer S f g one other = by (f.feature_id == g.feature_id) refl
  where
    by : (b : Bool) → (f.feature_id == g.feature_id) ≡ b → (not b || f.layer_id == g.layer_id) ≡ true
    by true e = eq-eqb f.layer_id g.layer_id (one.same ∙ ap (λ n. layer_in (feature_at S n)) (eqb-true f.feature_id g.feature_id e) ∙ sym other.same)
    by false e = refl

-- where all references are known, and the tables have the same layers, features and rows
pub known_features : (S : Drawing) (t : Tables) (type id : ℕ) (features : List FeatureRow) → IsTrue (references_known S) → t.relations ≡ S.relations → t.features ≡ S.features → t.layers ≡ S.layers
    → features ≡ listing (lists_element S type id) S → AreFeaturesOf t type id features
known_features S t type id features known same_rows same_features same_layers is = record {
  ascend = ap rows_ascend same_rows ∙ parts.ascend;
  listed = is ∙ (λ i. listing (lists_element (record S { layers = sym same_layers i }) type id) (record S { relations = sym same_rows i }));
  known = ap (list_all (is_known t)) is ∙ of_rows (is_known t) (is_row_known S) lists S.relations there parts.relations;
  layers = ap (list_all (has_layer_of features)) same_rows ∙ all_weaker (is_row_known S) (has_layer_of features) layer S.relations parts.relations;
}
  where
    parts : KnowsReferences S
    parts = references_parts S known

    lists : RelationRow → Bool
    lists = lists_element S type id

    there : (r : RelationRow) → is_row_known S r ≡ true → is_known t (feature_of r) ≡ true
    there r h =
        let one = known_row S r h in
        and_from (has_feature_row t r.topogeo_id) (has_layer_row t r.layer_id)
        (ap (λ (fs : List FeatureRow). has_row feature_id_of fs r.topogeo_id) same_features ∙ one.feature) (ap (λ (ls : List LayerRow). has_row layer_id_of ls r.layer_id) same_layers ∙ one.layer)

    layer : (r : RelationRow) → is_row_known S r ≡ true → has_layer_of features r ≡ true
    layer r h =
        let other = known_row S r h in
        ap (list_all (λ (f : FeatureRow). not (f.feature_id == r.topogeo_id) || f.layer_id == r.layer_id)) is
        ∙ of_rows (λ (f : FeatureRow). not (f.feature_id == r.topogeo_id) || f.layer_id == r.layer_id) (is_row_known S) lists S.relations
        (λ q k. one_layer S (feature_of q) (feature_of r) (known_row S q k) other) parts.relations

-- Relation rows whose feature, layer and element are listed.
use Rattle.std.proofs.Common.{◌≡◌, ◌∙◌, ℕ, refl, sym, ap, Bool, true, false, not, cond, ◌&&◌, ◌==◌, eqb, eqb-true, eq-eqb, List, Option, Some, None, is_some, option_and_then}
use Rattle.std.specs.List.{list_all}
use Rattle.std.proofs.lemmas.Bool.{and_parts, and_from}
use Rattle.topo_base.specs.Kinds.{kind_number}
use Rattle.topo_base.specs.declared.edit.Pair.{Pair}
use Rattle.topo_base.specs.declared.kind.Kind.{Kind}
use Rattle.topo_base.specs.declared.kind.Kind.TheVariants.{Puntal, Lineal, Areal}
use Rattle.topo_base.specs.declared.rule.Rule.{Rule}
use Rattle.topo_base.specs.declared.rule.Rule.TheVariants.{NoFace, NoFeature, UniverseElement}
use Rattle.topo_base.specs.declared.rows.FeatureRow.{FeatureRow}
use Rattle.topo_base.specs.declared.rows.LayerRow.{LayerRow}
use Rattle.topo_base.specs.declared.rows.RelationRow.{RelationRow}
use Rattle.drawing.specs.Drawing.{Drawing, feature_at, feature_id_of, has_edge, has_face, has_node, layer_at, layer_id_of}
use Rattle.drawing.specs.Layers.{element_rule_on, is_feature_of, missing, missing_element}
use Rattle.drawing.specs.Relations.{is_hierarchical, lists_element}
use Rattle.drawing.specs.Rows.{row_at}
use Rattle.drawing.specs.Subdivision.{is_layer_known, is_row_known, is_row_of, may_list, names_differ, rows_ascend}
use Rattle.drawing.proofs.Ordering.{InOrder}
use Rattle.ring_laws.proofs.RingedDrawings.{IsBefore}

-- ---- what a row of a layer may list
-- the number of the elements' type, and whether the element is listed
abbrev pub number_in : Kind → Option ℕ → ℕ
number_in kind None = kind_number kind
number_in kind (Some child) = child

abbrev pub has_of : Drawing → Kind → ℕ → Bool
has_of S Puntal id = has_node S id
has_of S Lineal id = has_edge S id
has_of S Areal id = not (id == 0) && has_face S id

abbrev pub has_listed : Drawing → Kind → Option ℕ → ℕ → Bool
has_listed S kind None id = has_of S kind id
has_listed S kind (Some child) id = is_feature_of child (feature_at S id)

none_missing : (b : Bool) (rule : Rule) → not (is_some (missing b rule)) ≡ b
none_missing true rule = refl
none_missing false rule = refl

missing_is : (S : Drawing) (kind : Kind) (id : ℕ) → not (is_some (missing_element S kind id)) ≡ has_of S kind id
missing_is S Puntal id = none_missing (has_node S id) _
missing_is S Lineal id = none_missing (has_edge S id) _
missing_is S Areal id = by (id == 0)
  where
    by : (b : Bool) → not (is_some (cond b (Some UniverseElement) (missing (has_face S id) NoFace))) ≡ (not b && has_face S id)
    by true = refl
    by false = none_missing (has_face S id) _

refused_or : (b : Bool) (rule : Rule) (o : Option Rule) → not (is_some (cond (not b) (Some rule) o)) ≡ (b && not (is_some o))
refused_or true rule o = refl
refused_or false rule o = refl

pub rule_is : (S : Drawing) (kind : Kind) (child : Option ℕ) (x : Pair) → not (is_some (element_rule_on S kind child x)) ≡ (x.element_type == number_in kind child && has_listed S kind child x.id)
rule_is S kind None x = refused_or (x.element_type == kind_number kind) _ (missing_element S kind x.id) ∙ ap (λ b. x.element_type == kind_number kind && b) (missing_is S kind x.id)
rule_is S kind (Some child) x = refused_or (x.element_type == child) _ (missing (is_feature_of child (feature_at S x.id)) NoFeature) ∙ ap (λ b. x.element_type == child && b) (none_missing (is_feature_of child (feature_at S x.id)) _)

-- ---- the parts of a row
pub record IsRow (S : Drawing) (r : RelationRow) : Type 0 where
  pub feature : is_row_of r (feature_at S r.topogeo_id) ≡ true
  pub layer : LayerRow
  pub there : layer_at S r.layer_id ≡ Some layer
  pub type : r.element_type ≡ number_in layer.feature_type layer.child_id
  pub listed : has_listed S layer.feature_type layer.child_id r.element_id ≡ true

pub row_parts : (S : Drawing) (r : RelationRow) → is_row_known S r ≡ true → IsRow S r
row_parts S r h =
    let both = and_parts (is_row_of r (feature_at S r.topogeo_id)) (may_list S r (layer_at S r.layer_id)) h in
    by (layer_at S r.layer_id) refl both.0 both.1
  where
    by : (o : Option LayerRow) → layer_at S r.layer_id ≡ o → is_row_of r (feature_at S r.topogeo_id) ≡ true → may_list S r o ≡ true → IsRow S r
    by None e of may = absurd cc
    by (Some l) e of may =
        let x : Pair = record { id = r.element_id; element_type = r.element_type } in
        let both = and_parts (r.element_type == number_in l.feature_type l.child_id) (has_listed S l.feature_type l.child_id r.element_id) (sym (rule_is S l.feature_type l.child_id x) ∙ may) in
        record { feature = of; layer = l; there = e; type = eqb-true r.element_type (number_in l.feature_type l.child_id) both.0; listed = both.1 }

pub row_from : (S : Drawing) (r : RelationRow) → IsRow S r → is_row_known S r ≡ true
row_from S r k =
    let l = k.layer in
    let x : Pair = record { id = r.element_id; element_type = r.element_type } in
    and_from (is_row_of r (feature_at S r.topogeo_id)) (may_list S r (layer_at S r.layer_id)) k.feature (
    ap (may_list S r) k.there ∙ rule_is S l.feature_type l.child_id x
    ∙ and_from (r.element_type == number_in l.feature_type l.child_id) (has_listed S l.feature_type l.child_id r.element_id) (eq-eqb r.element_type (number_in l.feature_type l.child_id) k.type) k.listed
    )

-- a row of a layer without a child lists an element of the layer's type
pub lists_of : (S : Drawing) (r : RelationRow) (k : IsRow S r) → k.layer.child_id ≡ None → lists_element S (kind_number k.layer.feature_type) r.element_id r ≡ true
lists_of S r k none =
    let lone : is_hierarchical S r.layer_id ≡ false = ap (λ (o : Option LayerRow). is_some (option_and_then (λ (row : LayerRow). row.child_id) o)) k.there ∙ ap is_some none in
    let type : (r.element_type == kind_number k.layer.feature_type) ≡ true = eq-eqb r.element_type (kind_number k.layer.feature_type) (k.type ∙ ap (number_in k.layer.feature_type) none) in
    and_from (r.element_type == kind_number k.layer.feature_type && r.element_id == r.element_id) (not (is_hierarchical S r.layer_id))
    (and_from (r.element_type == kind_number k.layer.feature_type) (r.element_id == r.element_id) type (eq-eqb r.element_id r.element_id refl)) (ap not lone)

-- a layer with a child is hierarchical
pub hierarchical_of : (S : Drawing) (r : RelationRow) (k : IsRow S r) (c : ℕ) → k.layer.child_id ≡ Some c → is_hierarchical S r.layer_id ≡ true
hierarchical_of S r k c e = ap (λ (o : Option LayerRow). is_some (option_and_then (λ (row : LayerRow). row.child_id) o)) k.there ∙ ap is_some e

-- a row that lists an element is of a layer without a child
pub lists_primitive : (S : Drawing) (type id : ℕ) (r : RelationRow) (k : IsRow S r) → lists_element S type id r ≡ true → k.layer.child_id ≡ None
lists_primitive S type id r k h = by k.layer.child_id refl
  where
    by : (o : Option ℕ) → k.layer.child_id ≡ o → k.layer.child_id ≡ None
    by None e = e
    by (Some c) e =
        let last = (and_parts (r.element_type == type && r.element_id == id) (not (is_hierarchical S r.layer_id)) h).1 in
        let is = hierarchical_of S r k c e in
        absurd cc

-- ---- a row of which another drawing has the feature, the layer and the element, which may be another one
pub row_moves : (S T : Drawing) (r : RelationRow) (id : ℕ) (k : IsRow S r) → T.features ≡ S.features → T.layers ≡ S.layers → ((c : ℕ) → k.layer.child_id ≡ Some c → id ≡ r.element_id)
    → (k.layer.child_id ≡ None → has_of S k.layer.feature_type r.element_id ≡ true → has_of T k.layer.feature_type id ≡ true) → IsRow T (record r { element_id = id })
row_moves S T r id k features layers same moves = record {
  feature = ap (λ (fs : List FeatureRow). is_row_of r (row_at feature_id_of fs r.topogeo_id)) features ∙ k.feature;
  layer = k.layer;
  there = ap (λ (ls : List LayerRow). row_at layer_id_of ls r.layer_id) layers ∙ k.there;
  type = k.type;
  listed = by k.layer.child_id refl k.listed;
}
  where
    by : (o : Option ℕ) → k.layer.child_id ≡ o → has_listed S k.layer.feature_type o r.element_id ≡ true → has_listed T k.layer.feature_type o id ≡ true
    by None e h = moves e h
    by (Some c) e h =
        ap (λ (fs : List FeatureRow). is_feature_of c (row_at feature_id_of fs id)) features ∙ ap (λ n. is_feature_of c (feature_at S n)) (same c e) ∙ h

-- ---- all that is known of layers, features and rows
pub record HasKnownRows (S : Drawing) : Type 0 where
  pub layers : list_all (λ (l : LayerRow). is_layer_known S l l.child_id) S.layers ≡ true
  pub names : names_differ S.layers ≡ true
  pub features : list_all (λ (t : FeatureRow). is_some (layer_at S t.layer_id)) S.features ≡ true
  pub relations : list_all (is_row_known S) S.relations ≡ true
  pub ascend : rows_ascend S.relations ≡ true

-- what a change is told of the drawing before
pub record IsTold (S : Drawing) : Type 0 where
  pub rows : HasKnownRows S
  pub rings : IsBefore S
  -- the next face is another than face 0
  pub next_some : eqb S.next_ids.face 0 ≡ false
  pub features : InOrder feature_id_of 1 S.next_ids.feature S.features

-- The lines of a report on relation rows.
use Rattle.std.specs.Prelude.{◌≡◌, ℕ, Bool, true, false, not, ◌&&◌, ◌==◌, List, [], ◌++◌, map, flat_map, Option, Some, None, option_and_then}
use Rattle.topo_base.specs.Kinds.{kind_number}
use Rattle.topo_base.specs.declared.kind.Kind.{Kind}
use Rattle.topo_base.specs.declared.kind.Kind.TheVariants.{Puntal, Lineal, Areal}
use Rattle.topo_base.specs.declared.rows.LayerRow.{LayerRow}
use Rattle.topo_base.specs.declared.rows.FeatureRow.{FeatureRow}
use Rattle.topo_base.specs.declared.rows.RelationRow.{RelationRow}
use Rattle.drawing.specs.Rows.{row_at}
use Rattle.drawing.specs.Drawing.{layer_id_of, feature_id_of}
use Rattle.drawing.specs.Tables.{Tables}
use Rattle.validate_topology.specs.OnlyIf.{only_if}
use Rattle.validate_topology.specs.Pairs.{IsInOrder}
use Rattle.validate_topology.specs.References.{lists_node, lists_edge, lists_face, past_next, drawing_references, layer_references}
use Rattle.validate_topology.specs.declared.pairs.IdPair.{IdPair}
use Rattle.validate_topology.specs.declared.lines.ReportLine.{ReportLine}
use Rattle.validate_topology.specs.declared.lines.ReportLine.TheVariants.{RelationWithoutFeature, RelationKindWrong, RelationUniverse, RelationWithoutElement}

-- a listed feature has this layer
abbrev pub is_with : ℕ → Option FeatureRow → Bool
is_with l None = false
is_with l (Some t) = t.layer_id == l

abbrev pub lists_feature_of : List FeatureRow → ℕ → ℕ → Bool
lists_feature_of features t l = is_with l (row_at feature_id_of features t)

-- the layer of a feature, where both are listed
abbrev pub layer_of : List FeatureRow → List LayerRow → ℕ → Option LayerRow
layer_of features layers t = option_and_then (λ (row : FeatureRow). row_at layer_id_of layers row.layer_id) (row_at feature_id_of features t)

-- the type of the elements of a layer: the number of its type, or its child
abbrev pub element_type_of : Kind → Option ℕ → ℕ
element_type_of kind None = kind_number kind
element_type_of kind (Some child) = child

abbrev pub has_type : LayerRow → ℕ → Bool
has_type l type = type == element_type_of l.feature_type l.child_id

-- features with layers that aren't theirs
abbrev pub unlisted : List FeatureRow → List RelationRow → List IdPair
unlisted features rows =
    flat_map (λ (r : RelationRow). only_if (not (lists_feature_of features r.topogeo_id r.layer_id)) (record { first = r.topogeo_id; second = r.layer_id })) rows

abbrev pub without_feature : IdPair → ReportLine
without_feature p = RelationWithoutFeature p.first p.second

-- features with types that aren't those of their layers' elements
abbrev pub mistyped_in : Option LayerRow → RelationRow → List IdPair
mistyped_in None r = []
mistyped_in (Some l) r = only_if (not (has_type l r.element_type)) (record { first = r.topogeo_id; second = r.element_type })

abbrev pub mistyped : List FeatureRow → List LayerRow → List RelationRow → List IdPair
mistyped features layers rows = flat_map (λ (r : RelationRow). mistyped_in (layer_of features layers r.topogeo_id) r) rows

abbrev pub kind_wrong : IdPair → ReportLine
kind_wrong p = RelationKindWrong p.first p.second

-- a layer of faces; features that list face 0
abbrev pub is_areal : Kind → Bool
is_areal Puntal = false
is_areal Lineal = false
is_areal Areal = true

abbrev pub lists_faces_by : Kind → Option ℕ → Bool
lists_faces_by kind None = is_areal kind
lists_faces_by kind (Some child) = false

abbrev pub universe_in : Option LayerRow → RelationRow → List ReportLine
universe_in None r = []
universe_in (Some l) r = only_if (has_type l r.element_type && lists_faces_by l.feature_type l.child_id && (r.element_id == 0)) (RelationUniverse r.topogeo_id)

abbrev pub universes : Tables → List RelationRow → List ReportLine
universes t rows = flat_map (λ (r : RelationRow). universe_in (layer_of t.features t.layers r.topogeo_id) r) rows

-- elements that aren't listed
abbrev pub lists_primitive : Tables → Kind → ℕ → Bool
lists_primitive t Puntal n = lists_node t.nodes n
lists_primitive t Lineal n = lists_edge t.edges n
lists_primitive t Areal n = lists_face t.faces n

abbrev pub lists_element_by : Tables → Kind → Option ℕ → ℕ → Bool
lists_element_by t kind None n = lists_primitive t kind n
lists_element_by t kind (Some child) n = lists_feature_of t.features n child

abbrev pub missing_in : Tables → Option LayerRow → RelationRow → List ReportLine
missing_in t None r = []
missing_in t (Some l) r =
    only_if (has_type l r.element_type && not (lists_element_by t l.feature_type l.child_id r.element_id)) (RelationWithoutElement r.topogeo_id r.element_id)

abbrev pub missing_elements : Tables → List RelationRow → List ReportLine
missing_elements t rows = flat_map (λ (r : RelationRow). missing_in t (layer_of t.features t.layers r.topogeo_id) r) rows

-- all of them: of each feature with a layer, and with a type, one
pub record AreRelationLines (t : Tables) (lines : List ReportLine) : Type 0 where
  pub strangers : List IdPair
  pub strangers_are : IsInOrder (unlisted t.features t.relations) strangers
  pub wrong : List IdPair
  pub wrong_are : IsInOrder (mistyped t.features t.layers t.relations) wrong
  pub all : lines ≡ map without_feature strangers ++ map kind_wrong wrong ++ universes t t.relations ++ missing_elements t t.relations

-- the lines of the first stage: on ids and references
pub record AreReferenceLines (t : Tables) (lines : List ReportLine) : Type 0 where
  pub on_relations : List ReportLine
  pub relations_are : AreRelationLines t on_relations
  pub all : lines ≡ past_next t ++ drawing_references t ++ layer_references t ++ on_relations

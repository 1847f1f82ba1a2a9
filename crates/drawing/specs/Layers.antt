-- Layers, features and what these list.
use Rattle.std.specs.Prelude.{ℕ, ◌+◌, Bool, false, not, ◌&&◌, ◌==◌, List, [], ◌∷◌, ◌++◌, map, Option, Some, None, if◌then◌else◌}
use Rattle.std.specs.List.{list_any}
use Rattle.std.specs.Str.{bytes_eq}
use Rattle.topo_base.specs.Kinds.{kind_number}
use Rattle.topo_base.specs.declared.kind.Kind.{Kind}
use Rattle.topo_base.specs.declared.kind.Kind.TheVariants.{Puntal, Lineal, Areal}
use Rattle.topo_base.specs.declared.rows.LayerRow.{LayerRow}
use Rattle.topo_base.specs.declared.rows.FeatureRow.{FeatureRow}
use Rattle.topo_base.specs.declared.rows.RelationRow.{RelationRow}
use Rattle.topo_base.specs.declared.edit.Pair.{Pair}
use Rattle.topo_base.specs.declared.rule.Rule.{Rule}
use Rattle.topo_base.specs.declared.rule.Rule.TheVariants.{NoNode, NoEdge, NoFace, NoFeature, WrongKind, UniverseElement, ElementListed}
use Rattle.drawing.specs.Drawing.{Drawing, feature_at, has_node, has_edge, has_face}
use Rattle.drawing.specs.Relations.{ordered, same_row}
use Rattle.drawing.specs.Outcome.{Accepted, the_layer, the_feature}

-- two layers have one type
abbrev pub same_kind : Kind → Kind → Bool
same_kind a b = kind_number a == kind_number b

-- addlayer
abbrev pub is_name_taken : Drawing → List ℕ → Bool
is_name_taken S name = list_any (λ (l : LayerRow). bytes_eq l.name name) S.layers

abbrev pub with_layer_done : Drawing → List ℕ → Kind → Option ℕ → ℕ → Accepted
with_layer_done S name kind child level =
    let new = S.next_ids.layer in
    record {
      drawing = record S {
        layers = S.layers ++ record { layer_id = new; level = level; child_id = child; feature_type = kind; name = name } ∷ [];
        next_ids = record (S.next_ids) { layer = new + 1 };
      };
      ids = the_layer new ∷ [];
    }

-- the rule that refuses an element in a layer, by its type there; none where it may be listed
abbrev pub missing : Bool → Rule → Option Rule
missing there rule = if there then None else Some rule

abbrev pub missing_element : Drawing → Kind → ℕ → Option Rule
missing_element S Puntal id = missing (has_node S id) NoNode
missing_element S Lineal id = missing (has_edge S id) NoEdge
missing_element S Areal id = if id == 0 then Some UniverseElement else missing (has_face S id) NoFace

abbrev pub is_feature_of : ℕ → Option FeatureRow → Bool
is_feature_of l None = false
is_feature_of l (Some t) = t.layer_id == l

abbrev pub element_rule_on : Drawing → Kind → Option ℕ → Pair → Option Rule
element_rule_on S kind None x = if not (x.element_type == kind_number kind) then Some WrongKind else missing_element S kind x.id
element_rule_on S kind (Some child) x =
    if not (x.element_type == child) then Some WrongKind else missing (is_feature_of child (feature_at S x.id)) NoFeature

abbrev pub element_rule : Drawing → LayerRow → Pair → Option Rule
element_rule S layer x = element_rule_on S layer.feature_type layer.child_id x

-- createtopogeom
abbrev pub same_pair : Pair → Pair → Bool
same_pair x y = x.id == y.id && x.element_type == y.element_type

abbrev pub or_else : Option Rule → Option Rule → Option Rule
or_else None r = r
or_else (Some rule) r = Some rule

abbrev pub elements_rule : Drawing → LayerRow → List Pair → List Pair → Option Rule
elements_rule S layer earlier [] = None
elements_rule S layer earlier (x ∷ xs) =
    or_else (element_rule S layer x) (or_else (missing (not (list_any (same_pair x) earlier)) ElementListed) (elements_rule S layer (x ∷ earlier) xs))

abbrev pub row_for : ℕ → ℕ → Pair → RelationRow
row_for t l x = record { topogeo_id = t; layer_id = l; element_id = x.id; element_type = x.element_type }

abbrev pub with_feature_done : Drawing → LayerRow → List Pair → Accepted
with_feature_done S layer xs =
    let new = S.next_ids.feature in
    record {
      drawing = record S {
        features = S.features ++ record { feature_id = new; layer_id = layer.layer_id } ∷ [];
        relations = S.relations ++ ordered (map (row_for new layer.layer_id) xs);
        next_ids = record (S.next_ids) { feature = new + 1 };
      };
      ids = the_feature new ∷ [];
    }

-- addelement
abbrev pub is_element_listed : Drawing → RelationRow → Bool
is_element_listed S row = list_any (same_row row) S.relations

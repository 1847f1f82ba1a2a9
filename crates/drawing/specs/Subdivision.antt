-- A subdivision of the plane: the parts that each edit keeps. All but two of them are tests that compute.
use Rattle.std.specs.Prelude.{ℕ, ◌+◌, Bool, true, false, not, ◌&&◌, ◌==◌, nat_lt, nat_le, IsTrue, List, [], ◌∷◌, filter, map, count_by, Option, Some, None, is_some, if◌then◌else◌}
use Rattle.std.specs.List.{list_all, list_any}
use Rattle.std.specs.Str.{bytes_eq}
use Rattle.topo_base.specs.declared.rows.NodeRow.{NodeRow}
use Rattle.topo_base.specs.declared.rows.LayerRow.{LayerRow}
use Rattle.topo_base.specs.declared.rows.FeatureRow.{FeatureRow}
use Rattle.topo_base.specs.declared.rows.RelationRow.{RelationRow}
use Rattle.drawing.specs.Drawing.{Drawing, Edge, node_id_of, edge_id_of, layer_id_of, feature_id_of, has_node, has_face, is_isolated, layer_at, feature_at}
use Rattle.drawing.specs.HalfEdge.{HalfEdge, half_edges, comes_before}
use Rattle.drawing.specs.Star.{next_of}
use Rattle.drawing.specs.Ring.{ring_of, is_shell}
use Rattle.drawing.specs.Relations.{row_before}
use Rattle.drawing.specs.Layers.{same_kind, element_rule}
use Rattle.drawing.specs.Plain.{IsPlain}
use Rattle.drawing.specs.Faced.{IsFaced}

-- ids ascend from the first number on and are below the second
abbrev pub ascend_between : ℕ → ℕ → List ℕ → Bool
ascend_between low next [] = true
ascend_between low next (a ∷ ids) = nat_le low a && nat_lt a next && ascend_between (a + 1) next ids

abbrev pub rows_in_order : {R : Type 0} → (R → ℕ) → ℕ → ℕ → List R → Bool
rows_in_order id low next rows = ascend_between low next (map id rows)

abbrev pub face_id_of : ℕ → ℕ
face_id_of f = f

abbrev pub ids_in_order : Drawing → Bool
ids_in_order S =
    rows_in_order node_id_of 1 S.next_ids.node S.nodes
    && rows_in_order edge_id_of 1 S.next_ids.edge S.edges
    && rows_in_order face_id_of 0 S.next_ids.face S.faces
    && rows_in_order layer_id_of 1 S.next_ids.layer S.layers
    && rows_in_order feature_id_of 1 S.next_ids.feature S.features

-- ends, sides and containing faces are listed, and a node has a containing face exactly where it has no edge
abbrev pub is_edge_known : Drawing → Edge → Bool
is_edge_known S e = has_node S e.start_node && has_node S e.end_node && has_face S e.left_face && has_face S e.right_face

abbrev pub is_face_known : Drawing → Option ℕ → Bool → Bool
is_face_known S None isolated = not isolated
is_face_known S (Some f) isolated = isolated && has_face S f

abbrev pub is_node_known : Drawing → NodeRow → Bool
is_node_known S n = is_face_known S n.containing_face (is_isolated S n.node_id)

-- a layer has no child and level 0, or a listed child of its own kind that is one level below; names differ
abbrev pub is_above : LayerRow → Option LayerRow → Bool
is_above l None = false
is_above l (Some child) = l.level == child.level + 1 && same_kind l.feature_type child.feature_type

abbrev pub is_layer_known : Drawing → LayerRow → Option ℕ → Bool
is_layer_known S l None = l.level == 0
is_layer_known S l (Some child) = is_above l (layer_at S child)

abbrev pub names_differ : List LayerRow → Bool
names_differ [] = true
names_differ (l ∷ ls) = not (list_any (λ (m : LayerRow). bytes_eq l.name m.name) ls) && names_differ ls

-- a relation row is of a listed feature, with its layer, and may list the element
abbrev pub may_list : Drawing → RelationRow → Option LayerRow → Bool
may_list S r None = false
may_list S r (Some l) = not (is_some (element_rule S l (record { id = r.element_id; element_type = r.element_type })))

abbrev pub is_row_of : RelationRow → Option FeatureRow → Bool
is_row_of r None = false
is_row_of r (Some t) = r.layer_id == t.layer_id

abbrev pub is_row_known : Drawing → RelationRow → Bool
is_row_known S r = is_row_of r (feature_at S r.topogeo_id) && may_list S r (layer_at S r.layer_id)

-- rows ascend, so none stands twice
abbrev pub rows_ascend : List RelationRow → Bool
rows_ascend [] = true
rows_ascend (a ∷ []) = true
rows_ascend (a ∷ b ∷ rest) = row_before a b && rows_ascend (b ∷ rest)

abbrev pub references_known : Drawing → Bool
references_known S =
    has_face S 0
    && list_all (is_edge_known S) S.edges
    && list_all (is_node_known S) S.nodes
    && list_all (λ (l : LayerRow). is_layer_known S l l.child_id) S.layers
    && names_differ S.layers
    && list_all (λ (t : FeatureRow). is_some (layer_at S t.layer_id)) S.features
    && list_all (is_row_known S) S.relations
    && rows_ascend S.relations

-- each half-edge has the face of the one that follows it on its left
abbrev pub rings_have_one_face : Drawing → Bool
rings_have_one_face S = let hs = half_edges S in list_all (λ (h : HalfEdge). h.on_left == (next_of hs h).on_left) hs

-- the rings, each begun with its least half-edge; a face other than 0 has exactly one shell, and face 0 has none
abbrev pub begins_ring : List HalfEdge → HalfEdge → Bool
begins_ring hs h = list_all (λ k. not (comes_before k h)) (ring_of hs h)

abbrev pub rings : List HalfEdge → List (List HalfEdge)
rings hs = map (ring_of hs) (filter (begins_ring hs) hs)

abbrev pub is_shell_of : ℕ → List HalfEdge → Bool
is_shell_of f ring = list_any (λ (h : HalfEdge). h.on_left == f) ring && is_shell ring

abbrev pub faces_have_shells : Drawing → Bool
faces_have_shells S =
    let all = rings (half_edges S) in
    list_all (λ f. count_by (is_shell_of f) all == (if f == 0 then 0 else 1)) S.faces

-- the tests that compute, together
abbrev pub is_consistent : Drawing → Bool
is_consistent S = ids_in_order S && references_known S && rings_have_one_face S && faces_have_shells S

pub record IsSubdivision (S : Drawing) : Type 0 where
  pub ids : IsTrue (ids_in_order S)
  pub references : IsTrue (references_known S)
  pub plain : IsPlain S
  pub rings : IsTrue (rings_have_one_face S)
  pub faced : IsFaced S
  pub shells : IsTrue (faces_have_shells S)

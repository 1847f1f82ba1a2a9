-- What is known of a change that was decided.
use Rattle.std.specs.Prelude.{◌≡◌, ◌≢◌, ◌⊎◌, ℕ, ◌+◌, Bool, true, false, nat_le, List, [], length, Option, Some, None}
use Rattle.std.specs.List.{list_any, Contains}
use Rattle.topo_base.specs.Point.{Point}
use Rattle.topo_base.specs.declared.kind.Kind.{Kind}
use Rattle.topo_base.specs.declared.edit.Pair.{Pair}
use Rattle.topo_base.specs.declared.rows.NodeRow.{NodeRow}
use Rattle.topo_base.specs.declared.rows.LayerRow.{LayerRow}
use Rattle.topo_base.specs.declared.rows.FeatureRow.{FeatureRow}
use Rattle.topo_base.specs.declared.rows.RelationRow.{RelationRow}
use Rattle.plane.specs.Line.{is_simple, is_inside_line}
use Rattle.drawing.specs.Drawing.{Drawing, Edge, layer_at, feature_at, is_isolated, is_end_of, has_only}
use Rattle.drawing.specs.HalfEdge.{HalfEdge, forward_of, backward_of, half_edges}
use Rattle.drawing.specs.Ring.{ring_of, contains_half_edge}
use Rattle.drawing.specs.Faces.{face_at}
use Rattle.drawing.specs.Relations.{node_type, edge_type, face_type, lists_feature}
use Rattle.drawing.specs.Blocked.{is_blocked, is_blocked_for, is_line_blocked, goes_between}
use Rattle.drawing.specs.IsoEdits.{is_in_feature, is_isolated_edge, with_edge}
use Rattle.drawing.specs.AddEdge.{coming, one_new, two_new, face_at_start, face_at_end}
use Rattle.drawing.specs.RemoveEdge.{have_same_features}
use Rattle.drawing.specs.HealEdges.{is_closed, common_nodes, is_nothing, healed_node}
use Rattle.drawing.specs.Layers.{is_name_taken, same_kind, elements_rule, element_rule, row_for, is_element_listed}
use Rattle.drawing.specs.Accepted.{is_line_short}
use Rattle.drawing.specs.Change.{Change, NodeComes, NodeMoves, NodeGoes, EdgeComes, FaceIsDivided, FaceIsDividedAnew, LoneEdgeGoes, EdgeGoes, FacesJoin, FacesJoinAnew, EdgeIsCut, EdgeIsCutAnew, EdgesAreJoined, EdgesAreJoinedAnew, LayerComes, FeatureComes, FeatureLists, FeatureUnlists, FeatureGoes}

-- ---- nodes
pub record NodeMayCome (S : Drawing) (face : ℕ) (p : Point) : Type 0 where
  pub free : is_blocked S p ≡ false
  pub lies : face_at S p ≡ face

pub record NodeMayMove (S : Drawing) (n : NodeRow) (p : Point) : Type 0 where
  pub there : Contains S.nodes n
  pub lone : is_isolated S n.node_id ≡ true
  pub free : is_blocked_for S n.node_id p ≡ false
  pub lies : n.containing_face ≡ Some (face_at S p)

pub record NodeMayGo (S : Drawing) (n : NodeRow) : Type 0 where
  pub there : Contains S.nodes n
  pub lone : is_isolated S n.node_id ≡ true
  pub unlisted : is_in_feature S node_type n.node_id ≡ false

-- ---- edges that come: the rings of the edge, once it has come
abbrev pub left_ring : Drawing → NodeRow → NodeRow → List Point → ℕ → List HalfEdge
left_ring S a b line face = ring_of (half_edges (with_edge S a b line face)) (forward_of (coming S a b line face))

abbrev pub right_ring : Drawing → NodeRow → NodeRow → List Point → ℕ → List HalfEdge
right_ring S a b line face = ring_of (half_edges (with_edge S a b line face)) (backward_of (coming S a b line face))

-- the line goes between the nodes through this face
pub record EdgeMayCome (S : Drawing) (a b : NodeRow) (line : List Point) (face : ℕ) : Type 0 where
  pub start_there : Contains S.nodes a
  pub end_there : Contains S.nodes b
  pub ends : goes_between a b line ≡ true
  pub simple : is_simple line ≡ true
  pub free : is_line_blocked S line ≡ false
  pub starts_in : face_at_start S a line ≡ face
  pub ends_in : face_at_end S b line ≡ face

-- it closes no ring
pub record OpenEdgeMayCome (S : Drawing) (a b : NodeRow) (line : List Point) (face : ℕ) : Type 0 where
  pub edge : EdgeMayCome S a b line face
  pub joined : contains_half_edge (left_ring S a b line face) (backward_of (coming S a b line face)) ≡ true

-- it closes a ring, by which the face is divided
pub record FaceMayBeDivided (S : Drawing) (a b : NodeRow) (line : List Point) (face : ℕ) : Type 0 where
  pub edge : EdgeMayCome S a b line face
  pub cut : contains_half_edge (left_ring S a b line face) (backward_of (coming S a b line face)) ≡ false

-- ---- edges that go
pub record LoneEdgeMayGo (S : Drawing) (e : Edge) : Type 0 where
  pub there : Contains S.edges e
  pub lone : is_isolated_edge S e ≡ true
  pub unlisted : is_in_feature S edge_type e.edge_id ≡ false

pub record EdgeMayGo (S : Drawing) (e : Edge) : Type 0 where
  pub there : Contains S.edges e
  pub unlisted : is_in_feature S edge_type e.edge_id ≡ false

pub record FacesMayJoin (S : Drawing) (e : Edge) : Type 0 where
  pub edge : EdgeMayGo S e
  pub differ : e.left_face ≢ e.right_face
  pub alike : have_same_features S face_type e.left_face e.right_face ≡ true

-- the universal face doesn't go
abbrev pub AreSides : Edge → ℕ → ℕ → Type 0
AreSides e kept goes = ((kept ≡ e.left_face) × (goes ≡ e.right_face)) ⊎ ((kept ≡ e.right_face) × (goes ≡ e.left_face))

-- ---- edges that are cut and joined
pub record EdgeMayBeCut (S : Drawing) (e : Edge) (p : Point) : Type 0 where
  pub there : Contains S.edges e
  pub inside : is_inside_line p e.geom ≡ true

pub record EdgesMayBeJoined (S : Drawing) (e f : Edge) (n : ℕ) : Type 0 where
  pub first_there : Contains S.edges e
  pub second_there : Contains S.edges f
  pub first_open : is_closed e ≡ false
  pub second_open : is_closed f ≡ false
  pub differ : e.edge_id ≢ f.edge_id
  pub meet : is_nothing (common_nodes e f) ≡ false
  -- the node is the first common one that has no edge but the two
  pub node : healed_node S e f ≡ Some n
  pub on_first : (n ≡ e.end_node) ⊎ (n ≡ e.start_node)
  pub on_second : is_end_of n f ≡ true
  pub only : has_only S n e.edge_id f.edge_id ≡ true
  pub alike : have_same_features S edge_type e.edge_id f.edge_id ≡ true
  pub unlisted : is_in_feature S node_type n ≡ false

-- ---- layers and features: each row is the one that its id finds
pub record IsChild (S : Drawing) (kind : Kind) (child level : ℕ) : Type 0 where
  pub row : LayerRow
  pub found : layer_at S child ≡ Some row
  pub kind_is : same_kind row.feature_type kind ≡ true
  pub level_is : row.level + 1 ≡ level

abbrev pub IsLevel : Drawing → Kind → Option ℕ → ℕ → Type 0
IsLevel S kind None level = level ≡ 0
IsLevel S kind (Some child) level = IsChild S kind child level

pub record LayerMayCome (S : Drawing) (name : List ℕ) (kind : Kind) (child : Option ℕ) (level : ℕ) : Type 0 where
  pub unnamed : is_name_taken S name ≡ false
  pub stands : IsLevel S kind child level

pub record FeatureMayCome (S : Drawing) (layer : LayerRow) (xs : List Pair) : Type 0 where
  pub found : layer_at S layer.layer_id ≡ Some layer
  pub allowed : elements_rule S layer [] xs ≡ None

pub record FeatureMayList (S : Drawing) (row : RelationRow) : Type 0 where
  pub feature : FeatureRow
  pub layer : LayerRow
  pub element : Pair
  pub feature_found : feature_at S feature.feature_id ≡ Some feature
  pub layer_found : layer_at S layer.layer_id ≡ Some layer
  pub layer_is : layer.layer_id ≡ feature.layer_id
  pub row_is : row ≡ row_for feature.feature_id layer.layer_id element
  pub allowed : element_rule S layer element ≡ None
  pub unlisted : is_element_listed S row ≡ false

pub record FeatureMayUnlist (S : Drawing) (row : RelationRow) : Type 0 where
  pub feature : FeatureRow
  pub element : Pair
  pub feature_found : feature_at S feature.feature_id ≡ Some feature
  pub row_is : row ≡ row_for feature.feature_id feature.layer_id element
  pub listed : is_element_listed S row ≡ true

pub record FeatureMayGo (S : Drawing) (t : FeatureRow) : Type 0 where
  pub found : feature_at S t.feature_id ≡ Some t
  pub unused : list_any (lists_feature S t.feature_id) S.relations ≡ false

-- ---- each change
abbrev pub IsDecided : Drawing → Change → Type 0
IsDecided S (NodeComes face p) = NodeMayCome S face p
IsDecided S (NodeMoves n p) = NodeMayMove S n p
IsDecided S (NodeGoes n) = NodeMayGo S n
IsDecided S (EdgeComes a b line face) = OpenEdgeMayCome S a b line face
IsDecided S (FaceIsDivided a b line d) =
    FaceMayBeDivided S a b line d.face × (d ≡ one_new (with_edge S a b line d.face) d.face (left_ring S a b line d.face) (right_ring S a b line d.face))
IsDecided S (FaceIsDividedAnew a b line d) =
    FaceMayBeDivided S a b line d.face × (d.face ≢ 0) × (d ≡ two_new (with_edge S a b line d.face) d.face (left_ring S a b line d.face) (right_ring S a b line d.face))
IsDecided S (LoneEdgeGoes e) = LoneEdgeMayGo S e
IsDecided S (EdgeGoes e) = EdgeMayGo S e × (e.left_face ≡ e.right_face)
IsDecided S (FacesJoin e kept goes) = FacesMayJoin S e × AreSides e kept goes × (goes ≢ 0)
IsDecided S (FacesJoinAnew e) = FacesMayJoin S e × (e.left_face ≢ 0) × (e.right_face ≢ 0)
IsDecided S (EdgeIsCut e p) = EdgeMayBeCut S e p
IsDecided S (EdgeIsCutAnew e p) = EdgeMayBeCut S e p
IsDecided S (EdgesAreJoined e f n) = EdgesMayBeJoined S e f n
IsDecided S (EdgesAreJoinedAnew e f n) = EdgesMayBeJoined S e f n
IsDecided S (LayerComes name kind child level) = LayerMayCome S name kind child level
IsDecided S (FeatureComes layer xs) = FeatureMayCome S layer xs
IsDecided S (FeatureLists row) = FeatureMayList S row
IsDecided S (FeatureUnlists row) = FeatureMayUnlist S row
IsDecided S (FeatureGoes t) = FeatureMayGo S t

-- the line of an edge that comes, and the elements of a feature that comes, are within the limits
abbrev pub is_within : Change → Bool
is_within (NodeComes face p) = true
is_within (NodeMoves n p) = true
is_within (NodeGoes n) = true
is_within (EdgeComes a b line face) = is_line_short line
is_within (FaceIsDivided a b line d) = is_line_short line
is_within (FaceIsDividedAnew a b line d) = is_line_short line
is_within (LoneEdgeGoes e) = true
is_within (EdgeGoes e) = true
is_within (FacesJoin e kept goes) = true
is_within (FacesJoinAnew e) = true
is_within (EdgeIsCut e p) = true
is_within (EdgeIsCutAnew e p) = true
is_within (EdgesAreJoined e f n) = true
is_within (EdgesAreJoinedAnew e f n) = true
is_within (LayerComes name kind child level) = true
is_within (FeatureComes layer xs) = nat_le (length xs) 4096
is_within (FeatureLists row) = true
is_within (FeatureUnlists row) = true
is_within (FeatureGoes t) = true

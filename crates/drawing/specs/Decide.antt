-- The decision on an edit: the first rule that refuses it, or the change that it makes.
use Rattle.std.specs.Prelude.{ℕ, ◌+◌, Bool, true, false, not, ◌&&◌, ◌||◌, ◌==◌, nat_eq, List, [], Option, Some, None, Ok, Err, unwrap_or, if◌then◌else◌}
use Rattle.std.specs.List.{list_any}
use Rattle.std.specs.Option.{option_eq}
use Rattle.topo_base.specs.Point.{Point}
use Rattle.topo_base.specs.declared.kind.Kind.{Kind}
use Rattle.topo_base.specs.declared.edit.Pair.{Pair}
use Rattle.topo_base.specs.declared.rows.NodeRow.{NodeRow}
use Rattle.topo_base.specs.declared.rows.LayerRow.{LayerRow}
use Rattle.topo_base.specs.declared.rows.FeatureRow.{FeatureRow}
use Rattle.topo_base.specs.declared.rule.Rule.{Rule}
use Rattle.topo_base.specs.declared.rule.Rule.TheVariants.{NoNode, NoEdge, NoFace, NoLayer, NoFeature, SameNode, NotIsolated, PointBlocked, NotInFace, LineEnds, LineNotSimple, LineBlocked, NodeInFeature, EdgeInFeature, FaceInFeature, NotOnEdge, ClosedEdge, NotJoined, OthersJoined, HealSplitsFeature, WrongKind, NameTaken, ElementListed, ElementNotListed, FeatureUsed}
use Rattle.topo_base.specs.declared.edit.Edit.{Edit}
use Rattle.topo_base.specs.declared.edit.Edit.TheVariants.{AddIsoNode, MoveIsoNode, RemoveIsoNode, AddIsoEdge, RemoveIsoEdge, AddEdgeModFace, AddEdgeNewFaces, RemEdgeModFace, RemEdgeNewFace, ModEdgeSplit, NewEdgesSplit, ModEdgeHeal, NewEdgeHeal, AddLayer, CreateTopoGeom, AddElement, RemElement, DropFeature}
use Rattle.plane.specs.Line.{is_simple, is_inside_line}
use Rattle.drawing.specs.Drawing.{Drawing, Edge, node_at, edge_at, layer_at, feature_at, is_isolated}
use Rattle.drawing.specs.HalfEdge.{forward_of, backward_of, half_edges}
use Rattle.drawing.specs.Ring.{ring_of, contains_half_edge}
use Rattle.drawing.specs.Faces.{face_at}
use Rattle.drawing.specs.Relations.{node_type, edge_type, face_type, lists_feature}
use Rattle.drawing.specs.Blocked.{is_blocked, is_blocked_for, is_line_blocked, goes_between}
use Rattle.drawing.specs.IsoEdits.{accepts_face, is_given_face, is_in_feature, is_isolated_edge, with_edge}
use Rattle.drawing.specs.AddEdge.{coming, one_new, two_new, face_at_start, face_at_end}
use Rattle.drawing.specs.RemoveEdge.{have_same_features}
use Rattle.drawing.specs.HealEdges.{is_closed, common_nodes, is_nothing, healed_node}
use Rattle.drawing.specs.Layers.{is_name_taken, same_kind, elements_rule, element_rule, row_for, is_element_listed}
use Rattle.drawing.specs.Apply.{Decision}
use Rattle.drawing.specs.Change.{NodeComes, NodeMoves, NodeGoes, EdgeComes, FaceIsDivided, FaceIsDividedAnew, LoneEdgeGoes, EdgeGoes, FacesJoin, FacesJoinAnew, EdgeIsCut, EdgeIsCutAnew, EdgesAreJoined, EdgesAreJoinedAnew, LayerComes, FeatureComes, FeatureLists, FeatureUnlists, FeatureGoes}

-- ---- nodes
abbrev pub node_comes : Drawing → Option ℕ → Point → Decision
node_comes S face p =
    if not (accepts_face S face) then Err NoFace
    else (if is_blocked S p then Err PointBlocked
    else (if not (is_given_face face (face_at S p)) then Err NotInFace
    else Ok (NodeComes (face_at S p) p)))

abbrev pub node_moves : Drawing → Option NodeRow → Point → Decision
node_moves S None p = Err NoNode
node_moves S (Some n) p =
    if not (is_isolated S n.node_id) then Err NotIsolated
    else (if is_blocked_for S n.node_id p then Err PointBlocked
    else (if not (option_eq nat_eq n.containing_face (Some (face_at S p))) then Err NotInFace
    else Ok (NodeMoves n p)))

abbrev pub node_goes : Drawing → Option NodeRow → Decision
node_goes S None = Err NoNode
node_goes S (Some n) =
    if not (is_isolated S n.node_id) then Err NotIsolated
    else (if is_in_feature S node_type n.node_id then Err NodeInFeature
    else Ok (NodeGoes n))

-- ---- edges that come
abbrev pub lone_edge_comes : Drawing → Option NodeRow → Option NodeRow → List Point → Decision
lone_edge_comes S (Some a) (Some b) line =
    if a.node_id == b.node_id then Err SameNode
    else (if not (is_isolated S a.node_id && is_isolated S b.node_id) then Err NotIsolated
    else (if not (option_eq nat_eq a.containing_face b.containing_face) then Err NotInFace
    else (if not (goes_between a b line) then Err LineEnds
    else (if not (is_simple line) then Err LineNotSimple
    else (if is_line_blocked S line then Err LineBlocked
    else Ok (EdgeComes a b line (unwrap_or a.containing_face 0)))))))
lone_edge_comes S (Some a) None line = Err NoNode
lone_edge_comes S None b line = Err NoNode

-- an edge in the face f divides it where it closes a ring
abbrev pub edge_in_face : Bool → Drawing → NodeRow → NodeRow → List Point → ℕ → Decision
edge_in_face both S a b line f =
    let T = with_edge S a b line f in
    let e = coming S a b line f in
    let left = ring_of (half_edges T) (forward_of e) in
    let right = ring_of (half_edges T) (backward_of e) in
    if contains_half_edge left (backward_of e) then Ok (EdgeComes a b line f)
    else (if both && not (f == 0) then Ok (FaceIsDividedAnew a b line (two_new T f left right)) else Ok (FaceIsDivided a b line (one_new T f left right)))

abbrev pub edge_comes : Bool → Drawing → Option NodeRow → Option NodeRow → List Point → Decision
edge_comes both S (Some a) (Some b) line =
    let f = face_at_start S a line in
    if not (goes_between a b line) then Err LineEnds
    else (if not (is_simple line) then Err LineNotSimple
    else (if is_line_blocked S line || not (face_at_end S b line == f) then Err LineBlocked
    else edge_in_face both S a b line f))
edge_comes both S (Some a) None line = Err NoNode
edge_comes both S None b line = Err NoNode

-- ---- edges that go
abbrev pub lone_edge_goes : Drawing → Option Edge → Decision
lone_edge_goes S None = Err NoEdge
lone_edge_goes S (Some e) =
    if not (is_isolated_edge S e) then Err NotIsolated
    else (if is_in_feature S edge_type e.edge_id then Err EdgeInFeature
    else Ok (LoneEdgeGoes e))

-- the universal face stays where it is one of the two, and else the one on the right, or a new one
abbrev pub faces_join : Bool → Edge → Decision
faces_join anew e =
    if e.left_face == e.right_face then Ok (EdgeGoes e)
    else (if e.left_face == 0 then Ok (FacesJoin e 0 e.right_face)
    else (if e.right_face == 0 then Ok (FacesJoin e 0 e.left_face)
    else (if anew then Ok (FacesJoinAnew e) else Ok (FacesJoin e e.right_face e.left_face))))

abbrev pub edge_goes : Bool → Drawing → Option Edge → Decision
edge_goes anew S None = Err NoEdge
edge_goes anew S (Some e) =
    if is_in_feature S edge_type e.edge_id then Err EdgeInFeature
    else (if not (e.left_face == e.right_face) && not (have_same_features S face_type e.left_face e.right_face) then Err FaceInFeature
    else faces_join anew e)

-- ---- edges that are cut and joined
abbrev pub edge_is_cut : Bool → Drawing → Option Edge → Point → Decision
edge_is_cut anew S None p = Err NoEdge
edge_is_cut anew S (Some e) p =
    if not (is_inside_line p e.geom) then Err NotOnEdge else (if anew then Ok (EdgeIsCutAnew e p) else Ok (EdgeIsCut e p))

abbrev pub edges_joined_at : Bool → Drawing → Edge → Edge → Option ℕ → Decision
edges_joined_at anew S e f None = Err OthersJoined
edges_joined_at anew S e f (Some n) =
    if not (have_same_features S edge_type e.edge_id f.edge_id) then Err HealSplitsFeature
    else (if is_in_feature S node_type n then Err NodeInFeature
    else (if anew then Ok (EdgesAreJoinedAnew e f n) else Ok (EdgesAreJoined e f n)))

abbrev pub edges_are_joined : Bool → Drawing → Option Edge → Option Edge → Decision
edges_are_joined anew S (Some e) (Some f) =
    if is_closed e || is_closed f then Err ClosedEdge
    else (if e.edge_id == f.edge_id || is_nothing (common_nodes e f) then Err NotJoined
    else edges_joined_at anew S e f (healed_node S e f))
edges_are_joined anew S (Some e) None = Err NoEdge
edges_are_joined anew S None f = Err NoEdge

-- ---- layers and features
abbrev pub layer_comes_on : List ℕ → Kind → Option LayerRow → Decision
layer_comes_on name kind None = Err NoLayer
layer_comes_on name kind (Some child) =
    if not (same_kind child.feature_type kind) then Err WrongKind else Ok (LayerComes name kind (Some child.layer_id) (child.level + 1))

abbrev pub layer_comes_over : Drawing → List ℕ → Kind → Option ℕ → Decision
layer_comes_over S name kind None = Ok (LayerComes name kind None 0)
layer_comes_over S name kind (Some child) = layer_comes_on name kind (layer_at S child)

abbrev pub layer_comes : Drawing → List ℕ → Kind → Option ℕ → Decision
layer_comes S name kind child = if is_name_taken S name then Err NameTaken else layer_comes_over S name kind child

-- the change, where no rule refuses it
abbrev pub unless : Option Rule → Decision → Decision
unless None decision = decision
unless (Some rule) decision = Err rule

abbrev pub feature_comes : Drawing → Option LayerRow → List Pair → Decision
feature_comes S None xs = Err NoLayer
feature_comes S (Some layer) xs = unless (elements_rule S layer [] xs) (Ok (FeatureComes layer xs))

abbrev pub feature_lists_in : Drawing → FeatureRow → Option LayerRow → Pair → Decision
feature_lists_in S t None x = Err NoFeature
feature_lists_in S t (Some layer) x =
    let row = row_for t.feature_id layer.layer_id x in
    unless (element_rule S layer x) (if is_element_listed S row then Err ElementListed else Ok (FeatureLists row))

abbrev pub feature_lists : Drawing → Option FeatureRow → Pair → Decision
feature_lists S None x = Err NoFeature
feature_lists S (Some t) x = feature_lists_in S t (layer_at S t.layer_id) x

abbrev pub feature_unlists : Drawing → Option FeatureRow → Pair → Decision
feature_unlists S None x = Err NoFeature
feature_unlists S (Some t) x =
    let row = row_for t.feature_id t.layer_id x in
    if not (is_element_listed S row) then Err ElementNotListed else Ok (FeatureUnlists row)

abbrev pub feature_goes : Drawing → Option FeatureRow → Decision
feature_goes S None = Err NoFeature
feature_goes S (Some t) = if list_any (lists_feature S t.feature_id) S.relations then Err FeatureUsed else Ok (FeatureGoes t)

-- ---- each edit
abbrev pub decide : Drawing → Edit → Decision
decide S (AddIsoNode face p) = node_comes S face p
decide S (MoveIsoNode n p) = node_moves S (node_at S n) p
decide S (RemoveIsoNode n) = node_goes S (node_at S n)
decide S (AddIsoEdge a b line) = lone_edge_comes S (node_at S a) (node_at S b) line
decide S (RemoveIsoEdge e) = lone_edge_goes S (edge_at S e)
decide S (AddEdgeModFace a b line) = edge_comes false S (node_at S a) (node_at S b) line
decide S (AddEdgeNewFaces a b line) = edge_comes true S (node_at S a) (node_at S b) line
decide S (RemEdgeModFace e) = edge_goes false S (edge_at S e)
decide S (RemEdgeNewFace e) = edge_goes true S (edge_at S e)
decide S (ModEdgeSplit e p) = edge_is_cut false S (edge_at S e) p
decide S (NewEdgesSplit e p) = edge_is_cut true S (edge_at S e) p
decide S (ModEdgeHeal e f) = edges_are_joined false S (edge_at S e) (edge_at S f)
decide S (NewEdgeHeal e f) = edges_are_joined true S (edge_at S e) (edge_at S f)
decide S (AddLayer name kind child) = layer_comes S name kind child
decide S (CreateTopoGeom l xs) = feature_comes S (layer_at S l) xs
decide S (AddElement t id type) = feature_lists S (feature_at S t) (record { id = id; element_type = type })
decide S (RemElement t id type) = feature_unlists S (feature_at S t) (record { id = id; element_type = type })
decide S (DropFeature t) = feature_goes S (feature_at S t)

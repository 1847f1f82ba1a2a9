-- The lines of a report on ids and on what rows name.
use Rattle.std.specs.Prelude.{ℕ, Bool, true, false, not, ◌&&◌, ◌==◌, nat_le, min, max, List, [], ◌∷◌, ◌++◌, flat_map, Option, Some, None, is_some, ℤ, pos, neg_ℤ, int_lt, if◌then◌else◌}
use Rattle.std.specs.Str.{bytes_eq}
use Rattle.topo_base.specs.Darts.{same_dart}
use Rattle.topo_base.specs.declared.ids.Dart.{Dart}
use Rattle.topo_base.specs.declared.rows.NodeRow.{NodeRow}
use Rattle.topo_base.specs.declared.rows.EdgeRow.{EdgeRow}
use Rattle.topo_base.specs.declared.rows.FaceRow.{FaceRow}
use Rattle.topo_base.specs.declared.rows.LayerRow.{LayerRow}
use Rattle.topo_base.specs.declared.rows.FeatureRow.{FeatureRow}
use Rattle.drawing.specs.Rows.{row_at, has_row}
use Rattle.drawing.specs.Drawing.{layer_id_of}
use Rattle.drawing.specs.Subdivision.{is_above}
use Rattle.drawing.specs.Tables.{Tables}
use Rattle.validate_topology.specs.OnlyIf.{only_if}
use Rattle.validate_topology.specs.declared.lines.ReportLine.{ReportLine}
use Rattle.validate_topology.specs.declared.lines.ReportLine.TheVariants.{NodePastNext, EdgePastNext, FacePastNext, LayerPastNext, FeaturePastNext, NodeWithoutFace, EdgeWithoutNode, EdgeWithoutFace, EdgeWithoutNext, LayerLevelWrong, LayerChildWrong, LayerNameTaken, FeatureWithoutLayer}

-- ids that aren't below the next one
abbrev pub nodes_past_next : ℕ → List NodeRow → List ReportLine
nodes_past_next next rows = flat_map (λ (n : NodeRow). only_if (nat_le next n.node_id) (NodePastNext n.node_id)) rows

abbrev pub edges_past_next : ℕ → List EdgeRow → List ReportLine
edges_past_next next rows = flat_map (λ (e : EdgeRow). only_if (nat_le next e.edge_id) (EdgePastNext e.edge_id)) rows

abbrev pub faces_past_next : ℕ → List FaceRow → List ReportLine
faces_past_next next rows = flat_map (λ (f : FaceRow). only_if (nat_le next f.face_id) (FacePastNext f.face_id)) rows

abbrev pub layers_past_next : ℕ → List LayerRow → List ReportLine
layers_past_next next rows = flat_map (λ (l : LayerRow). only_if (nat_le next l.layer_id) (LayerPastNext l.layer_id)) rows

abbrev pub features_past_next : ℕ → List FeatureRow → List ReportLine
features_past_next next rows = flat_map (λ (f : FeatureRow). only_if (nat_le next f.feature_id) (FeaturePastNext f.feature_id)) rows

-- which nodes, edges and faces are listed
abbrev pub lists_node : List NodeRow → ℕ → Bool
lists_node rows n = has_row (λ (r : NodeRow). r.node_id) rows n

abbrev pub lists_edge : List EdgeRow → ℕ → Bool
lists_edge rows n = has_row (λ (r : EdgeRow). r.edge_id) rows n

abbrev pub lists_face : List FaceRow → ℕ → Bool
lists_face rows n = has_row (λ (r : FaceRow). r.face_id) rows n

-- containing faces that aren't listed
abbrev pub missing_face : (ℕ → Bool) → ℕ → Option ℕ → List ReportLine
missing_face listed n None = []
missing_face listed n (Some f) = only_if (not (listed f)) (NodeWithoutFace n f)

abbrev pub nodes_without_face : (ℕ → Bool) → List NodeRow → List ReportLine
nodes_without_face listed rows = flat_map (λ (n : NodeRow). missing_face listed n.node_id n.containing_face) rows

-- ends and sides that aren't listed: of two the smaller id first, and one that stands twice once
abbrev pub missing_ids : (ℕ → Bool) → (ℕ → ReportLine) → ℕ → ℕ → List ReportLine
missing_ids listed line a b =
    only_if (not (listed (min a b))) (line (min a b)) ++ only_if (not (a == b) && not (listed (max a b))) (line (max a b))

abbrev pub edges_without_node : (ℕ → Bool) → List EdgeRow → List ReportLine
edges_without_node listed rows = flat_map (λ (e : EdgeRow). missing_ids listed (λ n. EdgeWithoutNode e.edge_id n) e.start_node e.end_node) rows

abbrev pub edges_without_face : (ℕ → Bool) → List EdgeRow → List ReportLine
edges_without_face listed rows = flat_map (λ (e : EdgeRow). missing_ids listed (λ f. EdgeWithoutFace e.edge_id f) e.left_face e.right_face) rows

-- links to edges that aren't listed, in the order of their signed numbers
abbrev pub signed_by : Bool → ℕ → ℤ
signed_by true n = pos n
signed_by false n = neg_ℤ (pos n)

abbrev pub signed : Dart → ℤ
signed d = signed_by d.forward d.edge

abbrev pub missing_link : (ℕ → Bool) → ℕ → Dart → List ReportLine
missing_link listed e d = only_if (not (listed d.edge)) (EdgeWithoutNext e d)

abbrev pub missing_links : (ℕ → Bool) → ℕ → Dart → Dart → List ReportLine
missing_links listed e left right =
    if same_dart left right then missing_link listed e left
    else (if int_lt (signed left) (signed right) then missing_link listed e left ++ missing_link listed e right else missing_link listed e right ++ missing_link listed e left)

abbrev pub edges_without_next : (ℕ → Bool) → List EdgeRow → List ReportLine
edges_without_next listed rows = flat_map (λ (e : EdgeRow). missing_links listed e.edge_id e.next_left_edge e.next_right_edge) rows

-- layers: levels, children, names, and the layers of features
abbrev pub wrong_level : ℕ → ℕ → Option ℕ → List ReportLine
wrong_level l level None = only_if (not (level == 0)) (LayerLevelWrong l)
wrong_level l level (Some child) = []

abbrev pub layer_levels : List LayerRow → List ReportLine
layer_levels rows = flat_map (λ (l : LayerRow). wrong_level l.layer_id l.level l.child_id) rows

abbrev pub wrong_child : List LayerRow → LayerRow → Option ℕ → List ReportLine
wrong_child all l None = []
wrong_child all l (Some child) = only_if (not (is_above l (row_at layer_id_of all child))) (LayerChildWrong l.layer_id child)

abbrev pub layer_children : List LayerRow → List LayerRow → List ReportLine
layer_children all rows = flat_map (λ (l : LayerRow). wrong_child all l l.child_id) rows

abbrev pub taken_names : LayerRow → List LayerRow → List ReportLine
taken_names l others = flat_map (λ (m : LayerRow). only_if (bytes_eq l.name m.name) (LayerNameTaken l.layer_id m.layer_id)) others

abbrev pub names_taken : List LayerRow → List ReportLine
names_taken [] = []
names_taken (l ∷ ls) = taken_names l ls ++ names_taken ls

abbrev pub missing_layer : List LayerRow → ℕ → ℕ → List ReportLine
missing_layer layers f l = only_if (not (is_some (row_at layer_id_of layers l))) (FeatureWithoutLayer f l)

abbrev pub features_without_layer : List LayerRow → List FeatureRow → List ReportLine
features_without_layer layers rows = flat_map (λ (f : FeatureRow). missing_layer layers f.feature_id f.layer_id) rows

-- all of them, for raw tables
abbrev pub past_next : Tables → List ReportLine
past_next t =
    nodes_past_next t.next_ids.node t.nodes ++ edges_past_next t.next_ids.edge t.edges ++ faces_past_next t.next_ids.face t.faces
    ++ layers_past_next t.next_ids.layer t.layers ++ features_past_next t.next_ids.feature t.features

abbrev pub drawing_references : Tables → List ReportLine
drawing_references t =
    nodes_without_face (lists_face t.faces) t.nodes ++ edges_without_node (lists_node t.nodes) t.edges
    ++ edges_without_face (lists_face t.faces) t.edges ++ edges_without_next (lists_edge t.edges) t.edges

abbrev pub layer_references : Tables → List ReportLine
layer_references t = layer_levels t.layers ++ layer_children t.layers t.layers ++ names_taken t.layers ++ features_without_layer t.layers t.features

-- Contents that pass the test of being one are one.
use Rattle.std.proofs.Common.{◌≡◌, refl, sym, ap, Bool, true, false, ◌&&◌, ◌==◌, eqb-true, List, [], ◌∷◌, Option, Some, None}
use Rattle.std.specs.Prelude.{nat_eq}
use Rattle.std.specs.Option.{option_eq}
use Rattle.std.proofs.lemmas.Bool.{and_parts}
use Rattle.std.proofs.lemmas.Slice.Eq.{bytes_eq-Decides}
use Rattle.topo_base.specs.Darts.{same_dart, same_way}
use Rattle.topo_base.specs.Kinds.{kind_number}
use Rattle.topo_base.specs.Point.{Point, same_point}
use Rattle.topo_base.specs.declared.ids.Dart.{Dart}
use Rattle.topo_base.specs.declared.kind.Kind.{Kind}
use Rattle.topo_base.specs.declared.kind.Kind.TheVariants.{Puntal, Lineal, Areal}
use Rattle.topo_base.specs.declared.rows.NodeRow.{NodeRow}
use Rattle.topo_base.specs.declared.rows.EdgeRow.{EdgeRow}
use Rattle.topo_base.specs.declared.rows.LayerRow.{LayerRow}
use Rattle.topo_base.specs.declared.rows.FeatureRow.{FeatureRow}
use Rattle.topo_base.specs.declared.rows.RelationRow.{RelationRow}
use Rattle.topo_base.specs.declared.rows.Counters.{Counters}
use Rattle.drawing.specs.Content.{Content, OfDrawing, OfFace, OfNode, OfEdge, OfLayer, OfFeature, FaceContent, BorderPart, NodeContent, Spoke, EdgeContent, FeatureContent}
use Rattle.drawing.specs.Drawing.{Drawing, Edge}
use Rattle.drawing.specs.Layers.{same_kind}
use Rattle.drawing.specs.Relations.{same_row}
use Rattle.drawing.specs.SameContent.{same_list, same_line, same_node, same_edge, same_edge_row, same_layer, same_feature, same_relation, same_counters, same_drawing, same_border_part, same_face_content, same_spoke, same_node_content, same_edge_content, same_feature_content, same_content}
use Rattle.plane.proofs.PointTests.{Decides-same_point}

-- ---- lists, options and numbers
points_one : (p q : Point) → same_point p q ≡ true → p ≡ q
points_one p q h = let at = (Decides-same_point p q).0 h in λ i. record { x = at.0 i; y = at.1 i }

lists_one : {X : Type 0} (same : X → X → Bool) → ((x y : X) → same x y ≡ true → x ≡ y) → (xs ys : List X) → same_list same xs ys ≡ true → xs ≡ ys
lists_one same one [] [] h = refl
lists_one same one [] (y ∷ ys) h = absurd cc
lists_one same one (x ∷ xs) [] h = absurd cc
lists_one same one (x ∷ xs) (y ∷ ys) h =
    let both = and_parts (same x y) (same_list same xs ys) h in
    let first = one x y both.0 in
    let rest = lists_one same one xs ys both.1 in
    λ i. first i ∷ rest i

options_one : {X : Type 0} (same : X → X → Bool) → ((x y : X) → same x y ≡ true → x ≡ y) → (a b : Option X) → option_eq same a b ≡ true → a ≡ b
options_one same one None None h = refl
options_one same one None (Some y) h = absurd cc
options_one same one (Some x) None h = absurd cc
options_one same one (Some x) (Some y) h = ap Some (one x y h)

ways_one : (a b : Bool) → same_way a b ≡ true → a ≡ b
ways_one true b h = sym h
ways_one false true h = absurd cc
ways_one false false h = refl

pub darts_one : (a b : Dart) → same_dart a b ≡ true → a ≡ b
darts_one a b h =
    let both = and_parts (a.edge == b.edge) (same_way a.forward b.forward) h in
    let e = eqb-true a.edge b.edge both.0 in
    let w = ways_one a.forward b.forward both.1 in
    λ i. record { edge = e i; forward = w i }

kinds_one : (a b : Kind) → same_kind a b ≡ true → a ≡ b
kinds_one a b h = by a b (eqb-true (kind_number a) (kind_number b) h)
  where
    by : (a b : Kind) → kind_number a ≡ kind_number b → a ≡ b
    by Puntal Puntal e = refl
    by Puntal Lineal e = absurd cc
    by Puntal Areal e = absurd cc
    by Lineal Puntal e = absurd cc
    by Lineal Lineal e = refl
    by Lineal Areal e = absurd cc
    by Areal Puntal e = absurd cc
    by Areal Lineal e = absurd cc
    by Areal Areal e = refl

-- ---- rows
lines_one : (a b : List Point) → same_line a b ≡ true → a ≡ b
lines_one a b h = lists_one same_point points_one a b h

nodes_one : (a b : NodeRow) → same_node a b ≡ true → a ≡ b
nodes_one a b h =
    let q2 = and_parts _ _ h in
    let q1 = and_parts _ _ q2.0 in
    let id = eqb-true a.node_id b.node_id q1.0 in
    let face = options_one nat_eq eqb-true a.containing_face b.containing_face q1.1 in
    let at = points_one a.geom b.geom q2.1 in
    λ i. record { node_id = id i; containing_face = face i; geom = at i }

edges_one : (a b : Edge) → same_edge a b ≡ true → a ≡ b
edges_one a b h =
    let q5 = and_parts _ _ h in
    let q4 = and_parts _ _ q5.0 in
    let q3 = and_parts _ _ q4.0 in
    let q2 = and_parts _ _ q3.0 in
    let q1 = and_parts _ _ q2.0 in
    let e1 = eqb-true a.edge_id b.edge_id q1.0 in
    let e2 = eqb-true a.start_node b.start_node q1.1 in
    let e3 = eqb-true a.end_node b.end_node q2.1 in
    let e4 = eqb-true a.left_face b.left_face q3.1 in
    let e5 = eqb-true a.right_face b.right_face q4.1 in
    let e6 = lines_one a.geom b.geom q5.1 in
    λ i. record { edge_id = e1 i; start_node = e2 i; end_node = e3 i; left_face = e4 i; right_face = e5 i; geom = e6 i }

edge_rows_one : (a b : EdgeRow) → same_edge_row a b ≡ true → a ≡ b
edge_rows_one a b h =
    let q7 = and_parts _ _ h in
    let q6 = and_parts _ _ q7.0 in
    let q5 = and_parts _ _ q6.0 in
    let q4 = and_parts _ _ q5.0 in
    let q3 = and_parts _ _ q4.0 in
    let q2 = and_parts _ _ q3.0 in
    let q1 = and_parts _ _ q2.0 in
    let e1 = eqb-true a.edge_id b.edge_id q1.0 in
    let e2 = eqb-true a.start_node b.start_node q1.1 in
    let e3 = eqb-true a.end_node b.end_node q2.1 in
    let e4 = darts_one a.next_left_edge b.next_left_edge q3.1 in
    let e5 = darts_one a.next_right_edge b.next_right_edge q4.1 in
    let e6 = eqb-true a.left_face b.left_face q5.1 in
    let e7 = eqb-true a.right_face b.right_face q6.1 in
    let e8 = lines_one a.geom b.geom q7.1 in
    λ i. record { edge_id = e1 i; start_node = e2 i; end_node = e3 i; next_left_edge = e4 i; next_right_edge = e5 i; left_face = e6 i; right_face = e7 i; geom = e8 i }

layers_one : (a b : LayerRow) → same_layer a b ≡ true → a ≡ b
layers_one a b h =
    let q4 = and_parts _ _ h in
    let q3 = and_parts _ _ q4.0 in
    let q2 = and_parts _ _ q3.0 in
    let q1 = and_parts _ _ q2.0 in
    let e1 = eqb-true a.layer_id b.layer_id q1.0 in
    let e2 = eqb-true a.level b.level q1.1 in
    let e3 = options_one nat_eq eqb-true a.child_id b.child_id q2.1 in
    let e4 = kinds_one a.feature_type b.feature_type q3.1 in
    let e5 = (bytes_eq-Decides a.name b.name).0 q4.1 in
    λ i. record { layer_id = e1 i; level = e2 i; child_id = e3 i; feature_type = e4 i; name = e5 i }

features_one : (a b : FeatureRow) → same_feature a b ≡ true → a ≡ b
features_one a b h =
    let q = and_parts _ _ h in
    let e1 = eqb-true a.feature_id b.feature_id q.0 in
    let e2 = eqb-true a.layer_id b.layer_id q.1 in
    λ i. record { feature_id = e1 i; layer_id = e2 i }

relations_one : (a b : RelationRow) → same_relation a b ≡ true → a ≡ b
relations_one a b h =
    let q3 = and_parts (same_row a b) (a.layer_id == b.layer_id) h in
    let q2 = and_parts (a.topogeo_id == b.topogeo_id && a.element_type == b.element_type) (a.element_id == b.element_id) q3.0 in
    let q1 = and_parts (a.topogeo_id == b.topogeo_id) (a.element_type == b.element_type) q2.0 in
    let e1 = eqb-true a.topogeo_id b.topogeo_id q1.0 in
    let e2 = eqb-true a.layer_id b.layer_id q3.1 in
    let e3 = eqb-true a.element_id b.element_id q2.1 in
    let e4 = eqb-true a.element_type b.element_type q1.1 in
    λ i. record { topogeo_id = e1 i; layer_id = e2 i; element_id = e3 i; element_type = e4 i }

counters_one : (a b : Counters) → same_counters a b ≡ true → a ≡ b
counters_one a b h =
    let q4 = and_parts _ _ h in
    let q3 = and_parts _ _ q4.0 in
    let q2 = and_parts _ _ q3.0 in
    let q1 = and_parts _ _ q2.0 in
    let e1 = eqb-true a.node b.node q1.0 in
    let e2 = eqb-true a.edge b.edge q1.1 in
    let e3 = eqb-true a.face b.face q2.1 in
    let e4 = eqb-true a.layer b.layer q3.1 in
    let e5 = eqb-true a.feature b.feature q4.1 in
    λ i. record { node = e1 i; edge = e2 i; face = e3 i; layer = e4 i; feature = e5 i }

drawings_one : (a b : Drawing) → same_drawing a b ≡ true → a ≡ b
drawings_one a b h =
    let q6 = and_parts _ _ h in
    let q5 = and_parts _ _ q6.0 in
    let q4 = and_parts _ _ q5.0 in
    let q3 = and_parts _ _ q4.0 in
    let q2 = and_parts _ _ q3.0 in
    let q1 = and_parts _ _ q2.0 in
    let e1 = lists_one same_node nodes_one a.nodes b.nodes q1.0 in
    let e2 = lists_one same_edge edges_one a.edges b.edges q1.1 in
    let e3 = lists_one nat_eq eqb-true a.faces b.faces q2.1 in
    let e4 = lists_one same_layer layers_one a.layers b.layers q3.1 in
    let e5 = lists_one same_feature features_one a.features b.features q4.1 in
    let e6 = lists_one same_relation relations_one a.relations b.relations q5.1 in
    let e7 = counters_one a.next_ids b.next_ids q6.1 in
    λ i. record { nodes = e1 i; edges = e2 i; faces = e3 i; layers = e4 i; features = e5 i; relations = e6 i; next_ids = e7 i }

-- ---- contents
parts_one : (a b : BorderPart) → same_border_part a b ≡ true → a ≡ b
parts_one a b h =
    let q4 = and_parts _ _ h in
    let q3 = and_parts _ _ q4.0 in
    let q2 = and_parts _ _ q3.0 in
    let q1 = and_parts _ _ q2.0 in
    let e1 = darts_one a.dart b.dart q1.0 in
    let e2 = eqb-true a.from_node b.from_node q1.1 in
    let e3 = eqb-true a.to_node b.to_node q2.1 in
    let e4 = lines_one a.points b.points q3.1 in
    let e5 = darts_one a.next_dart b.next_dart q4.1 in
    λ i. record { dart = e1 i; from_node = e2 i; to_node = e3 i; points = e4 i; next_dart = e5 i }

faces_one : (a b : FaceContent) → same_face_content a b ≡ true → a ≡ b
faces_one a b h =
    let q2 = and_parts _ _ h in
    let q1 = and_parts _ _ q2.0 in
    let e1 = lists_one same_border_part parts_one a.border b.border q1.0 in
    let e2 = lists_one same_node nodes_one a.isolated b.isolated q1.1 in
    let e3 = lists_one same_feature features_one a.features b.features q2.1 in
    λ i. record { border = e1 i; isolated = e2 i; features = e3 i }

spokes_one : (a b : Spoke) → same_spoke a b ≡ true → a ≡ b
spokes_one a b h =
    let q3 = and_parts _ _ h in
    let q2 = and_parts _ _ q3.0 in
    let q1 = and_parts _ _ q2.0 in
    let e1 = darts_one a.dart b.dart q1.0 in
    let e2 = points_one a.from_point b.from_point q1.1 in
    let e3 = points_one a.to_point b.to_point q2.1 in
    let e4 = eqb-true a.face_after b.face_after q3.1 in
    λ i. record { dart = e1 i; from_point = e2 i; to_point = e3 i; face_after = e4 i }

node_contents_one : (a b : NodeContent) → same_node_content a b ≡ true → a ≡ b
node_contents_one a b h =
    let q2 = and_parts _ _ h in
    let q1 = and_parts _ _ q2.0 in
    let e1 = nodes_one a.node b.node q1.0 in
    let e2 = lists_one same_spoke spokes_one a.spokes b.spokes q1.1 in
    let e3 = lists_one same_feature features_one a.features b.features q2.1 in
    λ i. record { node = e1 i; spokes = e2 i; features = e3 i }

edge_contents_one : (a b : EdgeContent) → same_edge_content a b ≡ true → a ≡ b
edge_contents_one a b h =
    let q1 = and_parts _ _ h in
    let e1 = edge_rows_one a.edge b.edge q1.0 in
    let e2 = lists_one same_feature features_one a.features b.features q1.1 in
    λ i. record { edge = e1 i; features = e2 i }

feature_contents_one : (a b : FeatureContent) → same_feature_content a b ≡ true → a ≡ b
feature_contents_one a b h =
    let q3 = and_parts _ _ h in
    let q2 = and_parts _ _ q3.0 in
    let q1 = and_parts _ _ q2.0 in
    let e1 = features_one a.feature b.feature q1.0 in
    let e2 = options_one same_layer layers_one a.layer b.layer q1.1 in
    let e3 = lists_one same_relation relations_one a.elements b.elements q2.1 in
    let e4 = lists_one same_feature features_one a.listed_in b.listed_in q3.1 in
    λ i. record { feature = e1 i; layer = e2 i; elements = e3 i; listed_in = e4 i }

contents_one : (a b : Content) → same_content a b ≡ true → a ≡ b
contents_one (OfDrawing a) (OfDrawing b) h = ap OfDrawing (drawings_one a b h)
contents_one (OfFace a) (OfFace b) h = ap OfFace (faces_one a b h)
contents_one (OfNode a) (OfNode b) h = ap OfNode (node_contents_one a b h)
contents_one (OfEdge a) (OfEdge b) h = ap OfEdge (edge_contents_one a b h)
contents_one (OfLayer a) (OfLayer b) h = ap OfLayer (layers_one a b h)
contents_one (OfFeature a) (OfFeature b) h = ap OfFeature (feature_contents_one a b h)
contents_one _ _ h = absurd cc

-- two drawings in which the element stays
pub there_one : (a b : Option Content) → option_eq same_content a b ≡ true → a ≡ b
there_one a b h = options_one same_content contents_one a b h

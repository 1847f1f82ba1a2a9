-- Whether two contents are one.
use Rattle.std.specs.Prelude.{Bool, true, false, ◌&&◌, ◌==◌, nat_eq, List, [], ◌∷◌}
use Rattle.std.specs.Option.{option_eq}
use Rattle.std.specs.Str.{bytes_eq}
use Rattle.topo_base.specs.Darts.{same_dart}
use Rattle.topo_base.specs.Point.{Point, same_point}
use Rattle.topo_base.specs.declared.rows.NodeRow.{NodeRow}
use Rattle.topo_base.specs.declared.rows.EdgeRow.{EdgeRow}
use Rattle.topo_base.specs.declared.rows.LayerRow.{LayerRow}
use Rattle.topo_base.specs.declared.rows.FeatureRow.{FeatureRow}
use Rattle.topo_base.specs.declared.rows.RelationRow.{RelationRow}
use Rattle.topo_base.specs.declared.rows.Counters.{Counters}
use Rattle.drawing.specs.Drawing.{Drawing, Edge}
use Rattle.drawing.specs.Relations.{same_row}
use Rattle.drawing.specs.Layers.{same_kind}
use Rattle.drawing.specs.Content.{Content, OfDrawing, OfFace, OfNode, OfEdge, OfLayer, OfFeature, FaceContent, BorderPart, NodeContent, Spoke, EdgeContent, FeatureContent}

abbrev pub same_list : {X : Type 0} → (X → X → Bool) → List X → List X → Bool
same_list same [] [] = true
same_list same [] (y ∷ ys) = false
same_list same (x ∷ xs) [] = false
same_list same (x ∷ xs) (y ∷ ys) = same x y && same_list same xs ys

abbrev pub same_line : List Point → List Point → Bool
same_line a b = same_list same_point a b

abbrev pub same_node : NodeRow → NodeRow → Bool
same_node a b = a.node_id == b.node_id && option_eq nat_eq a.containing_face b.containing_face && same_point a.geom b.geom

abbrev pub same_edge : Edge → Edge → Bool
same_edge a b =
    a.edge_id == b.edge_id && a.start_node == b.start_node && a.end_node == b.end_node
    && a.left_face == b.left_face && a.right_face == b.right_face && same_line a.geom b.geom

abbrev pub same_edge_row : EdgeRow → EdgeRow → Bool
same_edge_row a b =
    a.edge_id == b.edge_id && a.start_node == b.start_node && a.end_node == b.end_node
    && same_dart a.next_left_edge b.next_left_edge && same_dart a.next_right_edge b.next_right_edge
    && a.left_face == b.left_face && a.right_face == b.right_face && same_line a.geom b.geom

abbrev pub same_layer : LayerRow → LayerRow → Bool
same_layer a b =
    a.layer_id == b.layer_id && a.level == b.level && option_eq nat_eq a.child_id b.child_id && same_kind a.feature_type b.feature_type && bytes_eq a.name b.name

abbrev pub same_feature : FeatureRow → FeatureRow → Bool
same_feature a b = a.feature_id == b.feature_id && a.layer_id == b.layer_id

abbrev pub same_relation : RelationRow → RelationRow → Bool
same_relation a b = same_row a b && a.layer_id == b.layer_id

abbrev pub same_counters : Counters → Counters → Bool
same_counters a b = a.node == b.node && a.edge == b.edge && a.face == b.face && a.layer == b.layer && a.feature == b.feature

abbrev pub same_drawing : Drawing → Drawing → Bool
same_drawing a b =
    same_list same_node a.nodes b.nodes && same_list same_edge a.edges b.edges && same_list nat_eq a.faces b.faces && same_list same_layer a.layers b.layers
    && same_list same_feature a.features b.features && same_list same_relation a.relations b.relations && same_counters a.next_ids b.next_ids

abbrev pub same_border_part : BorderPart → BorderPart → Bool
same_border_part a b =
    same_dart a.dart b.dart && a.from_node == b.from_node && a.to_node == b.to_node && same_line a.points b.points && same_dart a.next_dart b.next_dart

abbrev pub same_face_content : FaceContent → FaceContent → Bool
same_face_content a b =
    same_list same_border_part a.border b.border && same_list same_node a.isolated b.isolated && same_list same_feature a.features b.features

abbrev pub same_spoke : Spoke → Spoke → Bool
same_spoke a b = same_dart a.dart b.dart && same_point a.from_point b.from_point && same_point a.to_point b.to_point && a.face_after == b.face_after

abbrev pub same_node_content : NodeContent → NodeContent → Bool
same_node_content a b = same_node a.node b.node && same_list same_spoke a.spokes b.spokes && same_list same_feature a.features b.features

abbrev pub same_edge_content : EdgeContent → EdgeContent → Bool
same_edge_content a b = same_edge_row a.edge b.edge && same_list same_feature a.features b.features

abbrev pub same_feature_content : FeatureContent → FeatureContent → Bool
same_feature_content a b =
    same_feature a.feature b.feature && option_eq same_layer a.layer b.layer && same_list same_relation a.elements b.elements && same_list same_feature a.listed_in b.listed_in

abbrev pub same_content : Content → Content → Bool
same_content (OfDrawing a) (OfDrawing b) = same_drawing a b
same_content (OfFace a) (OfFace b) = same_face_content a b
same_content (OfNode a) (OfNode b) = same_node_content a b
same_content (OfEdge a) (OfEdge b) = same_edge_content a b
same_content (OfLayer a) (OfLayer b) = same_layer a b
same_content (OfFeature a) (OfFeature b) = same_feature_content a b
same_content _ _ = false

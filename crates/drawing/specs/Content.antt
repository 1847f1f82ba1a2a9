-- The content of an element: what an edit that reads it depends on.
use Rattle.std.specs.Prelude.{ℕ, Bool, ◌==◌, nat_eq, List, [], ◌∷◌, map, filter, Option, Some, None, option_map, if◌then◌else◌}
use Rattle.std.specs.Option.{option_eq}
use Rattle.topo_base.specs.Point.{Point}
use Rattle.topo_base.specs.declared.ids.Dart.{Dart}
use Rattle.topo_base.specs.declared.rows.NodeRow.{NodeRow}
use Rattle.topo_base.specs.declared.rows.EdgeRow.{EdgeRow}
use Rattle.topo_base.specs.declared.rows.LayerRow.{LayerRow}
use Rattle.topo_base.specs.declared.rows.FeatureRow.{FeatureRow}
use Rattle.topo_base.specs.declared.rows.RelationRow.{RelationRow}
use Rattle.topo_base.specs.declared.element.Element.{Element}
use Rattle.topo_base.specs.declared.element.Element.TheVariants.{Drawing as TheDrawing, Node, Edge as TheEdge, Face, Layer, Feature}
use Rattle.plane.specs.Line.{first_vertex}
use Rattle.drawing.specs.Drawing.{Drawing, Edge, node_at, edge_at, layer_at, feature_at, has_face}
use Rattle.drawing.specs.HalfEdge.{HalfEdge, half_edges, dart_of}
use Rattle.drawing.specs.Star.{next_of, star}
use Rattle.drawing.specs.Relations.{lists_element, lists_feature, node_type, edge_type, face_type}
use Rattle.drawing.specs.Tables.{edge_row}

-- the features that list an element, each with its layer
abbrev pub listing : (RelationRow → Bool) → Drawing → List FeatureRow
listing lists S = map (λ (r : RelationRow). record { feature_id = r.topogeo_id; layer_id = r.layer_id }) (filter lists S.relations)

-- a half-edge on the border of a face, without the face on its other side
pub record BorderPart : Type 0 where
  pub dart : Dart
  pub from_node : ℕ
  pub to_node : ℕ
  pub points : List Point
  pub next_dart : Dart

abbrev pub border_part : List HalfEdge → HalfEdge → BorderPart
border_part hs h =
    record { dart = dart_of h; from_node = h.from_node; to_node = h.to_node; points = h.points; next_dart = dart_of (next_of hs h) }

pub record FaceContent : Type 0 where
  pub border : List BorderPart
  pub isolated : List NodeRow
  pub features : List FeatureRow

abbrev pub face_content : Drawing → ℕ → FaceContent
face_content S f =
    let hs = half_edges S in
    record {
      border = map (border_part hs) (filter (λ (h : HalfEdge). h.on_left == f) hs);
      isolated = filter (λ (n : NodeRow). option_eq nat_eq n.containing_face (Some f)) S.nodes;
      features = listing (lists_element S face_type f) S;
    }

-- a half-edge that leaves a node: its first segment, and the face that follows it clockwise
pub record Spoke : Type 0 where
  pub dart : Dart
  pub from_point : Point
  pub to_point : Point
  pub face_after : ℕ

abbrev pub second_vertex : List Point → Point
second_vertex [] = first_vertex []
second_vertex (p ∷ ps) = first_vertex ps

abbrev pub spoke : HalfEdge → Spoke
spoke h = record { dart = dart_of h; from_point = first_vertex h.points; to_point = second_vertex h.points; face_after = h.on_right }

pub record NodeContent : Type 0 where
  pub node : NodeRow
  pub spokes : List Spoke
  pub features : List FeatureRow

abbrev pub node_content : Drawing → NodeRow → NodeContent
node_content S n = record { node = n; spokes = map spoke (star (half_edges S) n.node_id); features = listing (lists_element S node_type n.node_id) S }

pub record EdgeContent : Type 0 where
  pub edge : EdgeRow
  pub features : List FeatureRow

abbrev pub edge_content : Drawing → Edge → EdgeContent
edge_content S e = record { edge = edge_row (half_edges S) e; features = listing (lists_element S edge_type e.edge_id) S }

pub record FeatureContent : Type 0 where
  pub feature : FeatureRow
  pub layer : Option LayerRow
  pub elements : List RelationRow
  pub listed_in : List FeatureRow

abbrev pub feature_content : Drawing → FeatureRow → FeatureContent
feature_content S t =
    record {
      feature = t;
      layer = layer_at S t.layer_id;
      elements = filter (λ (r : RelationRow). r.topogeo_id == t.feature_id) S.relations;
      listed_in = listing (lists_feature S t.feature_id) S;
    }

pub data Content : Type 0 where
  OfDrawing : Drawing → Content
  OfFace : FaceContent → Content
  OfNode : NodeContent → Content
  OfEdge : EdgeContent → Content
  OfLayer : LayerRow → Content
  OfFeature : FeatureContent → Content

abbrev pub if_there : Bool → Content → Option Content
if_there b c = if b then Some c else None

-- the content of an element that is there
abbrev pub content_of : Drawing → Element → Option Content
content_of S TheDrawing = Some (OfDrawing S)
content_of S (Node n) = option_map (λ row. OfNode (node_content S row)) (node_at S n)
content_of S (TheEdge e) = option_map (λ row. OfEdge (edge_content S row)) (edge_at S e)
content_of S (Face f) = if_there (has_face S f) (OfFace (face_content S f))
content_of S (Layer l) = option_map OfLayer (layer_at S l)
content_of S (Feature t) = option_map (λ row. OfFeature (feature_content S row)) (feature_at S t)

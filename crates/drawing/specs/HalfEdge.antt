-- An edge walked in one of its two directions.
use Rattle.std.specs.Prelude.{ℕ, Bool, true, false, not, ◌&&◌, ◌||◌, ◌==◌, List, [], ◌∷◌, reverse, flat_map, nat_lt}
use Rattle.topo_base.specs.Darts.{same_way}
use Rattle.topo_base.specs.Point.{Point}
use Rattle.topo_base.specs.declared.ids.Dart.{Dart}
use Rattle.drawing.specs.Drawing.{Drawing, Edge}

pub record HalfEdge : Type 0 where
  pub edge_id : ℕ
  pub is_forward : Bool
  pub from_node : ℕ
  pub to_node : ℕ
  pub on_left : ℕ
  pub on_right : ℕ
  pub points : List Point

-- the two half-edges of an edge
abbrev pub forward_of : Edge → HalfEdge
forward_of e =
    record { edge_id = e.edge_id; is_forward = true; from_node = e.start_node; to_node = e.end_node; on_left = e.left_face; on_right = e.right_face; points = e.geom }

abbrev pub backward_of : Edge → HalfEdge
backward_of e =
    record { edge_id = e.edge_id; is_forward = false; from_node = e.end_node; to_node = e.start_node; on_left = e.right_face; on_right = e.left_face; points = reverse e.geom }

-- the same edge, walked back
abbrev pub twin : HalfEdge → HalfEdge
twin h =
    record { edge_id = h.edge_id; is_forward = not h.is_forward; from_node = h.to_node; to_node = h.from_node; on_left = h.on_right; on_right = h.on_left; points = reverse h.points }

-- all of a drawing: by edge, forward before backward
abbrev pub both_ways : Edge → List HalfEdge
both_ways e = forward_of e ∷ backward_of e ∷ []

abbrev pub half_edges : Drawing → List HalfEdge
half_edges S = flat_map both_ways S.edges

-- those that leave the node
abbrev pub leaves : ℕ → HalfEdge → Bool
leaves n h = h.from_node == n

-- the same half-edge; the one that comes first
abbrev pub same_half_edge : HalfEdge → HalfEdge → Bool
same_half_edge h k = h.edge_id == k.edge_id && same_way h.is_forward k.is_forward

abbrev pub comes_before : HalfEdge → HalfEdge → Bool
comes_before h k = nat_lt h.edge_id k.edge_id || h.edge_id == k.edge_id && h.is_forward && not k.is_forward

-- its name in the tables
abbrev pub dart_of : HalfEdge → Dart
dart_of h = record { edge = h.edge_id; forward = h.is_forward }

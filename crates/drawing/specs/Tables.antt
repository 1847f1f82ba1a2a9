-- The tables of a drawing: its rows with links and boxes.
use Rattle.std.specs.Prelude.{ℕ, Bool, ◌||◌, ◌==◌, List, [], ◌∷◌, map, filter, flat_map, fold, Option, Some, None, if◌then◌else◌}
use Rattle.std.specs.Int.{int_min, int_max}
use Rattle.topo_base.specs.Point.{Point}
use Rattle.topo_base.specs.declared.rows.NodeRow.{NodeRow}
use Rattle.topo_base.specs.declared.rows.EdgeRow.{EdgeRow}
use Rattle.topo_base.specs.declared.rows.FaceRow.{FaceRow}
use Rattle.topo_base.specs.declared.rows.Box4.{Box4}
use Rattle.topo_base.specs.declared.rows.LayerRow.{LayerRow}
use Rattle.topo_base.specs.declared.rows.FeatureRow.{FeatureRow}
use Rattle.topo_base.specs.declared.rows.RelationRow.{RelationRow}
use Rattle.topo_base.specs.declared.rows.Counters.{Counters}
use Rattle.drawing.specs.Drawing.{Drawing, Edge}
use Rattle.drawing.specs.HalfEdge.{HalfEdge, half_edges, forward_of, backward_of, dart_of}
use Rattle.drawing.specs.Star.{next_of}

-- the rows as a dump has them
pub record Tables : Type 0 where
  pub next_ids : Counters
  pub nodes : List NodeRow
  pub edges : List EdgeRow
  pub faces : List FaceRow
  pub layers : List LayerRow
  pub features : List FeatureRow
  pub relations : List RelationRow

-- an edge with its links: next_left_edge is what follows the edge, next_right_edge what follows it walked back
abbrev pub edge_row : List HalfEdge → Edge → EdgeRow
edge_row hs e =
    record {
      edge_id = e.edge_id;
      start_node = e.start_node;
      end_node = e.end_node;
      next_left_edge = dart_of (next_of hs (forward_of e));
      next_right_edge = dart_of (next_of hs (backward_of e));
      left_face = e.left_face;
      right_face = e.right_face;
      geom = e.geom;
    }

-- the least box of some vertices
abbrev pub box_at : Point → Box4
box_at p = record { min_x = p.x; min_y = p.y; max_x = p.x; max_y = p.y }

abbrev pub wider : Box4 → Point → Box4
wider b p = record { min_x = int_min b.min_x p.x; min_y = int_min b.min_y p.y; max_x = int_max b.max_x p.x; max_y = int_max b.max_y p.y }

abbrev pub least_box : List Point → Option Box4
least_box [] = None
least_box (p ∷ ps) = Some (fold wider (box_at p) ps)

-- the box of a face: of all vertices of the edges that have it on a side; face 0 has none
abbrev pub has_side : ℕ → Edge → Bool
has_side f e = e.left_face == f || e.right_face == f

abbrev pub face_box : Drawing → ℕ → Option Box4
face_box S f = if f == 0 then None else least_box (flat_map (λ (e : Edge). e.geom) (filter (has_side f) S.edges))

abbrev pub face_row : Drawing → ℕ → FaceRow
face_row S f = record { face_id = f; mbr = face_box S f }

-- face 0 as a row
abbrev pub universal_face : FaceRow
universal_face = record { face_id = 0; mbr = None }

abbrev pub tables_of : Drawing → Tables
tables_of S =
    record {
      next_ids = S.next_ids;
      nodes = S.nodes;
      edges = map (edge_row (half_edges S)) S.edges;
      faces = map (face_row S) S.faces;
      layers = S.layers;
      features = S.features;
      relations = S.relations;
    }

-- and back: what the tables stand for, whatever their links and boxes
abbrev pub drawn_edge : EdgeRow → Edge
drawn_edge e =
    record { edge_id = e.edge_id; start_node = e.start_node; end_node = e.end_node; left_face = e.left_face; right_face = e.right_face; geom = e.geom }

abbrev pub drawn : Tables → Drawing
drawn t =
    record {
      nodes = t.nodes;
      edges = map drawn_edge t.edges;
      faces = map (λ (f : FaceRow). f.face_id) t.faces;
      layers = t.layers;
      features = t.features;
      relations = t.relations;
      next_ids = t.next_ids;
    }

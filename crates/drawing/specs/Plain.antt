-- A plain drawing: edges meet at nodes alone.
use Rattle.std.specs.Prelude.{◌≢◌, ℕ, Bool, true, not, ◌&&◌, ◌==◌, IsTrue, List, [], ◌∷◌, Contains}
use Rattle.std.specs.List.{list_all, list_any}
use Rattle.topo_base.specs.Point.{Point, same_point}
use Rattle.topo_base.specs.RationalPoint.{RationalPoint, rational, IsAt}
use Rattle.topo_base.specs.declared.rows.NodeRow.{NodeRow}
use Rattle.plane.specs.Line.{segments_of, first_vertex, last_vertex, is_proper}
use Rattle.drawing.specs.Drawing.{Drawing, Edge, is_end_of}
use Rattle.drawing.specs.DrawnPoints.{IsOnEdge}
use Rattle.plane.specs.SimpleLine.{IsSimpleLine}

-- the points of two nodes differ
abbrev pub nodes_differ : List NodeRow → Bool
nodes_differ [] = true
nodes_differ (n ∷ ns) = not (list_any (λ (m : NodeRow). same_point m.geom n.geom) ns) && nodes_differ ns

-- the node with this id has this point
abbrev pub has_point : Drawing → ℕ → Point → Bool
has_point S n p = list_any (λ (row : NodeRow). row.node_id == n && same_point row.geom p) S.nodes

-- neighbouring vertices differ, and the ends are at the end nodes
abbrev pub is_between_nodes : Drawing → Edge → Bool
is_between_nodes S e =
    list_all is_proper (segments_of e.geom) && has_point S e.start_node (first_vertex e.geom) && has_point S e.end_node (last_vertex e.geom)

pub record IsPlain (S : Drawing) : Type 0 where
  pub nodes_apart : IsTrue (nodes_differ S.nodes)
  pub lines_fit : IsTrue (list_all (is_between_nodes S) S.edges)
  pub lines_simple : (e : Edge) → Contains S.edges e → IsSimpleLine (segments_of e.geom)
  -- a point on two edges is that of a node that is an end of both
  pub edges_meet_at_nodes : (e f : Edge) (q : RationalPoint) → Contains S.edges e → Contains S.edges f → e.edge_id ≢ f.edge_id → IsOnEdge q e → IsOnEdge q f
      → (n : NodeRow) × (Contains S.nodes n × IsAt n.geom q × IsTrue (is_end_of n.node_id e && is_end_of n.node_id f))
  -- a node's point on an edge is that of one of its ends
  pub nodes_off_edges : (n : NodeRow) (e : Edge) → Contains S.nodes n → Contains S.edges e → IsOnEdge (rational n.geom) e → IsTrue (is_end_of n.node_id e)

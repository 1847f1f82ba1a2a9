-- A drawing from which an edge went, as rows have it, and the rows once sides and containing faces follow.
use Rattle.std.specs.Prelude.{◌≡◌, ℕ, IsTrue, List, map, flat_map}
use Rattle.drawing.specs.Drawing.{Drawing, Edge}
use Rattle.drawing.specs.HalfEdge.{both_ways}
use Rattle.drawing.specs.RemoveEdge.{renamed_edge, renamed_node}
use Rattle.drawing.specs.Subdivision.{ids_in_order}
use Rattle.drawing.specs.Tables.{Tables, edge_row}
use Rattle.edge_links.specs.UnlinksLaw.{dropped_rows, edge_gone}
use Rattle.face_merge.specs.declared.removed.Removed.{Removed}
use Rattle.face_merge.specs.Sides.{removed_of}

-- tables with the nodes of the drawing and the other edges
pub record HasRest (S : Drawing) (e : Edge) (t : Tables) : Type 0 where
  pub edges : t.edges ≡ (dropped_rows S e.edge_id).edges
  pub nodes : t.nodes ≡ S.nodes

-- the ids of the drawing ascend, and the tables are those without the edge, of which these are the ends and the sides
pub record IsLess (S : Drawing) (e : Edge) (r : Removed) (t : Tables) : Type 0 where
  pub ids : IsTrue (ids_in_order S)
  pub edge : r ≡ removed_of e
  pub rows : HasRest S e t

-- the edges with the face that is kept on their sides, and the tables with their rows and those of the nodes
abbrev pub renamed_edges : Drawing → Edge → List ℕ → ℕ → List Edge
renamed_edges S e gone kept = map (renamed_edge gone kept) (edge_gone S e.edge_id).edges

abbrev pub with_renamed : Tables → Drawing → Edge → List ℕ → ℕ → Tables
with_renamed t S e gone kept =
    let U = renamed_edges S e gone kept in
    record t { nodes = map (renamed_node (edge_gone S e.edge_id) e gone kept) S.nodes; edges = map (edge_row (flat_map both_ways U)) U }

-- The lines of a report on nodes with and without edges, and on links.
use Rattle.std.specs.Prelude.{◌≡◌, ℕ, Bool, not, ◌&&◌, List, [], ◌++◌, flat_map, Option, Some, None, is_none}
use Rattle.std.specs.List.{list_any}
use Rattle.topo_base.specs.Darts.{same_dart}
use Rattle.topo_base.specs.declared.ids.Dart.{Dart}
use Rattle.topo_base.specs.declared.rows.EdgeRow.{EdgeRow}
use Rattle.topo_base.specs.declared.rows.NodeRow.{NodeRow}
use Rattle.drawing.specs.Drawing.{Edge, is_end_of}
use Rattle.drawing.specs.HalfEdge.{HalfEdge, half_edges}
use Rattle.drawing.specs.Tables.{Tables, drawn, drawn_edge, edge_row}
use Rattle.validate_topology.specs.OnlyIf.{only_if}
use Rattle.validate_topology.specs.declared.lines.ReportLine.{ReportLine}
use Rattle.validate_topology.specs.declared.lines.ReportLine.TheVariants.{NodeJoinedWithFace, NodeIsolatedWithoutFace, NextLeftWrong, NextRightWrong}

-- the node is an end of one of these edges
abbrev pub has_edge : List Edge → ℕ → Bool
has_edge edges n = list_any (is_end_of n) edges

-- nodes with an edge and a containing face
abbrev pub joined_with_face : Bool → ℕ → Option ℕ → List ReportLine
joined_with_face joined n None = []
joined_with_face joined n (Some f) = only_if joined (NodeJoinedWithFace n f)

abbrev pub nodes_joined : (ℕ → Bool) → List NodeRow → List ReportLine
nodes_joined joined rows = flat_map (λ (n : NodeRow). joined_with_face (joined n.node_id) n.node_id n.containing_face) rows

-- nodes with neither
abbrev pub isolated_without_face : Bool → ℕ → Option ℕ → List ReportLine
isolated_without_face joined n face = only_if (is_none face && not joined) (NodeIsolatedWithoutFace n)

abbrev pub nodes_isolated : (ℕ → Bool) → List NodeRow → List ReportLine
nodes_isolated joined rows = flat_map (λ (n : NodeRow). isolated_without_face (joined n.node_id) n.node_id n.containing_face) rows

-- edges whose link isn't that of the definition, which is told
abbrev pub left_wrong : ℕ → Dart → Dart → List ReportLine
left_wrong e link next = only_if (not (same_dart link next)) (NextLeftWrong e next)

abbrev pub lefts_wrong : List HalfEdge → List EdgeRow → List ReportLine
lefts_wrong hs rows = flat_map (λ (e : EdgeRow). left_wrong e.edge_id e.next_left_edge (edge_row hs (drawn_edge e)).next_left_edge) rows

abbrev pub right_wrong : ℕ → Dart → Dart → List ReportLine
right_wrong e link next = only_if (not (same_dart link next)) (NextRightWrong e next)

abbrev pub rights_wrong : List HalfEdge → List EdgeRow → List ReportLine
rights_wrong hs rows = flat_map (λ (e : EdgeRow). right_wrong e.edge_id e.next_right_edge (edge_row hs (drawn_edge e)).next_right_edge) rows

-- the lines of the third stage: those on nodes, and then those on links
abbrev pub HasLinkLines : Tables → List ReportLine → Type 0
HasLinkLines t lines =
    lines ≡ nodes_joined (has_edge ((drawn t).edges)) t.nodes ++ nodes_isolated (has_edge ((drawn t).edges)) t.nodes ++ lefts_wrong (half_edges (drawn t)) t.edges ++ rights_wrong (half_edges (drawn t)) t.edges

-- The lines of a report on points and lines.
use Rattle.std.specs.Prelude.{◌≡◌, Bool, false, not, ℕ, List, ◌++◌, map, flat_map, Option, Some, None}
use Rattle.topo_base.specs.Point.{Point, same_point}
use Rattle.topo_base.specs.declared.rows.NodeRow.{NodeRow}
use Rattle.topo_base.specs.declared.rows.EdgeRow.{EdgeRow}
use Rattle.plane.specs.Line.{first_vertex, last_vertex, is_simple}
use Rattle.drawing.specs.Rows.{row_at}
use Rattle.drawing.specs.Drawing.{node_id_of}
use Rattle.drawing.specs.Tables.{Tables}
use Rattle.validate_topology.specs.OnlyIf.{only_if}
use Rattle.validate_topology.specs.Conflicts.{AreCoincident, AreCrossing, IsNodeInside}
use Rattle.validate_topology.specs.Pairs.{AreAllOf}
use Rattle.validate_topology.specs.declared.pairs.IdPair.{IdPair}
use Rattle.validate_topology.specs.declared.lines.ReportLine.{ReportLine}
use Rattle.validate_topology.specs.declared.lines.ReportLine.TheVariants.{CoincidentNodes, EdgeStartMismatch, EdgeEndMismatch, EdgeNotSimple, EdgeCrossesNode, EdgeCrossesEdge}

-- a listed node has this point
abbrev pub is_at : Point → Option NodeRow → Bool
is_at p None = false
is_at p (Some n) = same_point n.geom p

abbrev pub has_point : List NodeRow → ℕ → Point → Bool
has_point nodes n p = is_at p (row_at node_id_of nodes n)

-- edges whose first or last vertex isn't the point of their start or end node
abbrev pub starts_mismatched : List NodeRow → List EdgeRow → List ReportLine
starts_mismatched nodes rows = flat_map (λ (e : EdgeRow). only_if (not (has_point nodes e.start_node (first_vertex e.geom))) (EdgeStartMismatch e.edge_id e.start_node)) rows

abbrev pub ends_mismatched : List NodeRow → List EdgeRow → List ReportLine
ends_mismatched nodes rows = flat_map (λ (e : EdgeRow). only_if (not (has_point nodes e.end_node (last_vertex e.geom))) (EdgeEndMismatch e.edge_id e.end_node)) rows

-- edges whose line isn't simple
abbrev pub not_simple : List EdgeRow → List ReportLine
not_simple rows = flat_map (λ (e : EdgeRow). only_if (not (is_simple e.geom)) (EdgeNotSimple e.edge_id)) rows

-- pairs of rows that are in each other's way, as lines
abbrev pub coincident : IdPair → ReportLine
coincident p = CoincidentNodes p.first p.second

abbrev pub crossed_node : IdPair → ReportLine
crossed_node p = EdgeCrossesNode p.first p.second

abbrev pub crossed_edge : IdPair → ReportLine
crossed_edge p = EdgeCrossesEdge p.first p.second

-- the lines of the second stage, each kind in order and each line once
pub record HasPlainLines (t : Tables) (lines : List ReportLine) : Type 0 where
  pub nodes : List IdPair
  pub nodes_are : AreAllOf (AreCoincident t.nodes) nodes
  pub inside : List IdPair
  pub inside_are : AreAllOf (IsNodeInside t.nodes t.edges) inside
  pub edges : List IdPair
  pub edges_are : AreAllOf (AreCrossing t.edges) edges
  pub all : lines ≡ map coincident nodes ++ (starts_mismatched t.nodes t.edges ++ ends_mismatched t.nodes t.edges ++ not_simple t.edges) ++ map crossed_node inside ++ map crossed_edge edges

-- A face of a drawing that an edge divides, as rows have it, and the tables after the division.
use Rattle.std.specs.Prelude.{◌≡◌, List, flat_map, map}
use Rattle.topo_base.specs.Point.{Point}
use Rattle.drawing.specs.AddEdge.{Division, divided_edge, divided_node}
use Rattle.drawing.specs.Drawing.{Drawing, Edge}
use Rattle.drawing.specs.HalfEdge.{both_ways, half_edges}
use Rattle.plane.specs.ClosedWalk.{closed_segments}
use Rattle.drawing.specs.Ring.{ring_segments}
use Rattle.drawing.specs.Tables.{Tables, edge_row, tables_of}
use Rattle.face_rings.specs.declared.content.BorderDart.{BorderDart}
use Rattle.face_rings.specs.FaceBorder.{HasRings, face_border}
use Rattle.ring_laws.specs.Parts.{IsDividedBy}
use Rattle.face_parts.specs.declared.parts.FaceParts.{FaceParts}

-- tables with the nodes and the edges of the drawing
pub record HasRows (T : Drawing) (t : Tables) : Type 0 where
  pub edges : t.edges ≡ (tables_of T).edges
  pub nodes : t.nodes ≡ T.nodes

-- the edge divides the face in the drawing, whose rings have one face each; and the parts, the walk, the tables and the border are of this division
pub record IsDividedFace (T : Drawing) (e : Edge) (d : Division) (parts : FaceParts) (walk : List Point) (t : Tables) (border : List BorderDart) : Type 0 where
  pub rings : HasRings T
  pub divided : IsDividedBy T e d
  pub face : parts.face ≡ d.face
  pub edge : parts.edge ≡ e.edge_id
  pub left_part : parts.left_part ≡ d.left_part
  pub right_part : parts.right_part ≡ d.right_part
  pub cut : closed_segments walk ≡ ring_segments d.left_ring
  pub rows : HasRows T t
  pub content : border ≡ face_border (half_edges T) d.face

-- the edges with the parts on their sides, and the tables with the rows of these and of the nodes in their parts
abbrev pub sided : Drawing → Division → List Edge
sided T d = map (divided_edge d (half_edges T)) T.edges

abbrev pub with_division : Tables → Drawing → Division → Tables
with_division t T d = record t { nodes = map (divided_node d) T.nodes; edges = map (edge_row (flat_map both_ways (sided T d))) (sided T d) }

-- The vertices of a closed walk along darts.
use Rattle.std.specs.Prelude.{◌≡◌, Bool, true, false, List, [], ◌∷◌, map, flat_map, reverse, Option, Some, None}
use Rattle.std.specs.List.{Contains, list_all}
use Rattle.topo_base.specs.Point.{Point}
use Rattle.topo_base.specs.declared.ids.Dart.{Dart}
use Rattle.topo_base.specs.declared.rows.EdgeRow.{EdgeRow}
use Rattle.drawing.specs.Drawing.{Drawing}
use Rattle.drawing.specs.HalfEdge.{HalfEdge, half_edges, dart_of}
use Rattle.drawing.specs.Ring.{ring_of}
use Rattle.drawing.specs.Rows.{row_at, has_row}
use Rattle.drawing.specs.Tables.{tables_of}
use Rattle.drawing.specs.Writes.{edge_row_id}
use Rattle.face_rings.specs.FaceBorder.{HasRings}

-- all vertices but the last
abbrev pub without_last : List Point → List Point
without_last [] = []
without_last (p ∷ []) = []
without_last (p ∷ q ∷ ps) = p ∷ without_last (q ∷ ps)

-- a line as it is walked: forward, or back
abbrev pub walked : Bool → List Point → List Point
walked true line = line
walked false line = reverse line

-- the line of a dart as the dart is walked; none where its edge is not there
abbrev pub walked_row : Bool → Option EdgeRow → List Point
walked_row forward None = []
walked_row forward (Some row) = walked forward row.geom

abbrev pub line_along : List EdgeRow → Dart → List Point
line_along edges d = walked_row d.forward (row_at edge_row_id edges d.edge)

-- the vertices of the lines of some darts as they are walked, of each all but the last, where the next one begins
abbrev pub path_part : List EdgeRow → Dart → List Point
path_part edges d = without_last (line_along edges d)

abbrev pub path_of : List EdgeRow → List Dart → List Point
path_of edges darts = flat_map (path_part edges) darts

-- the edge of each dart is there
abbrev pub are_edges : List EdgeRow → List Dart → Bool
are_edges edges darts = list_all (λ (d : Dart). has_row edge_row_id edges d.edge) darts

-- the rows are those of the edges of a drawing whose rings have one face each, and the darts those of the ring of one of its half-edges
pub record IsRingOf (rows : List EdgeRow) (ring : List Dart) (T : Drawing) (h : HalfEdge) : Type 0 where
  pub edges : rows ≡ (tables_of T).edges
  pub rings : HasRings T
  pub there : Contains (half_edges T) h
  pub darts : ring ≡ map dart_of (ring_of (half_edges T) h)

-- The face of a point, told by an index of the segments of a table's edges.
use Rattle.std.specs.Prelude.{◌≡◌, ℕ, Bool, List, [], Option, Some, None, IsTrue, if◌then◌else◌}
use Rattle.topo_base.specs.Point.{Point}
use Rattle.topo_base.specs.declared.ids.Dart.{Dart}
use Rattle.topo_base.specs.declared.rows.EdgeRow.{EdgeRow}
use Rattle.drawing.specs.Faces.{face_at}
use Rattle.drawing.specs.Rows.{row_at, has_row}
use Rattle.drawing.specs.Subdivision.{IsSubdivision}
use Rattle.drawing.specs.Tables.{Tables, drawn}
use Rattle.drawing.specs.Writes.{edge_row_id}
use Rattle.face_laws.specs.Covered.{IsCovered}
use Rattle.covered_laws.specs.Definition.{IsOfRows}
use Rattle.slab_index.specs.declared.piece.Piece.{Piece}
use Rattle.slab_index.specs.Above.{IsDartAbove}
use Rattle.slab_index.specs.Pieces.{pieces_of_all, AreTogether}

-- an index keeps the segments of these edges, each as often as they have it, and no others
abbrev pub KeepsEdges : List Piece → List EdgeRow → Type 0
KeepsEdges kept rows = AreTogether kept (pieces_of_all rows) []

-- the face on the left of an edge's row, walked in this direction
abbrev pub left_of_row : Bool → Option EdgeRow → ℕ
left_of_row forward None = 0
left_of_row forward (Some row) = if forward then row.left_face else row.right_face

-- the face on the left of a dart of these edges, and face 0 for none
abbrev pub face_left_of : List EdgeRow → Option Dart → ℕ
face_left_of rows None = 0
face_left_of rows (Some d) = left_of_row d.forward (row_at edge_row_id rows d.edge)

-- of tables and an index of exactly their edges
pub record FacesAreFound : Type 0 where
  -- the face of a point is that on the left of the dart which the index finds, where faces lie where their borders say
  pub face : (t : Tables) (p : Point) (kept : List Piece) (found : Option Dart) → IsCovered (drawn t) → KeepsEdges kept t.edges → IsDartAbove p kept found → face_at (drawn t) p ≡ face_left_of t.edges found
  -- and so in each planar subdivision
  pub defined : (t : Tables) (p : Point) (kept : List Piece) (found : Option Dart) → IsOfRows (drawn t) → IsSubdivision (drawn t) → KeepsEdges kept t.edges → IsDartAbove p kept found
      → face_at (drawn t) p ≡ face_left_of t.edges found
  -- the dart's edge is there
  pub there : (t : Tables) (p : Point) (kept : List Piece) (d : Dart) → KeepsEdges kept t.edges → IsDartAbove p kept (Some d) → IsTrue (has_row edge_row_id t.edges d.edge)

-- The face above a point: what is on the lower side of the first segment straight above it.
use Rattle.std.specs.Prelude.{◌≡◌, ℕ, Bool, List, Option, Some, None, if◌then◌else◌}
use Rattle.topo_base.specs.Point.{Point}
use Rattle.topo_base.specs.declared.ids.Dart.{Dart}
use Rattle.topo_base.specs.declared.rows.EdgeRow.{EdgeRow}
use Rattle.drawing.specs.Rows.{row_at}
use Rattle.slab_index.specs.Above.{IsDartAbove}
use Rattle.slab_index.specs.Pieces.{pieces_of_all}

-- the face on the left of a dart of these edges, and face 0 where there is none
abbrev pub left_side : Bool → Option EdgeRow → ℕ
left_side forward None = 0
left_side forward (Some e) = if forward then e.left_face else e.right_face

abbrev pub face_left_of : List EdgeRow → Option Dart → ℕ
face_left_of rows None = 0
face_left_of rows (Some d) = left_side d.forward (row_at (λ (e : EdgeRow). e.edge_id) rows d.edge)

-- the face is on the left of the first dart straight above p, with p on its left, or is face 0 where no segment is over p
pub record IsFaceAbove (rows : List EdgeRow) (p : Point) (f : ℕ) : Type 0 where
  pub first : Option Dart
  pub above : IsDartAbove p (pieces_of_all rows) first
  pub face : f ≡ face_left_of rows first

-- the function has the face above each point, if that is one
abbrev pub TellsFaces : List EdgeRow → (Point → ℕ) → Type 0
TellsFaces rows above = (p : Point) (f : ℕ) → IsFaceAbove rows p f → f ≡ above p

-- The boxes of faces where an edge comes or goes, and the row writes that set them.
use Rattle.std.specs.Prelude.{ℕ, ◌==◌, List, [], ◌∷◌, Option, None, if◌then◌else◌}
use Rattle.topo_base.specs.Point.{Point}
use Rattle.topo_base.specs.declared.rows.Box4.{Box4}
use Rattle.topo_base.specs.declared.write.RowId.TheVariants.{Old}
use Rattle.topo_base.specs.declared.write.RowWrite.{RowWrite}
use Rattle.topo_base.specs.declared.write.RowWrite.TheVariants.{SetBox}
use Rattle.drawing.specs.Drawing.{Drawing, edge_id_of}
use Rattle.drawing.specs.Rows.{without_row}
use Rattle.drawing.specs.Tables.{face_box}
use Rattle.drawing_queries.specs.Extent.{grown}

-- the drawing without an edge
abbrev pub without : ℕ → Drawing → Drawing
without e S = record S { edges = without_row edge_id_of S.edges e }

-- the box of a face with a line more beside it; face 0 has none
abbrev pub box_with : List Point → Drawing → ℕ → Option Box4
box_with line S f = if f == 0 then None else grown (face_box S f) line

-- the write of a face's box; face 0 has none
abbrev pub box_write : ℕ → Option Box4 → List RowWrite
box_write f bounds = if f == 0 then [] else SetBox (Old f) bounds ∷ []

-- the write of the right face's box, where it is another than the left one
abbrev pub other_write : ℕ → ℕ → Option Box4 → List RowWrite
other_write left right bounds = if left == right then [] else box_write right bounds

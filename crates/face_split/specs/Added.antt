-- The row writes of an edge that comes, and the rows that they leave.
use Rattle.std.specs.Prelude.{ℕ, Bool, true, false, List, [], ◌∷◌, ◌++◌, map, None, if◌then◌else◌}
use Rattle.topo_base.specs.Point.{Point}
use Rattle.topo_base.specs.declared.ids.Dart.{Dart}
use Rattle.topo_base.specs.declared.rows.NodeRow.{NodeRow}
use Rattle.topo_base.specs.declared.write.RowDart.{RowDart}
use Rattle.topo_base.specs.declared.write.RowId.TheVariants.{Old}
use Rattle.topo_base.specs.declared.write.RowWrite.{RowWrite}
use Rattle.topo_base.specs.declared.write.RowWrite.TheVariants.{SetContaining}
use Rattle.drawing.specs.Drawing.{Drawing}
use Rattle.drawing.specs.IsoEdits.{with_edge}
use Rattle.drawing.specs.Tables.{Tables, tables_of, face_row}
use Rattle.edge_links.specs.Links.{links_round}
use Rattle.edge_links.specs.LinksLaw.{rays_at, row_write, link_writes_of}

-- a dart of the edge of this id
abbrev pub own_dart : ℕ → Bool → RowDart
own_dart edge forward = record { edge = Old edge; forward = forward }

-- the node from which a dart of an edge leaves
abbrev pub from_node : Bool → ℕ → ℕ → ℕ
from_node forward start end = if forward then start else end

-- the links round a dart of the edge that comes into S, where T is the drawing with it
abbrev pub links_at : Drawing → ℕ → Bool → ℕ → ℕ → List RowWrite
links_at T edge forward start end = let d : Dart = record { edge = edge; forward = forward } in links_round d (rays_at T (from_node forward start end)).darts

-- its row, the links at its nodes, and its nodes, which are isolated no more
abbrev pub added_writes : Drawing → NodeRow → NodeRow → List Point → ℕ → List RowWrite
added_writes S a b line f =
    row_write S a b line f (own_dart S.next_ids.edge false) (own_dart S.next_ids.edge true)
    ∷ (link_writes_of S (with_edge S a b line f) a b ++ SetContaining (Old b.node_id) None ∷ SetContaining (Old a.node_id) None ∷ [])

-- the tables with the edge, where boxes are still as they were
abbrev pub added_rows : Drawing → NodeRow → NodeRow → List Point → ℕ → Tables
added_rows S a b line f = record (tables_of (with_edge S a b line f)) { faces = map (face_row S) S.faces }

-- The row writes by which an edge is split.
use Rattle.std.specs.Prelude.{ℕ, Bool, true, false, List, [], ◌∷◌, ◌++◌, None}
use Rattle.topo_base.specs.Point.{Point}
use Rattle.topo_base.specs.declared.rows.EdgeRow.{EdgeRow}
use Rattle.topo_base.specs.declared.write.Hand.TheVariants.{Left, Right}
use Rattle.topo_base.specs.declared.write.RowId.TheVariants.{Old}
use Rattle.topo_base.specs.declared.write.RowDart.{RowDart}
use Rattle.topo_base.specs.declared.write.RowWrite.{RowWrite}
use Rattle.topo_base.specs.declared.write.RowWrite.TheVariants.{AddNode, AddEdge, SetLine, SetNext, DropEdge}
use Rattle.plane.specs.Line.{line_up_to, line_from}
use Rattle.edge_links.specs.Links.{row_dart}
use Rattle.edge_split.specs.Relinks.{all_relinks}
use Rattle.edge_split.specs.Renamed.{renamed}

-- a dart as a write names it
abbrev pub dart_named : ℕ → Bool → RowDart
dart_named edge forward = record { edge = Old edge; forward = forward }

-- the node at p comes, and the second part, which goes on from it as the edge of the row did
abbrev pub second_write : EdgeRow → Point → ℕ → ℕ → ℕ → RowWrite
second_write r p node first second =
    AddEdge (Old second) (Old node) (Old r.end_node) (row_dart (renamed r.edge_id first second r.next_left_edge)) (dart_named first false) (Old r.left_face) (Old r.right_face) (line_from p r.geom)

-- modedgesplit: the edge becomes its first part
abbrev pub mod_writes : List EdgeRow → EdgeRow → Point → ℕ → ℕ → List RowWrite
mod_writes rows r p node new =
    AddNode (Old node) None p ∷ second_write r p node r.edge_id new
    ∷ (all_relinks (renamed r.edge_id r.edge_id new) rows ++ SetLine (Old r.edge_id) (Old r.start_node) (Old node) (line_up_to p r.geom) ∷ SetNext (Old r.edge_id) Left (dart_named new true) ∷ [])

-- newedgessplit: the first part comes with links that are still to be set, and the edge goes
abbrev pub first_write : EdgeRow → Point → ℕ → ℕ → RowWrite
first_write r p node first =
    AddEdge (Old first) (Old r.start_node) (Old node) (dart_named first true) (dart_named first false) (Old r.left_face) (Old r.right_face) (line_up_to p r.geom)

-- its links, and the edge goes
abbrev pub last_writes : EdgeRow → ℕ → ℕ → List RowWrite
last_writes r first second = SetNext (Old first) Left (dart_named second true) ∷ SetNext (Old first) Right (row_dart (renamed r.edge_id first second r.next_right_edge)) ∷ DropEdge (Old r.edge_id) ∷ []

abbrev pub new_writes : List EdgeRow → EdgeRow → Point → ℕ → ℕ → ℕ → List RowWrite
new_writes rows r p node first second =
    AddNode (Old node) None p ∷ first_write r p node first ∷ second_write r p node first second ∷ (all_relinks (renamed r.edge_id first second) rows ++ last_writes r first second)

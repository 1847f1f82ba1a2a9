-- The row writes by which a new edge comes in the place of two that are healed at a node.
use Rattle.std.specs.Prelude.{ℕ, ◌+◌, not, ◌==◌, List, [], ◌∷◌, ◌++◌, if◌then◌else◌}
use Rattle.topo_base.specs.declared.ids.Dart.{Dart}
use Rattle.topo_base.specs.declared.rows.EdgeRow.{EdgeRow}
use Rattle.topo_base.specs.declared.write.RowId.TheVariants.{Old}
use Rattle.topo_base.specs.declared.write.RowWrite.{RowWrite}
use Rattle.topo_base.specs.declared.write.RowWrite.TheVariants.{AddEdge, DropEdge, DropNode}
use Rattle.drawing.specs.Drawing.{Drawing, Edge, edge_id_of, node_id_of}
use Rattle.drawing.specs.HealEdges.{joined_edge}
use Rattle.drawing.specs.Relations.{edge_type, follow}
use Rattle.drawing.specs.Rows.{without_row}
use Rattle.drawing.specs.Tables.{Tables, drawn, drawn_edge}
use Rattle.edge_links.specs.Links.{row_dart}
use Rattle.edge_heal.specs.Joined.{follows_on, row_follower}
use Rattle.edge_heal.specs.Renamed.{healed_name}
use Rattle.edge_split.specs.Relinks.{all_relinks}

-- the joined edge comes, where on follows it, walked on from the first edge to the second, and back follows it, walked back
abbrev pub joined_write : Edge → Edge → ℕ → ℕ → Dart → Dart → RowWrite
joined_write e f n new on back =
    let joined = joined_edge n e f new in
    let way = n == e.end_node in
    AddEdge (Old new) (Old joined.start_node) (Old joined.end_node) (row_dart (if way then on else back)) (row_dart (if way then back else on)) (Old joined.left_face) (Old joined.right_face) joined.geom

-- both edges and the node go
abbrev pub both_go : Edge → Edge → ℕ → List RowWrite
both_go e f n = DropEdge (Old e.edge_id) ∷ DropEdge (Old f.edge_id) ∷ DropNode (Old n) ∷ []

-- newedgeheal: the joined edge, the links of other edges, and then both edges and the node go
abbrev pub new_heal_writes : List EdgeRow → Edge → Edge → ℕ → ℕ → Dart → Dart → List RowWrite
new_heal_writes rows e f n new on back = joined_write e f n new on back ∷ (all_relinks (healed_name e.edge_id f.edge_id new (n == e.end_node)) rows ++ both_go e f n)

-- the edges after it, and the drawing before features follow
abbrev pub new_healed_edges : Drawing → ℕ → Edge → Edge → List Edge
new_healed_edges S n e f = without_row edge_id_of (without_row edge_id_of S.edges e.edge_id) f.edge_id ++ joined_edge n e f S.next_ids.edge ∷ []

abbrev pub new_heal_in : Drawing → Edge → Edge → ℕ → Drawing
new_heal_in S e f n =
    record S { nodes = without_row node_id_of S.nodes n; edges = new_healed_edges S n e f; next_ids = record (S.next_ids) { edge = S.next_ids.edge + 1 } }

-- what follows the joined edge, walked back to where the first edge came from, by its new name
abbrev pub follows_back : EdgeRow → EdgeRow → ℕ → ℕ → Dart
follows_back r q n new = healed_name r.edge_id q.edge_id new (n == r.end_node) (row_follower r (not (n == r.end_node)))

-- the same writes by the rows of the edges
abbrev pub new_heal_rows : List EdgeRow → EdgeRow → EdgeRow → ℕ → ℕ → List RowWrite
new_heal_rows rows r q n new = new_heal_writes rows (drawn_edge r) (drawn_edge q) n new (follows_on r q n new) (follows_back r q n new)

-- the features that listed one of the edges list the new one
abbrev pub listed_anew : Tables → List ℕ → ℕ → Tables
listed_anew t gone new = record t { relations = follow (drawn t) edge_type gone (new ∷ []) }

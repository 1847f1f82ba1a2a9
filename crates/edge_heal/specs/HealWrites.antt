-- The row writes by which the first of two edges becomes the edge that both are healed into.
use Rattle.std.specs.Prelude.{ℕ, not, ◌==◌, List, [], ◌∷◌, ◌++◌}
use Rattle.topo_base.specs.declared.ids.Dart.{Dart}
use Rattle.topo_base.specs.declared.rows.EdgeRow.{EdgeRow}
use Rattle.topo_base.specs.declared.write.RowId.TheVariants.{Old}
use Rattle.topo_base.specs.declared.write.RowWrite.{RowWrite}
use Rattle.topo_base.specs.declared.write.RowWrite.TheVariants.{DropEdge, DropNode, SetLine, SetNext}
use Rattle.drawing.specs.Drawing.{Drawing, Edge, edge_id_of, node_id_of}
use Rattle.drawing.specs.HealEdges.{joined_edge}
use Rattle.drawing.specs.Relations.{edge_type, follow}
use Rattle.drawing.specs.Rows.{with_change, without_row}
use Rattle.drawing.specs.Tables.{Tables, drawn, drawn_edge}
use Rattle.edge_links.specs.Links.{hand_back, row_dart}
use Rattle.edge_heal.specs.Joined.{follows_on}
use Rattle.edge_heal.specs.Renamed.{healed_name}
use Rattle.edge_split.specs.Relinks.{all_relinks}

-- the ends, the line and the link of the joined edge, where next is what follows it, walked on from the first edge to the second
abbrev pub last_heal_writes : Edge → Edge → ℕ → Dart → List RowWrite
last_heal_writes e f n next =
    SetLine (Old e.edge_id) (Old (joined_edge n e f e.edge_id).start_node) (Old (joined_edge n e f e.edge_id).end_node) (joined_edge n e f e.edge_id).geom
    ∷ SetNext (Old e.edge_id) (hand_back (not (n == e.end_node))) (row_dart next) ∷ DropEdge (Old f.edge_id) ∷ DropNode (Old n) ∷ []

-- modedgeheal: the links of other edges, the joined edge, and then the second edge and the node go
abbrev pub mod_heal_writes : List EdgeRow → Edge → Edge → ℕ → Dart → List RowWrite
mod_heal_writes rows e f n next = all_relinks (healed_name e.edge_id f.edge_id e.edge_id (n == e.end_node)) rows ++ last_heal_writes e f n next

-- the edges after it, and the drawing before features follow
abbrev pub healed_edges : Drawing → ℕ → Edge → Edge → List Edge
healed_edges S n e f = with_change edge_id_of (without_row edge_id_of S.edges f.edge_id) e.edge_id (λ x. joined_edge n x f x.edge_id)

abbrev pub mod_heal_in : Drawing → Edge → Edge → ℕ → Drawing
mod_heal_in S e f n = record S { nodes = without_row node_id_of S.nodes n; edges = healed_edges S n e f }

-- the same writes by the rows of the edges
abbrev pub last_heal_rows : EdgeRow → EdgeRow → ℕ → List RowWrite
last_heal_rows r q n = last_heal_writes (drawn_edge r) (drawn_edge q) n (follows_on r q n r.edge_id)

abbrev pub mod_heal_rows : List EdgeRow → EdgeRow → EdgeRow → ℕ → List RowWrite
mod_heal_rows rows r q n = mod_heal_writes rows (drawn_edge r) (drawn_edge q) n (follows_on r q n r.edge_id)

-- the features that listed one of the edges list the first
abbrev pub merged_rows : Tables → ℕ → ℕ → Tables
merged_rows t first second = record t { relations = follow (drawn t) edge_type (first ∷ second ∷ []) (first ∷ []) }

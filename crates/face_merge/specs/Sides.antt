-- The row writes by which sides and containing faces follow where faces become one.
use Rattle.std.specs.Prelude.{ℕ, Bool, false, ◌||◌, ◌==◌, List, [], ◌∷◌, ◌++◌, flat_map, Option, Some, None, if◌then◌else◌}
use Rattle.topo_base.specs.declared.rows.EdgeRow.{EdgeRow}
use Rattle.topo_base.specs.declared.rows.NodeRow.{NodeRow}
use Rattle.topo_base.specs.declared.write.RowId.TheVariants.{Old}
use Rattle.topo_base.specs.declared.write.Hand.{Hand}
use Rattle.topo_base.specs.declared.write.Hand.TheVariants.{Left, Right}
use Rattle.topo_base.specs.declared.write.RowWrite.{RowWrite}
use Rattle.topo_base.specs.declared.write.RowWrite.TheVariants.{SetSide, SetContaining}
use Rattle.drawing.specs.Drawing.{Drawing, Edge, is_isolated}
use Rattle.drawing.specs.Relations.{is_among}
use Rattle.drawing.specs.Tables.{Tables, drawn}
use Rattle.face_merge.specs.declared.removed.Freed.{Freed}
use Rattle.face_merge.specs.declared.removed.Removed.{Removed}

-- the ends and the sides of an edge
abbrev pub removed_of : Edge → Removed
removed_of e = record { start_node = e.start_node; end_node = e.end_node; left_face = e.left_face; right_face = e.right_face }

-- its end nodes that have no edge, where T is the drawing without it
abbrev pub freed_if : Bool → ℕ → Option ℕ
freed_if isolated n = if isolated then Some n else None

abbrev pub freed_in : Drawing → Removed → Freed
freed_in T r = record { start = freed_if (is_isolated T r.start_node) r.start_node; end = freed_if (is_isolated T r.end_node) r.end_node }

abbrev pub is_given : Option ℕ → ℕ → Bool
is_given None n = false
is_given (Some m) n = m == n

abbrev pub is_freed : Freed → ℕ → Bool
is_freed freed n = is_given freed.start n || is_given freed.end n

-- a node comes into the face that is kept, if it has no edge any more, or lies in a face that goes
abbrev pub lies_among : List ℕ → Option ℕ → Bool
lies_among gone None = false
lies_among gone (Some f) = is_among f gone

abbrev pub comes_in : Freed → List ℕ → NodeRow → Bool
comes_in freed gone n = is_freed freed n.node_id || lies_among gone n.containing_face

abbrev pub set_containing : ℕ → ℕ → RowWrite
set_containing kept n = SetContaining (Old n) (Some (Old kept))

abbrev pub node_write : Freed → List ℕ → ℕ → NodeRow → List RowWrite
node_write freed gone kept n = if comes_in freed gone n then set_containing kept n.node_id ∷ [] else []

-- a side that is a face that goes becomes the face that is kept
abbrev pub set_side : Hand → ℕ → ℕ → RowWrite
set_side hand kept e = SetSide (Old e) hand (Old kept)

abbrev pub side_write : Hand → List ℕ → ℕ → ℕ → ℕ → List RowWrite
side_write hand gone kept e f = if is_among f gone then set_side hand kept e ∷ [] else []

abbrev pub edge_write : List ℕ → ℕ → EdgeRow → List RowWrite
edge_write gone kept e = side_write Left gone kept e.edge_id e.left_face ++ side_write Right gone kept e.edge_id e.right_face

-- all of them: sides, and then nodes
abbrev pub renamed_writes : Removed → List ℕ → ℕ → Tables → List RowWrite
renamed_writes r gone kept t = flat_map (edge_write gone kept) t.edges ++ flat_map (node_write (freed_in (drawn t) r) gone kept) t.nodes

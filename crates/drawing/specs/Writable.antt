-- Which row writes may be made on tables.
use Rattle.std.specs.Prelude.{◌≡◌, ℕ, ◌+◌, ◌<◌, ◌^◌, ◌==◌, ◌||◌, Bool, IsTrue, List, [], ◌∷◌, Option, Some, None}
use Rattle.std.specs.List.{list_any}
use Rattle.topo_base.specs.declared.rows.Counters.{Counters}
use Rattle.topo_base.specs.declared.write.RowId.{RowId}
use Rattle.topo_base.specs.declared.write.RowId.TheVariants.{Old, Fresh}
use Rattle.topo_base.specs.declared.write.RowElement.{RowElement}
use Rattle.topo_base.specs.declared.write.RowElement.TheVariants.{Drawing as WholeDrawing, Node as RowNode, Edge as RowEdge, Face as RowFace, Layer as RowLayer, Feature as RowFeature}
use Rattle.topo_base.specs.declared.write.RowWrite.{RowWrite}
use Rattle.topo_base.specs.declared.write.RowWrite.TheVariants.{AddNode, SetContaining, SetPoint, DropNode, AddEdge, SetNext, SetSide, SetLine, DropEdge, AddFace, SetBox, DropFace, AddLayer, AddFeature, DropFeature, AddRow, DropRow, Raise}
use Rattle.drawing.specs.Rows.{has_row}
use Rattle.drawing.specs.Drawing.{node_id_of, layer_id_of, feature_id_of}
use Rattle.drawing.specs.Relations.{same_row}
use Rattle.drawing.specs.Tables.{Tables}
use Rattle.drawing.specs.Writes.{edge_row_id, face_row_id, row_named, written}

-- an id is old, and what it names is there
abbrev pub IsThere : (ℕ → Bool) → RowId → Type 0
IsThere has (Old n) = IsTrue (has n)
IsThere has (Fresh k) = ⊥

abbrev pub IsThereIfAny : (ℕ → Bool) → Option RowId → Type 0
IsThereIfAny has None = Unit {0}
IsThereIfAny has (Some id) = IsThere has id

-- an id is old
abbrev pub IsOld : RowId → Type 0
IsOld (Old n) = Unit {0}
IsOld (Fresh k) = ⊥

abbrev pub IsOldIfAny : Option RowId → Type 0
IsOldIfAny None = Unit {0}
IsOldIfAny (Some id) = IsOld id

-- an id is old, and is the next id of its table, which with one more is a number of 32 bits
abbrev pub IsNext : ℕ → RowId → Type 0
IsNext next (Old n) = (n ≡ next) × (next + 1 < 2 ^ 32)
IsNext next (Fresh k) = ⊥

abbrev pub has_node_row : Tables → ℕ → Bool
has_node_row t = has_row node_id_of t.nodes

abbrev pub has_edge_row : Tables → ℕ → Bool
has_edge_row t = has_row edge_row_id t.edges

-- an edge that is there, or the one that comes
abbrev pub has_edge_or_next : Tables → ℕ → Bool
has_edge_or_next t n = has_edge_row t n || n == t.next_ids.edge

abbrev pub has_face_row : Tables → ℕ → Bool
has_face_row t = has_row face_row_id t.faces

abbrev pub has_layer_row : Tables → ℕ → Bool
has_layer_row t = has_row layer_id_of t.layers

abbrev pub has_feature_row : Tables → ℕ → Bool
has_feature_row t = has_row feature_id_of t.features

abbrev pub NamesElement : Tables → RowElement → Type 0
NamesElement t WholeDrawing = Unit {0}
NamesElement t (RowNode id) = IsThere (has_node_row t) id
NamesElement t (RowEdge id) = IsThere (has_edge_row t) id
NamesElement t (RowFace id) = IsThere (has_face_row t) id
NamesElement t (RowLayer id) = IsThere (has_layer_row t) id
NamesElement t (RowFeature id) = IsThere (has_feature_row t) id

-- each id in the write is old, what it names is there, and a row with an id of its own comes with its table's next id; the links of an edge that comes may name the edge itself, and face 0 doesn't change
abbrev pub CanWrite : Tables → RowWrite → Type 0
CanWrite t (AddNode node face p) = IsNext t.next_ids.node node × IsThereIfAny (has_face_row t) face
CanWrite t (SetContaining node face) = IsThere (has_node_row t) node × IsThereIfAny (has_face_row t) face
CanWrite t (SetPoint node p) = IsThere (has_node_row t) node
CanWrite t (DropNode node) = IsThere (has_node_row t) node
CanWrite t (AddEdge edge start end next_left next_right left right line) =
    IsNext t.next_ids.edge edge × IsThere (has_node_row t) start × IsThere (has_node_row t) end
    × IsThere (has_edge_or_next t) next_left.edge × IsThere (has_edge_or_next t) next_right.edge
    × IsThere (has_face_row t) left × IsThere (has_face_row t) right
CanWrite t (SetNext edge hand next) = IsThere (has_edge_row t) edge × IsThere (has_edge_row t) next.edge
CanWrite t (SetSide edge hand face) = IsThere (has_edge_row t) edge × IsThere (has_face_row t) face
CanWrite t (SetLine edge start end line) = IsThere (has_edge_row t) edge × IsThere (has_node_row t) start × IsThere (has_node_row t) end
CanWrite t (DropEdge edge) = IsThere (has_edge_row t) edge
CanWrite t (AddFace face mbr) = IsNext t.next_ids.face face
CanWrite t (SetBox face mbr) = IsThere (has_face_row t) face × (face ≡ Old 0 → ⊥)
CanWrite t (DropFace face) = IsThere (has_face_row t) face × (face ≡ Old 0 → ⊥)
CanWrite t (AddLayer layer level child kind name) = IsNext t.next_ids.layer layer × IsThereIfAny (has_layer_row t) child
CanWrite t (AddFeature feature layer) = IsNext t.next_ids.feature feature × IsThere (has_layer_row t) layer
CanWrite t (DropFeature feature) = IsThere (has_feature_row t) feature
CanWrite t (AddRow feature layer element type) = IsThere (has_feature_row t) feature × IsThere (has_layer_row t) layer × IsOld element
CanWrite t (DropRow feature layer element type) =
    IsOld feature × IsOld layer × IsOld element × IsTrue (list_any (same_row (row_named t.next_ids feature layer element type)) t.relations)
CanWrite t (Raise element) = NamesElement t element

-- the writes may be made one after the other, where these were the next ids before the edit
abbrev pub CanWriteAll : Counters → Tables → List RowWrite → Type 0
CanWriteAll n t [] = Unit {0}
CanWriteAll n t (w ∷ ws) = CanWrite t w × CanWriteAll n (written n t w) ws

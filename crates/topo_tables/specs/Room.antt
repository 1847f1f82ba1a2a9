-- Room for the rows that writes add, and what contracts see of tables.
use Rattle.std.specs.Prelude.{ℕ, ◌+◌, ◌≤◌, Bool, true, false, List, if◌then◌else◌}
use Rattle.std.specs.List.{count_by}
use Rattle.topo_base.specs.declared.write.RowWrite.{RowWrite}
use Rattle.topo_base.specs.declared.write.RowWrite.TheVariants.{AddNode, AddEdge, AddFace, AddLayer, AddFeature, AddRow}
use Rattle.drawing.specs.Tables.{Tables}

-- for how many rows more each table has room
pub record Room : Type 0 where
  pub nodes : ℕ
  pub edges : ℕ
  pub faces : ℕ
  pub layers : ℕ
  pub features : ℕ
  pub relations : ℕ

-- the rows, and the room for more
pub record Held : Type 0 where
  pub rows : Tables
  pub room : Room

-- which table gets a row by a write
abbrev pub adds_node : RowWrite → Bool
adds_node (AddNode node face p) = true
adds_node _ = false

abbrev pub adds_edge : RowWrite → Bool
adds_edge (AddEdge edge start end next_left next_right left right line) = true
adds_edge _ = false

abbrev pub adds_face : RowWrite → Bool
adds_face (AddFace face mbr) = true
adds_face _ = false

abbrev pub adds_layer : RowWrite → Bool
adds_layer (AddLayer layer level child kind name) = true
adds_layer _ = false

abbrev pub adds_feature : RowWrite → Bool
adds_feature (AddFeature feature layer) = true
adds_feature _ = false

abbrev pub adds_relation : RowWrite → Bool
adds_relation (AddRow feature layer element type) = true
adds_relation _ = false

-- there is room for the rows that the writes add
pub record HasRoom (room : Room) (writes : List RowWrite) : Type 0 where
  pub nodes : count_by adds_node writes ≤ room.nodes
  pub edges : count_by adds_edge writes ≤ room.edges
  pub faces : count_by adds_face writes ≤ room.faces
  pub layers : count_by adds_layer writes ≤ room.layers
  pub features : count_by adds_feature writes ≤ room.features
  pub relations : count_by adds_relation writes ≤ room.relations

-- what room a write leaves: one row less for its table where it adds one
abbrev pub one_if : Bool → ℕ
one_if b = if b then 1 else 0

pub record LeavesRoom (one : RowWrite) (old new : Room) : Type 0 where
  pub nodes : old.nodes ≤ new.nodes + one_if (adds_node one)
  pub edges : old.edges ≤ new.edges + one_if (adds_edge one)
  pub faces : old.faces ≤ new.faces + one_if (adds_face one)
  pub layers : old.layers ≤ new.layers + one_if (adds_layer one)
  pub features : old.features ≤ new.features + one_if (adds_feature one)
  pub relations : old.relations ≤ new.relations + one_if (adds_relation one)

-- room that is no smaller
pub record IsKept (old new : Room) : Type 0 where
  pub nodes : old.nodes ≤ new.nodes
  pub edges : old.edges ≤ new.edges
  pub faces : old.faces ≤ new.faces
  pub layers : old.layers ≤ new.layers
  pub features : old.features ≤ new.features
  pub relations : old.relations ≤ new.relations

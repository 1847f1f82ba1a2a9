-- A dump: the printed text of raw tables whose numbers are in range and whose rows ascend.
use Rattle.std.specs.Prelude.{◌≡◌, ℕ, ◌+◌, Bool, true, false, ◌&&◌, IsTrue, nat_le, int_le, List, length, take, Option, Some, None}
use Rattle.std.specs.List.{list_all}
use Rattle.topo_base.specs.Names.{is_name}
use Rattle.topo_base.specs.Point.{Point}
use Rattle.topo_base.specs.declared.ids.Dart.{Dart}
use Rattle.topo_base.specs.declared.rows.NodeRow.{NodeRow}
use Rattle.topo_base.specs.declared.rows.EdgeRow.{EdgeRow}
use Rattle.topo_base.specs.declared.rows.FaceRow.{FaceRow}
use Rattle.topo_base.specs.declared.rows.Box4.{Box4}
use Rattle.topo_base.specs.declared.rows.LayerRow.{LayerRow}
use Rattle.topo_base.specs.declared.rows.FeatureRow.{FeatureRow}
use Rattle.topo_base.specs.declared.rows.RelationRow.{RelationRow}
use Rattle.topo_base.specs.declared.rows.Counters.{Counters}
use Rattle.drawing.specs.InRange.{is_grid_point}
use Rattle.script_model.specs.Texts.{rows_text}
use Rattle.validate_topology.specs.Ascending.{numbers_ascend}
use Rattle.validate_topology.specs.Raw.{tables_in}
use Rattle.validate_topology.specs.RelationOrder.{relations_ascend}
use Rattle.validate_topology.specs.declared.raw.RawTables.{RawTables}
use Rattle.table_dump.specs.Lines.{lines_of}

-- an id that a row names, a level or an element; a row's own id; a next id
abbrev pub is_named : ℕ → Bool
is_named n = nat_le n 16777215

abbrev pub is_own : ℕ → Bool
is_own n = nat_le n 16777215 && nat_le 1 n

abbrev pub is_next : ℕ → Bool
is_next n = nat_le n 16777216 && nat_le 1 n

abbrev pub is_option_named : Option ℕ → Bool
is_option_named None = true
is_option_named (Some n) = is_named n

abbrev pub is_dart : Dart → Bool
is_dart d = is_own d.edge

-- the vertices of a line
abbrev pub is_count : ℕ → Bool
is_count n = nat_le n 16777215 && nat_le 2 n

abbrev pub is_line : List Point → Bool
is_line line = is_count (length line) && list_all is_grid_point line

-- a box, whose minimum isn't greater than its maximum
abbrev pub low_corner : Box4 → Point
low_corner b = record { x = b.min_x; y = b.min_y }

abbrev pub high_corner : Box4 → Point
high_corner b = record { x = b.max_x; y = b.max_y }

abbrev pub are_corners : Point → Point → Bool
are_corners low high = int_le low.x high.x && int_le low.y high.y

abbrev pub is_box : Option Box4 → Bool
is_box None = false
is_box (Some b) = (is_grid_point (low_corner b) && is_grid_point (high_corner b)) && are_corners (low_corner b) (high_corner b)

-- the next ids, and a row of each kind
abbrev pub is_counters : Counters → Bool
is_counters n = is_next n.node && (is_next n.edge && (is_next n.face && (is_next n.layer && is_next n.feature)))

abbrev pub is_node_row : NodeRow → Bool
is_node_row n = is_own n.node_id && (is_option_named n.containing_face && is_grid_point n.geom)

abbrev pub is_edge_row : EdgeRow → Bool
is_edge_row e =
    is_own e.edge_id && (is_named e.start_node && (is_named e.end_node && (is_dart e.next_left_edge && (is_dart e.next_right_edge
    && (is_named e.left_face && (is_named e.right_face && is_line e.geom))))))

abbrev pub is_face_row : FaceRow → Bool
is_face_row f = is_own f.face_id && is_box f.mbr

abbrev pub is_layer_row : LayerRow → Bool
is_layer_row l = is_own l.layer_id && (is_named l.level && (is_option_named l.child_id && is_name l.name))

abbrev pub is_feature_row : FeatureRow → Bool
is_feature_row t = is_own t.feature_id && is_named t.layer_id

abbrev pub is_relation_row : RelationRow → Bool
is_relation_row r = is_named r.topogeo_id && (is_named r.layer_id && (is_named r.element_id && is_named r.element_type))

-- rows of one kind are in range, and their own ids ascend
pub record AreRows {R : Type 0} (good : R → Bool) (number : R → ℕ) (rows : List R) : Type 0 where
  pub range : IsTrue (list_all good rows)
  pub ascend : IsTrue (numbers_ascend number 0 rows)

-- tables of which there is a dump
pub record IsDumped (r : RawTables) : Type 0 where
  pub next : IsTrue (is_counters r.next)
  pub nodes : AreRows is_node_row (λ (n : NodeRow). n.node_id) r.nodes
  pub edges : AreRows is_edge_row (λ (e : EdgeRow). e.edge_id) r.edges
  pub faces : AreRows is_face_row (λ (f : FaceRow). f.face_id) r.faces
  pub layers : AreRows is_layer_row (λ (l : LayerRow). l.layer_id) r.layers
  pub features : AreRows is_feature_row (λ (t : FeatureRow). t.feature_id) r.features
  pub relations : IsTrue (list_all is_relation_row r.relations)
  pub order : IsTrue (relations_ascend None r.relations)

-- the lines that are printed for some tables
abbrev pub dump_lines : RawTables → List (List ℕ)
dump_lines r = lines_of (rows_text (tables_in r))

-- the text is the dump of these tables: it has their lines, and the last line feed may be missing
pub record IsDump (text : List ℕ) (r : RawTables) : Type 0 where
  pub dumped : IsDumped r
  pub printed : lines_of text ≡ dump_lines r

-- a dump begins with the first so many lines; where these are more than there are, the dump ends with the lines
pub record Begins (lines : List (List ℕ)) (count : ℕ) : Type 0 where
  pub raw : RawTables
  pub dumped : IsDumped raw
  pub printed : take count lines ≡ take count (dump_lines raw)

-- the line of this number, counted from 1, is the first bad one: a dump begins with the lines before it, and none with these
-- and this one; where it is wanted and missing, no dump ends before it
pub record IsFirstBad (text : List ℕ) (number : ℕ) : Type 0 where
  pub before : ℕ
  pub is : number ≡ before + 1
  pub good : Begins (lines_of text) before
  pub bad : Begins (lines_of text) number → ⊥

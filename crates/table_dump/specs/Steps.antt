-- What was read of a dump so far, and which row may stand behind it.
use Rattle.std.specs.Prelude.{◌≡◌, ℕ, Bool, true, false, not, ◌&&◌, IsTrue, nat_lt, List, [], ◌∷◌, ◌++◌, Option, Some, None, Result, Ok, Err, if◌then◌else◌}
use Rattle.topo_base.specs.declared.rows.NodeRow.{NodeRow}
use Rattle.topo_base.specs.declared.rows.EdgeRow.{EdgeRow}
use Rattle.topo_base.specs.declared.rows.FaceRow.{FaceRow}
use Rattle.topo_base.specs.declared.rows.LayerRow.{LayerRow}
use Rattle.topo_base.specs.declared.rows.FeatureRow.{FeatureRow}
use Rattle.topo_base.specs.declared.rows.Counters.{Counters}
use Rattle.validate_topology.specs.Ascending.{last_number}
use Rattle.validate_topology.specs.Raw.{no_rows}
use Rattle.validate_topology.specs.RelationOrder.{comes_behind, last_relation}
use Rattle.validate_topology.specs.declared.raw.RawTables.{RawTables}
use Rattle.table_dump.specs.Rows.{DumpRow, Node, Edge, Universal, Face, Layer, Feature, Relation}
use Rattle.table_dump.specs.declared.ends.LineEnd.{LineEnd}
use Rattle.table_dump.specs.declared.ends.LineEnd.TheVariants.{Bad, Memory}
use Rattle.table_dump.specs.declared.read.Reading.{Reading}

abbrev pub is_none : {A : Type 0} → List A → Bool
is_none [] = true
is_none (x ∷ xs) = false

-- the tables so far, and whether face 0 was there
pub record Front : Type 0 where
  pub raw : RawTables
  pub has_face_0 : Bool

abbrev pub front_of : Reading → Front
front_of r = record { raw = r.raw; has_face_0 = r.has_face_0 }

-- behind the first line
abbrev pub begun : Counters → Front
begun next = record { raw = no_rows next; has_face_0 = false }

-- nodes come before edges, these before face 0, and this before the other faces, layers, features and relation rows; rows of
-- a kind ascend
abbrev pub may_follow : Front → DumpRow → Bool
may_follow f (Node n) = is_none f.raw.edges && (not f.has_face_0 && nat_lt (last_number (λ (r : NodeRow). r.node_id) 0 f.raw.nodes) n.node_id)
may_follow f (Edge e) = not f.has_face_0 && nat_lt (last_number (λ (r : EdgeRow). r.edge_id) 0 f.raw.edges) e.edge_id
may_follow f Universal = not f.has_face_0
may_follow f (Face a) =
    f.has_face_0 && (is_none f.raw.layers && (is_none f.raw.features && (is_none f.raw.relations && nat_lt (last_number (λ (r : FaceRow). r.face_id) 0 f.raw.faces) a.face_id)))
may_follow f (Layer l) = f.has_face_0 && (is_none f.raw.features && (is_none f.raw.relations && nat_lt (last_number (λ (r : LayerRow). r.layer_id) 0 f.raw.layers) l.layer_id))
may_follow f (Feature t) = f.has_face_0 && (is_none f.raw.relations && nat_lt (last_number (λ (r : FeatureRow). r.feature_id) 0 f.raw.features) t.feature_id)
may_follow f (Relation r) = f.has_face_0 && comes_behind (last_relation None f.raw.relations) r

-- the tables with one row more
abbrev pub with_row : Front → DumpRow → Front
with_row f (Node n) = record f { raw = record (f.raw) { nodes = f.raw.nodes ++ n ∷ [] } }
with_row f (Edge e) = record f { raw = record (f.raw) { edges = f.raw.edges ++ e ∷ [] } }
with_row f Universal = record f { has_face_0 = true }
with_row f (Face a) = record f { raw = record (f.raw) { faces = f.raw.faces ++ a ∷ [] } }
with_row f (Layer l) = record f { raw = record (f.raw) { layers = f.raw.layers ++ l ∷ [] } }
with_row f (Feature t) = record f { raw = record (f.raw) { features = f.raw.features ++ t ∷ [] } }
with_row f (Relation r) = record f { raw = record (f.raw) { relations = f.raw.relations ++ r ∷ [] } }

-- a row is put where its id is greater than those so far
abbrev pub Pushes : {R E : Type 0} → (R → ℕ) → R → List R → List R → Result Bool E → Type 0
Pushes number row old new (Ok pushed) = (pushed ≡ nat_lt (last_number number 0 old) (number row)) × (new ≡ (if pushed then old ++ row ∷ [] else old))
Pushes number row old new (Err e) = Unit {0}

-- the row of a line was put behind those so far
pub record IsPut (row : Option DumpRow) (old new : Front) : Type 0 where
  pub value : DumpRow
  pub is : row ≡ Some value
  pub follows : IsTrue (may_follow old value)
  pub put : new ≡ with_row old value

-- or there is none that may stand there
abbrev pub Puts : {U : Type 0} → Option DumpRow → Front → Front → Result U LineEnd → Type 0
Puts row old new (Ok done) = IsPut row old new
Puts row old new (Err Bad) = (value : DumpRow) → row ≡ Some value → IsTrue (may_follow old value) → ⊥
Puts row old new (Err Memory) = Unit {0}

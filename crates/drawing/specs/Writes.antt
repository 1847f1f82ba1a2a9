-- Row writes: the changes of rows by which tables follow an edit.
use Rattle.std.specs.Prelude.{◌≡◌, ℕ, ◌+◌, ◌-◌, not, ◌==◌, IsTrue, List, [], ◌∷◌, ◌++◌, filter, option_map, Option, Ok, ◌↔◌, IsSome, Contains, flat_map, if◌then◌else◌}
use Rattle.topo_base.specs.Point.{Point}
use Rattle.topo_base.specs.declared.ids.Dart.{Dart}
use Rattle.topo_base.specs.declared.rows.EdgeRow.{EdgeRow}
use Rattle.topo_base.specs.declared.rows.FaceRow.{FaceRow}
use Rattle.topo_base.specs.declared.rows.RelationRow.{RelationRow}
use Rattle.topo_base.specs.declared.rows.Counters.{Counters}
use Rattle.topo_base.specs.declared.element.Element.{Element}
use Rattle.topo_base.specs.declared.element.Element.TheVariants.{Drawing as TheDrawing}
use Rattle.topo_base.specs.declared.edit.Edit.{Edit}
use Rattle.topo_base.specs.declared.write.RowId.{RowId}
use Rattle.topo_base.specs.declared.write.RowId.TheVariants.{Old, Fresh}
use Rattle.topo_base.specs.declared.write.RowDart.{RowDart}
use Rattle.topo_base.specs.declared.write.Hand.{Hand}
use Rattle.topo_base.specs.declared.write.Hand.TheVariants.{Left, Right}
use Rattle.topo_base.specs.declared.write.RowElement.{RowElement}
use Rattle.topo_base.specs.declared.write.RowElement.TheVariants.{Drawing as WholeDrawing, Node as RowNode, Edge as RowEdge, Face as RowFace, Layer as RowLayer, Feature as RowFeature}
use Rattle.topo_base.specs.declared.write.RowWrite.{RowWrite}
use Rattle.topo_base.specs.declared.write.RowWrite.TheVariants.{AddNode, SetContaining, SetPoint, DropNode, AddEdge, SetNext, SetSide, SetLine, DropEdge, AddFace, SetBox, DropFace, AddLayer, AddFeature, DropFeature, AddRow, DropRow, Raise}
use Rattle.drawing.specs.Rows.{without_row, with_change}
use Rattle.drawing.specs.Drawing.{Drawing, node_id_of, feature_id_of}
use Rattle.drawing.specs.Outcome.{Accepted, the_node, the_edge, the_face, the_layer, the_feature}
use Rattle.drawing.specs.Relations.{insert_row, same_row, node_type, edge_type}
use Rattle.drawing.specs.Tables.{Tables, tables_of}
use Rattle.drawing.specs.Step.{step}
use Rattle.drawing.specs.Content.{content_of}
use Rattle.drawing.specs.Stamps.{stays}

-- the number that an id stands for, where this is the table's next id before the edit
abbrev pub id_number : ℕ → RowId → ℕ
id_number next (Old n) = n
id_number next (Fresh k) = next + k - 1

abbrev pub dart_named : Counters → RowDart → Dart
dart_named n d = record { edge = id_number n.edge d.edge; forward = d.forward }

abbrev pub edge_row_id : EdgeRow → ℕ
edge_row_id e = e.edge_id

abbrev pub face_row_id : FaceRow → ℕ
face_row_id f = f.face_id

-- a link or a side of an edge changed
abbrev pub with_next : Hand → Dart → EdgeRow → EdgeRow
with_next Left d e = record e { next_left_edge = d }
with_next Right d e = record e { next_right_edge = d }

abbrev pub with_side : Hand → ℕ → EdgeRow → EdgeRow
with_side Left f e = record e { left_face = f }
with_side Right f e = record e { right_face = f }

-- a new element that is listed is a node, an edge or a face, by its type
abbrev pub element_number : Counters → ℕ → RowId → ℕ
element_number n type id = id_number (if type == node_type then n.node else (if type == edge_type then n.edge else n.face)) id

abbrev pub row_named : Counters → RowId → RowId → RowId → ℕ → RelationRow
row_named n feature layer element type =
    record { topogeo_id = id_number n.feature feature; layer_id = id_number n.layer layer; element_id = element_number n type element; element_type = type }

-- the tables with a node more
abbrev pub with_node_row : Tables → ℕ → Option ℕ → Point → Tables
with_node_row t id face p =
    record t {
      nodes = t.nodes ++ record { node_id = id; containing_face = face; geom = p } ∷ [];
      next_ids = record (t.next_ids) { node = t.next_ids.node + 1 };
    }

-- the tables after a write, where these were the next ids before the edit
abbrev pub written : Counters → Tables → RowWrite → Tables
written n t (AddNode node face p) = with_node_row t (id_number n.node node) (option_map (id_number n.face) face) p
written n t (SetContaining node face) =
    record t { nodes = with_change node_id_of t.nodes (id_number n.node node) (λ r. record r { containing_face = option_map (id_number n.face) face }) }
written n t (SetPoint node p) = record t { nodes = with_change node_id_of t.nodes (id_number n.node node) (λ r. record r { geom = p }) }
written n t (DropNode node) = record t { nodes = without_row node_id_of t.nodes (id_number n.node node) }
written n t (AddEdge edge start end next_left next_right left right line) =
    record t {
      edges = t.edges ++ record {
        edge_id = id_number n.edge edge;
        start_node = id_number n.node start;
        end_node = id_number n.node end;
        next_left_edge = dart_named n next_left;
        next_right_edge = dart_named n next_right;
        left_face = id_number n.face left;
        right_face = id_number n.face right;
        geom = line;
      } ∷ [];
      next_ids = record (t.next_ids) { edge = t.next_ids.edge + 1 };
    }
written n t (SetNext edge hand next) = record t { edges = with_change edge_row_id t.edges (id_number n.edge edge) (with_next hand (dart_named n next)) }
written n t (SetSide edge hand face) = record t { edges = with_change edge_row_id t.edges (id_number n.edge edge) (with_side hand (id_number n.face face)) }
written n t (SetLine edge start end line) =
    record t { edges = with_change edge_row_id t.edges (id_number n.edge edge) (λ r. record r { start_node = id_number n.node start; end_node = id_number n.node end; geom = line }) }
written n t (DropEdge edge) = record t { edges = without_row edge_row_id t.edges (id_number n.edge edge) }
written n t (AddFace face mbr) =
    record t { faces = t.faces ++ record { face_id = id_number n.face face; mbr = mbr } ∷ []; next_ids = record (t.next_ids) { face = t.next_ids.face + 1 } }
written n t (SetBox face mbr) = record t { faces = with_change face_row_id t.faces (id_number n.face face) (λ r. record r { mbr = mbr }) }
written n t (DropFace face) = record t { faces = without_row face_row_id t.faces (id_number n.face face) }
written n t (AddLayer layer level child kind name) =
    record t {
      layers = t.layers ++ record { layer_id = id_number n.layer layer; level = level; child_id = option_map (id_number n.layer) child; feature_type = kind; name = name } ∷ [];
      next_ids = record (t.next_ids) { layer = t.next_ids.layer + 1 };
    }
written n t (AddFeature feature layer) =
    record t {
      features = t.features ++ record { feature_id = id_number n.feature feature; layer_id = id_number n.layer layer } ∷ [];
      next_ids = record (t.next_ids) { feature = t.next_ids.feature + 1 };
    }
written n t (DropFeature feature) = record t { features = without_row feature_id_of t.features (id_number n.feature feature) }
written n t (AddRow feature layer element type) = record t { relations = insert_row (row_named n feature layer element type) t.relations }
written n t (DropRow feature layer element type) = record t { relations = filter (λ r. not (same_row (row_named n feature layer element type) r)) t.relations }
written n t (Raise element) = t

abbrev pub all_written : Counters → Tables → List RowWrite → Tables
all_written n t [] = t
all_written n t (w ∷ ws) = all_written n (written n t w) ws

-- the elements whose stamps the writes raise
abbrev pub element_named : Counters → RowElement → Element
element_named n WholeDrawing = TheDrawing
element_named n (RowNode id) = the_node (id_number n.node id)
element_named n (RowEdge id) = the_edge (id_number n.edge id)
element_named n (RowFace id) = the_face (id_number n.face id)
element_named n (RowLayer id) = the_layer (id_number n.layer id)
element_named n (RowFeature id) = the_feature (id_number n.feature id)

abbrev pub raised_by : Counters → RowWrite → List Element
raised_by n (Raise element) = element_named n element ∷ []
raised_by n write = []

-- the writes are right for an edit of a drawing: it is accepted, the tables of the drawing become those of the drawing after, and of the elements that stay those are raised whose content changes
pub record AreWritesFor (S : Drawing) (e : Edit) (ws : List RowWrite) : Type 0 where
  pub done : Accepted
  pub accepted : step S e ≡ Ok done
  pub tables : all_written S.next_ids (tables_of S) ws ≡ tables_of done.drawing
  pub raised : (x : Element) → IsSome (content_of S x) → IsSome (content_of done.drawing x) → Contains (flat_map (raised_by S.next_ids) ws) x ↔ IsTrue (not (stays x S done.drawing))

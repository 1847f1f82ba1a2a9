-- A draft with a write more is a draft.
use Rattle.std.specs.Prelude.{OnOk}
use Rattle.std.proofs.Common.{◌≡◌, ℕ, ◌+◌, Bool, not, filter, option_map, Option, Some, None, Result, Ok, Err, List, [], ◌∷◌, ◌++◌, refl, sym, ap, ◌∙◌, subst}
use Rattle.topo_base.specs.declared.rows.Counters.{Counters}
use Rattle.topo_base.specs.declared.write.RowId.{RowId}
use Rattle.topo_base.specs.declared.write.RowId.TheVariants.{Old, Fresh}
use Rattle.topo_base.specs.declared.write.RowDart.{RowDart}
use Rattle.topo_base.specs.declared.write.RowWrite.{RowWrite}
use Rattle.topo_base.specs.declared.write.RowWrite.TheVariants.{AddNode, SetContaining, SetPoint, DropNode, AddEdge, SetNext, SetSide, SetLine, DropEdge, AddFace, SetBox, DropFace, AddLayer, AddFeature, DropFeature, AddRow, DropRow, Raise}
use Rattle.drawing.specs.Drawing.{Drawing, node_id_of, feature_id_of}
use Rattle.drawing.specs.Relations.{insert_row, same_row}
use Rattle.drawing.specs.Rows.{with_change, without_row}
use Rattle.drawing.specs.Tables.{Tables, tables_of}
use Rattle.drawing.specs.Writable.{CanWrite, CanWriteAll, IsThere, IsThereIfAny, IsOld, IsOldIfAny, IsNext}
use Rattle.drawing.specs.Writes.{written, all_written, id_number, dart_named, element_number, row_named, with_node_row, with_next, with_side, edge_row_id, face_row_id}
use Rattle.drawing.proofs.WritesInOrder.{can_write-append, written-append}
use Rattle.read_set.specs.Drafted.{Drafted, IsDraftOf}

-- ids are old, so it is no matter which ids were next before the edit
old_number : (a b : ℕ) (id : RowId) → IsOld id → id_number a id ≡ id_number b id
old_number a b (Old k) old = refl
old_number a b (Fresh k) old = absurd old

old_if_any : (a b : ℕ) (o : Option RowId) → IsOldIfAny o → option_map (id_number a) o ≡ option_map (id_number b) o
old_if_any a b None old = refl
old_if_any a b (Some id) old = ap Some (old_number a b id old)

is_old : (has : ℕ → Bool) (id : RowId) → IsThere has id → IsOld id
is_old has (Old k) there = tt
is_old has (Fresh k) there = there

any_old : (has : ℕ → Bool) (o : Option RowId) → IsThereIfAny has o → IsOldIfAny o
any_old has None there = tt
any_old has (Some id) there = is_old has id there

next_old : (next : ℕ) (id : RowId) → IsNext next id → IsOld id
next_old next (Old k) h = tt
next_old next (Fresh k) h = h

there : (n m : ℕ) (has : ℕ → Bool) (id : RowId) → IsThere has id → id_number n id ≡ id_number m id
there n m has id h = old_number n m id (is_old has id h)

dart_there : (n m : Counters) (d : RowDart) (has : ℕ → Bool) → IsThere has d.edge → dart_named n d ≡ dart_named m d
dart_there n m d has h = let e = there n.edge m.edge has d.edge h in λ i. record { edge = e i; forward = d.forward }

element_old : (n m : Counters) (type : ℕ) (id : RowId) → IsOld id → element_number n type id ≡ element_number m type id
element_old n m type (Old k) old = refl
element_old n m type (Fresh k) old = absurd old

row_old : (n m : Counters) (feature layer element : RowId) (type : ℕ) → IsOld feature → IsOld layer → IsOld element → row_named n feature layer element type ≡ row_named m feature layer element type
row_old n m feature layer element type f l e =
    let a = old_number n.feature m.feature feature f in
    let b = old_number n.layer m.layer layer l in
    let c = element_old n m type element e in
    λ i. record { topogeo_id = a i; layer_id = b i; element_id = c i; element_type = type }

pub any_next : (n m : Counters) (t : Tables) (w : RowWrite) → CanWrite t w → written n t w ≡ written m t w
any_next n m t (AddNode node face p) can =
    let a = old_number n.node m.node node (next_old _ node can.0) in
    let b = old_if_any n.face m.face face (any_old _ face can.1) in
    λ i. with_node_row t (a i) (b i) p
any_next n m t (SetContaining node face) can =
    let a = there n.node m.node _ node can.0 in
    let b = old_if_any n.face m.face face (any_old _ face can.1) in
    λ i. record t { nodes = with_change node_id_of t.nodes (a i) (λ r. record r { containing_face = b i }) }
any_next n m t (SetPoint node p) can = let a = there n.node m.node _ node can in λ i. record t { nodes = with_change node_id_of t.nodes (a i) (λ r. record r { geom = p }) }
any_next n m t (DropNode node) can = let a = there n.node m.node _ node can in λ i. record t { nodes = without_row node_id_of t.nodes (a i) }
any_next n m t (AddEdge edge start end next_left next_right left right line) can =
    let a = old_number n.edge m.edge edge (next_old _ edge can.0) in
    let b = there n.node m.node _ start can.1 in
    let c = there n.node m.node _ end can.2 in
    let d = dart_there n m next_left _ can.3 in
    let e = dart_there n m next_right _ can.4 in
    let f = there n.face m.face _ left can.5 in
    let g = there n.face m.face _ right can.6 in
    λ i. record t {
      edges = t.edges ++ record { edge_id = a i; start_node = b i; end_node = c i; next_left_edge = d i; next_right_edge = e i; left_face = f i; right_face = g i; geom = line } ∷ [];
      next_ids = record (t.next_ids) { edge = t.next_ids.edge + 1 };
    }
any_next n m t (SetNext edge hand next) can =
    let a = there n.edge m.edge _ edge can.0 in
    let d = dart_there n m next _ can.1 in
    λ i. record t { edges = with_change edge_row_id t.edges (a i) (with_next hand (d i)) }
any_next n m t (SetSide edge hand face) can =
    let a = there n.edge m.edge _ edge can.0 in
    let f = there n.face m.face _ face can.1 in
    λ i. record t { edges = with_change edge_row_id t.edges (a i) (with_side hand (f i)) }
any_next n m t (SetLine edge start end line) can =
    let a = there n.edge m.edge _ edge can.0 in
    let b = there n.node m.node _ start can.1 in
    let c = there n.node m.node _ end can.2 in
    λ i. record t { edges = with_change edge_row_id t.edges (a i) (λ r. record r { start_node = b i; end_node = c i; geom = line }) }
any_next n m t (DropEdge edge) can = let a = there n.edge m.edge _ edge can in λ i. record t { edges = without_row edge_row_id t.edges (a i) }
any_next n m t (AddFace face mbr) can =
    let a = old_number n.face m.face face (next_old _ face can) in
    λ i. record t { faces = t.faces ++ record { face_id = a i; mbr = mbr } ∷ []; next_ids = record (t.next_ids) { face = t.next_ids.face + 1 } }
any_next n m t (SetBox face mbr) can = let a = there n.face m.face _ face can.0 in λ i. record t { faces = with_change face_row_id t.faces (a i) (λ r. record r { mbr = mbr }) }
any_next n m t (DropFace face) can = let a = there n.face m.face _ face can.0 in λ i. record t { faces = without_row face_row_id t.faces (a i) }
any_next n m t (AddLayer layer level child kind name) can =
    let a = old_number n.layer m.layer layer (next_old _ layer can.0) in
    let b = old_if_any n.layer m.layer child (any_old _ child can.1) in
    λ i. record t {
      layers = t.layers ++ record { layer_id = a i; level = level; child_id = b i; feature_type = kind; name = name } ∷ [];
      next_ids = record (t.next_ids) { layer = t.next_ids.layer + 1 };
    }
any_next n m t (AddFeature feature layer) can =
    let a = old_number n.feature m.feature feature (next_old _ feature can.0) in
    let b = there n.layer m.layer _ layer can.1 in
    λ i. record t { features = t.features ++ record { feature_id = a i; layer_id = b i } ∷ []; next_ids = record (t.next_ids) { feature = t.next_ids.feature + 1 } }
any_next n m t (DropFeature feature) can = let a = there n.feature m.feature _ feature can in λ i. record t { features = without_row feature_id_of t.features (a i) }
any_next n m t (AddRow feature layer element type) can =
    let a = row_old n m feature layer element type (is_old _ feature can.0) (is_old _ layer can.1) can.2 in
    λ i. record t { relations = insert_row (a i) t.relations }
any_next n m t (DropRow feature layer element type) can =
    let a = row_old n m feature layer element type can.0 can.1 can.2 in
    λ i. record t { relations = filter (λ r. not (same_row (a i) r)) t.relations }
any_next n m t (Raise element) can = refl

pub any_next_all : (n m : Counters) (t : Tables) (ws : List RowWrite) → CanWriteAll n t ws → all_written n t ws ≡ all_written m t ws
any_next_all n m t [] can = refl
any_next_all n m t (w ∷ ws) can = any_next_all n m (written n t w) ws can.1 ∙ ap (λ (u : Tables). all_written m u ws) (any_next n m t w can.0)

pub can_any_next : (n m : Counters) (t : Tables) (ws : List RowWrite) → CanWriteAll n t ws → CanWriteAll m t ws
can_any_next n m t [] can = tt
can_any_next n m t (w ∷ ws) can = (can.0, subst (λ (u : Tables). CanWriteAll m u ws) (any_next n m t w can.0) (can_any_next n m (written n t w) ws can.1))

pub drafted_more : (S : Drawing) (d e : Drafted) (ws : List RowWrite) → IsDraftOf S d → CanWriteAll d.rows.next_ids d.rows ws
    → e ≡ record { rows = all_written d.rows.next_ids d.rows ws; writes = d.writes ++ ws } → IsDraftOf S e
drafted_more S d e ws h can is =
    let n = S.next_ids in
    let can' = can_any_next d.rows.next_ids n d.rows ws can in
    let can'' = subst (λ (t : Tables). CanWriteAll n t ws) h.rows can' in
    let rows = any_next_all d.rows.next_ids n d.rows ws can ∙ ap (λ (t : Tables). all_written n t ws) h.rows ∙ sym (written-append n (tables_of S) d.writes ws) in
    subst (IsDraftOf S) (sym is) (record { writable = can_write-append n (tables_of S) d.writes ws h.writable can''; rows = rows })

pub on_ok : {A X : Type 0} (P Q : Type 0) (r : Result A X) → (P → Q) → OnOk r P → OnOk r Q
on_ok P Q (Ok x) step h = step h
on_ok P Q (Err e) step h = h

-- the first of some writes was made: the others may be, and leave what all leave
pub more_to_make : (n : Counters) (t u : Tables) (w : RowWrite) (ws : List RowWrite) → CanWriteAll n t (w ∷ ws) → u ≡ written t.next_ids t w
    → CanWriteAll n u ws × (all_written n u ws ≡ all_written n t (w ∷ ws))
more_to_make n t u w ws can made =
    let same : u ≡ written n t w = made ∙ any_next t.next_ids n t w can.0 in (
      subst (λ (v : Tables). CanWriteAll n v ws) (sym same) can.1,
      ap (λ (v : Tables). all_written n v ws) same,
    )

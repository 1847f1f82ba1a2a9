-- The row writes of a split leave the rows of the drawing after it.
use Rattle.std.proofs.Common.{◌≡◌, ℕ, ◌+◌, refl, sym, ◌∙◌, ap, arith, Bool, true, false, not, cond, eqb-true, eq-eqb, List, [], ◌∷◌, ◌++◌, map, subst, None, append_assoc}
use Rattle.std.specs.Prelude.{◌==◌, flat_map}
use Rattle.std.specs.List.{Contains}
use Rattle.std.proofs.lemmas.Bool.{false_from_ne_true}
use Rattle.topo_base.specs.Point.{Point}
use Rattle.topo_base.specs.declared.ids.Dart.{Dart}
use Rattle.topo_base.specs.declared.rows.Counters.{Counters}
use Rattle.topo_base.specs.declared.rows.EdgeRow.{EdgeRow}
use Rattle.topo_base.specs.declared.rows.RelationRow.{RelationRow}
use Rattle.topo_base.specs.declared.write.Hand.TheVariants.{Left, Right}
use Rattle.topo_base.specs.declared.write.RowId.TheVariants.{Old}
use Rattle.topo_base.specs.declared.write.RowWrite.{RowWrite}
use Rattle.topo_base.specs.declared.write.RowWrite.TheVariants.{AddNode, SetLine, SetNext}
use Rattle.drawing.specs.Drawing.{Drawing, Edge, edge_id_of}
use Rattle.drawing.specs.HalfEdge.{both_ways, half_edges}
use Rattle.plane.specs.Line.{line_up_to}
use Rattle.drawing.specs.Rows.{without_row}
use Rattle.drawing.specs.SplitEdge.{first_part, second_part}
use Rattle.drawing.specs.Tables.{Tables, edge_row, tables_of}
use Rattle.drawing.specs.Writes.{all_written, edge_row_id, with_next, written}
use Rattle.plane.proofs.ListTests.{contains_here, contains_there}
use Rattle.drawing.proofs.Members.{ids_within}
use Rattle.drawing.proofs.WritesInOrder.{written-append}
use Rattle.face_rings.proofs.HalvesApart.{one_edge}
use Rattle.edge_links.proofs.Linking.{Link, all_set, row_with}
use Rattle.edge_links.proofs.RightUnlinks.{tables_linked}
use Rattle.edge_split.specs.Renamed.{renamed}
use Rattle.edge_split.specs.Splitting.{mod_edges, new_edges, split_mod_in, split_new_in, rows_boxed_as}
use Rattle.edge_split.specs.Relinks.{all_relinks}
use Rattle.edge_split.specs.Writes.{dart_named, first_write, last_writes, mod_writes, new_writes, second_write}
use Rattle.edge_split.proofs.LinkWrites.{all_links, follower, row_kept, row_relinked, writes_are}
use Rattle.edge_split.proofs.SplitLinks.{IsSplitOf, first_goes_back, first_goes_on, other_links, second_goes_back, second_goes_on}

-- the row of an edge of the drawing
abbrev pub row_of : Drawing → Edge → EdgeRow
row_of S e = edge_row (half_edges S) e

-- its links by their new names
abbrev pub new_link : Drawing → ℕ → ℕ → ℕ → Edge → Bool → Dart
new_link S m id id' x way = renamed m id id' (follower (half_edges S) x way)

-- the links that are set
abbrev pub set_links : Drawing → ℕ → ℕ → ℕ → List Link
set_links S m id id' = all_links (renamed m id id') (half_edges S) S.edges

-- ---- ids
pub fresh : (S : Drawing) (e : Edge) (p : Point) (id id' : ℕ) (fs : List Edge) (rows : List RelationRow) (ids : Counters) → IsSplitOf S e p id id' fs rows ids → (k : ℕ) (y : Edge) → Contains S.edges y → S.next_ids.edge + k ≡ y.edge_id → ⊥
fresh S e p id id' fs rows ids h k y c is = let below = (ids_within edge_id_of 0 S.next_ids.edge S.edges y h.lines.edge_ids c).1 in omega arith

pub one_of : (S : Drawing) (e : Edge) (p : Point) (id id' : ℕ) (fs : List Edge) (rows : List RelationRow) (ids : Counters) → IsSplitOf S e p id id' fs rows ids
    → (x y : Edge) → Contains S.edges x → Contains S.edges y → x.edge_id ≡ y.edge_id → x ≡ y
one_of S e p id id' fs rows ids h x y cx cy same = one_edge S x y h.lines cx cy same

pub differs : (a b : ℕ) → (a ≡ b → ⊥) → (a == b) ≡ false
differs a b other = false_from_ne_true (a == b) (λ t. other (eqb-true a b t))

clash : true ≡ false → ⊥
clash k = cc

-- ---- modedgesplit: the line of the edge, and what follows it
abbrev pub with_line : Edge → Point → ℕ → EdgeRow → EdgeRow
with_line e p n r = cond (edge_row_id r == e.edge_id) (record r { start_node = e.start_node; end_node = n; geom = line_up_to p e.geom }) r

abbrev pub with_left : ℕ → Dart → EdgeRow → EdgeRow
with_left id d r = cond (edge_row_id r == id) (with_next Left d r) r

abbrev pub with_right : ℕ → Dart → EdgeRow → EdgeRow
with_right id d r = cond (edge_row_id r == id) (with_next Right d r) r

abbrev on : ℕ → Dart
on id = record { edge = id; forward = true }

abbrev back : ℕ → Dart
back id = record { edge = id; forward = false }

abbrev changed : Drawing → Edge → Point → Edge → Edge
changed S e p x = cond (x.edge_id == e.edge_id) (first_part x S.next_ids.node p x.edge_id) x

mod_other : (S : Drawing) (e : Edge) (p : Point) (rows : List RelationRow) (ids : Counters) → IsSplitOf S e p e.edge_id S.next_ids.edge (mod_edges S e p) rows ids → (x : Edge) → Contains S.edges x → (x.edge_id ≡ e.edge_id → ⊥)
    → with_left e.edge_id (on S.next_ids.edge) (with_line e p S.next_ids.node (all_set (set_links S e.edge_id e.edge_id S.next_ids.edge) (row_of S x))) ≡ edge_row (flat_map both_ways (mod_edges S e p)) (changed S e p x)
mod_other S e p rows ids h x c other =
    let new = S.next_ids.edge in
    let l = new_link S e.edge_id e.edge_id new x true in
    let r = new_link S e.edge_id e.edge_id new x false in
    let row = row_with x l r in
    let off = differs x.edge_id e.edge_id other in
    let links = other_links S e p e.edge_id new (mod_edges S e p) rows ids h x c other in
    ap (λ (z : EdgeRow). with_left e.edge_id (on new) (with_line e p S.next_ids.node z)) (row_relinked (renamed e.edge_id e.edge_id new) (half_edges S) S.edges (one_of S e p e.edge_id new (mod_edges S e p) rows ids h) x c)
    ∙ ap (λ b. with_left e.edge_id (on new) (cond b (record row { start_node = e.start_node; end_node = S.next_ids.node; geom = line_up_to p e.geom }) row)) off
    ∙ ap (λ b. cond b (with_next Left (on new) row) row) off
    ∙ (λ i. row_with x (sym links.0 i) (sym links.1 i))
    ∙ ap (λ b. edge_row (flat_map both_ways (mod_edges S e p)) (cond b (first_part x S.next_ids.node p x.edge_id) x)) (sym off)

mod_own : (S : Drawing) (e : Edge) (p : Point) (rows : List RelationRow) (ids : Counters) → IsSplitOf S e p e.edge_id S.next_ids.edge (mod_edges S e p) rows ids
    → with_left e.edge_id (on S.next_ids.edge) (with_line e p S.next_ids.node (all_set (set_links S e.edge_id e.edge_id S.next_ids.edge) (row_of S e))) ≡ edge_row (flat_map both_ways (mod_edges S e p)) (changed S e p e)
mod_own S e p rows ids h =
    let new = S.next_ids.edge in
    let l = new_link S e.edge_id e.edge_id new e true in
    let r = new_link S e.edge_id e.edge_id new e false in
    let row = row_with e l r in
    let part = first_part e S.next_ids.node p e.edge_id in
    let same = eq-eqb e.edge_id e.edge_id refl in
    ap (λ (z : EdgeRow). with_left e.edge_id (on new) (with_line e p S.next_ids.node z))
    (row_relinked (renamed e.edge_id e.edge_id new) (half_edges S) S.edges (one_of S e p e.edge_id new (mod_edges S e p) rows ids h) e h.split.there)
    ∙ ap (λ b. with_left e.edge_id (on new) (cond b (record row { start_node = e.start_node; end_node = S.next_ids.node; geom = line_up_to p e.geom }) row)) same
    ∙ ap (λ b. cond b (with_next Left (on new) (row_with part l r)) (row_with part l r)) same
    ∙ (λ i. row_with part (sym (first_goes_on S e p e.edge_id new (mod_edges S e p) rows ids h) i) (sym (first_goes_back S e p e.edge_id new (mod_edges S e p) rows ids h) i))
    ∙ ap (λ b. edge_row (flat_map both_ways (mod_edges S e p)) (cond b (first_part e S.next_ids.node p e.edge_id) e)) (sym same)

mod_second : (S : Drawing) (e : Edge) (p : Point) (rows : List RelationRow) (ids : Counters) → IsSplitOf S e p e.edge_id S.next_ids.edge (mod_edges S e p) rows ids
    → with_left e.edge_id (on S.next_ids.edge)
    (with_line e p S.next_ids.node (all_set (set_links S e.edge_id e.edge_id S.next_ids.edge) (row_with (second_part e S.next_ids.node p S.next_ids.edge) (new_link S e.edge_id e.edge_id S.next_ids.edge e true) (back e.edge_id))))
    ≡ edge_row (flat_map both_ways (mod_edges S e p)) (second_part e S.next_ids.node p S.next_ids.edge)
mod_second S e p rows ids h =
    let new = S.next_ids.edge in
    let z = second_part e S.next_ids.node p new in
    let l = new_link S e.edge_id e.edge_id new e true in
    let row = row_with z l (back e.edge_id) in
    let later = λ (y : Edge) (c : Contains S.edges y) (q : new ≡ y.edge_id). fresh S e p e.edge_id new (mod_edges S e p) rows ids h 0 y c (omega (arith, q)) in
    let off = differs new e.edge_id (λ q. later e h.split.there q) in
    ap (λ (r : EdgeRow). with_left e.edge_id (on new) (with_line e p S.next_ids.node r)) (row_kept (renamed e.edge_id e.edge_id new) (half_edges S) S.edges z l (back e.edge_id) later)
    ∙ ap (λ b. with_left e.edge_id (on new) (cond b (record row { start_node = e.start_node; end_node = S.next_ids.node; geom = line_up_to p e.geom }) row)) off
    ∙ ap (λ b. cond b (with_next Left (on new) row) row) off
    ∙ (λ i. row_with z (sym (second_goes_on S e p e.edge_id new (mod_edges S e p) rows ids h) i) (sym (second_goes_back S e p e.edge_id new (mod_edges S e p) rows ids h) i))

three_maps : (f g k : EdgeRow → EdgeRow) (row new : Edge → EdgeRow) (change : Edge → Edge) (last : EdgeRow) (z : Edge) (xs : List Edge) → ((x : Edge) → Contains xs x → k (g (f (row x))) ≡ new (change x)) → k (g (f last)) ≡ new z
    → map k (map g (map f (map row xs ++ last ∷ []))) ≡ map new (map change xs ++ z ∷ [])
three_maps f g k row new change last z [] each end = ap (λ r. r ∷ []) end
three_maps f g k row new change last z (x ∷ xs) each end = λ i. each x (contains_here x xs) i ∷ three_maps f g k row new change last z xs (λ y c. each y (contains_there y x xs c)) end i

mod_each : (S : Drawing) (e : Edge) (p : Point) (rows : List RelationRow) (ids : Counters) → IsSplitOf S e p e.edge_id S.next_ids.edge (mod_edges S e p) rows ids → (x : Edge) → Contains S.edges x
    → with_left e.edge_id (on S.next_ids.edge) (with_line e p S.next_ids.node (all_set (set_links S e.edge_id e.edge_id S.next_ids.edge) (row_of S x))) ≡ edge_row (flat_map both_ways (mod_edges S e p)) (changed S e p x)
mod_each S e p rows ids h x c = by (x.edge_id == e.edge_id) refl
  where
    by : (b : Bool) → (x.edge_id == e.edge_id) ≡ b
        → with_left e.edge_id (on S.next_ids.edge) (with_line e p S.next_ids.node (all_set (set_links S e.edge_id e.edge_id S.next_ids.edge) (row_of S x))) ≡ edge_row (flat_map both_ways (mod_edges S e p)) (changed S e p x)
    by true is =
        subst (λ (z : Edge). with_left e.edge_id (on S.next_ids.edge) (with_line e p S.next_ids.node (all_set (set_links S e.edge_id e.edge_id S.next_ids.edge) (row_of S z))) ≡ edge_row (flat_map both_ways (mod_edges S e p)) (changed S e p z))
        (one_edge S e x h.lines h.split.there c (sym (eqb-true x.edge_id e.edge_id is))) (mod_own S e p rows ids h)
    by false is = mod_other S e p rows ids h x c (λ q. absurd (clash (sym (eq-eqb x.edge_id e.edge_id q) ∙ is)))

-- the tables before links are set
abbrev pub mod_begun : Drawing → Edge → Point → Tables
mod_begun S e p = written S.next_ids (written S.next_ids (tables_of S) (AddNode (Old S.next_ids.node) None p)) (second_write (row_of S e) p S.next_ids.node e.edge_id S.next_ids.edge)

abbrev pub mod_last : Drawing → Edge → Point → List RowWrite
mod_last S e p = SetLine (Old e.edge_id) (Old e.start_node) (Old S.next_ids.node) (line_up_to p e.geom) ∷ SetNext (Old e.edge_id) Left (dart_named S.next_ids.edge true) ∷ []

pub mod_written : (S : Drawing) (e : Edge) (p : Point) (rows : List RelationRow) (ids : Counters) → IsSplitOf S e p e.edge_id S.next_ids.edge (mod_edges S e p) rows ids
    → all_written S.next_ids (tables_of S) (mod_writes (tables_of S).edges (row_of S e) p S.next_ids.node S.next_ids.edge) ≡ rows_boxed_as S (split_mod_in S e p)
mod_written S e p rows ids h =
    let new = S.next_ids.edge in
    let ks = set_links S e.edge_id e.edge_id new in
    let t = mod_begun S e p in
    let all = three_maps (all_set ks) (with_line e p S.next_ids.node) (with_left e.edge_id (on new)) (row_of S) (edge_row (flat_map both_ways (mod_edges S e p))) (changed S e p)
    (row_with (second_part e S.next_ids.node p new) (new_link S e.edge_id e.edge_id new e true) (back e.edge_id)) (second_part e S.next_ids.node p new) S.edges (mod_each S e p rows ids h) (mod_second S e p rows ids h) in
    written-append S.next_ids t (all_relinks (renamed e.edge_id e.edge_id new) (tables_of S).edges) (mod_last S e p)
    ∙ ap (λ (ws : List RowWrite). all_written S.next_ids (all_written S.next_ids t ws) (mod_last S e p)) (writes_are (renamed e.edge_id e.edge_id new) (half_edges S) S.edges)
    ∙ ap (λ (u : Tables). all_written S.next_ids u (mod_last S e p)) (tables_linked S.next_ids t ks)
    ∙ (λ i. record (rows_boxed_as S (split_mod_in S e p)) { edges = all i })

-- ---- newedgessplit
new_each : (S : Drawing) (e : Edge) (p : Point) (rows : List RelationRow) (ids : Counters) → IsSplitOf S e p S.next_ids.edge (S.next_ids.edge + 1) (new_edges S e p) rows ids → (x : Edge) → Contains S.edges x
    → with_right S.next_ids.edge (new_link S e.edge_id S.next_ids.edge (S.next_ids.edge + 1) e false) (with_left S.next_ids.edge (on (S.next_ids.edge + 1)) (all_set (set_links S e.edge_id S.next_ids.edge (S.next_ids.edge + 1)) (row_of S x)))
    ≡ row_with x (new_link S e.edge_id S.next_ids.edge (S.next_ids.edge + 1) x true) (new_link S e.edge_id S.next_ids.edge (S.next_ids.edge + 1) x false)
new_each S e p rows ids h x c =
    let one = S.next_ids.edge in
    let two = S.next_ids.edge + 1 in
    let row = row_with x (new_link S e.edge_id one two x true) (new_link S e.edge_id one two x false) in
    let d = new_link S e.edge_id one two e false in
    let off = differs x.edge_id one (λ q. fresh S e p one two (new_edges S e p) rows ids h 0 x c (omega (arith, q))) in
    ap (λ (z : EdgeRow). with_right one d (with_left one (on two) z)) (row_relinked (renamed e.edge_id one two) (half_edges S) S.edges (one_of S e p one two (new_edges S e p) rows ids h) x c)
    ∙ ap (λ b. with_right one d (cond b (with_next Left (on two) row) row)) off
    ∙ ap (λ b. cond b (with_next Right d row) row) off

new_first : (S : Drawing) (e : Edge) (p : Point) (rows : List RelationRow) (ids : Counters) → IsSplitOf S e p S.next_ids.edge (S.next_ids.edge + 1) (new_edges S e p) rows ids
    → with_right S.next_ids.edge (new_link S e.edge_id S.next_ids.edge (S.next_ids.edge + 1) e false)
    (with_left S.next_ids.edge (on (S.next_ids.edge + 1)) (all_set (set_links S e.edge_id S.next_ids.edge (S.next_ids.edge + 1)) (row_with (first_part e S.next_ids.node p S.next_ids.edge) (on S.next_ids.edge) (back S.next_ids.edge))))
    ≡ edge_row (flat_map both_ways (new_edges S e p)) (first_part e S.next_ids.node p S.next_ids.edge)
new_first S e p rows ids h =
    let one = S.next_ids.edge in
    let two = S.next_ids.edge + 1 in
    let z = first_part e S.next_ids.node p one in
    let row = row_with z (on one) (back one) in
    let d = new_link S e.edge_id one two e false in
    let same = eq-eqb one one refl in
    ap (λ (r : EdgeRow). with_right one d (with_left one (on two) r)) (row_kept (renamed e.edge_id one two) (half_edges S) S.edges z (on one) (back one) (λ y c q. fresh S e p one two (new_edges S e p) rows ids h 0 y c (omega (arith, q))))
    ∙ ap (λ b. with_right one d (cond b (with_next Left (on two) row) row)) same
    ∙ ap (λ b. cond b (with_next Right d (row_with z (on two) (back one))) (row_with z (on two) (back one))) same
    ∙ (λ i. row_with z (sym (first_goes_on S e p one two (new_edges S e p) rows ids h) i) (sym (first_goes_back S e p one two (new_edges S e p) rows ids h) i))

new_second : (S : Drawing) (e : Edge) (p : Point) (rows : List RelationRow) (ids : Counters) → IsSplitOf S e p S.next_ids.edge (S.next_ids.edge + 1) (new_edges S e p) rows ids
    → with_right S.next_ids.edge (new_link S e.edge_id S.next_ids.edge (S.next_ids.edge + 1) e false)
    (with_left S.next_ids.edge (on (S.next_ids.edge + 1))
    (all_set (set_links S e.edge_id S.next_ids.edge (S.next_ids.edge + 1)) (row_with (second_part e S.next_ids.node p (S.next_ids.edge + 1)) (new_link S e.edge_id S.next_ids.edge (S.next_ids.edge + 1) e true) (back S.next_ids.edge))))
    ≡ edge_row (flat_map both_ways (new_edges S e p)) (second_part e S.next_ids.node p (S.next_ids.edge + 1))
new_second S e p rows ids h =
    let one = S.next_ids.edge in
    let two = S.next_ids.edge + 1 in
    let z = second_part e S.next_ids.node p two in
    let l = new_link S e.edge_id one two e true in
    let row = row_with z l (back one) in
    let d = new_link S e.edge_id one two e false in
    let off = differs two one (λ q. absurd (omega (arith, q))) in
    ap (λ (r : EdgeRow). with_right one d (with_left one (on two) r)) (row_kept (renamed e.edge_id one two) (half_edges S) S.edges z l (back one) (λ y c q. fresh S e p one two (new_edges S e p) rows ids h 1 y c q))
    ∙ ap (λ b. with_right one d (cond b (with_next Left (on two) row) row)) off
    ∙ ap (λ b. cond b (with_next Right d row) row) off
    ∙ (λ i. row_with z (sym (second_goes_on S e p one two (new_edges S e p) rows ids h) i) (sym (second_goes_back S e p one two (new_edges S e p) rows ids h) i))

-- rows are changed, and one goes
keep_row : (m : ℕ) (r : EdgeRow) (rest : List EdgeRow) (b : Bool) → (edge_row_id r == m) ≡ b → cond (not (edge_row_id r == m)) (r ∷ rest) rest ≡ cond (not b) (r ∷ rest) rest
keep_row m r rest b is = ap (λ t. cond (not t) (r ∷ rest) rest) is

maps_less : (m : ℕ) (f g k : EdgeRow → EdgeRow) (row same new : Edge → EdgeRow) (a b : EdgeRow) (y z : Edge) (xs : List Edge)
    → ((x : Edge) → Contains xs x → (k (g (f (row x))) ≡ same x) × (edge_row_id (same x) ≡ x.edge_id) × ((x.edge_id == m) ≡ false → same x ≡ new x))
    → (k (g (f a)) ≡ new y) × ((edge_row_id (new y) == m) ≡ false) → (k (g (f b)) ≡ new z) × ((edge_row_id (new z) == m) ≡ false)
    → without_row edge_row_id (map k (map g (map f (map row xs ++ a ∷ b ∷ [])))) m ≡ map new (without_row edge_id_of xs m ++ y ∷ z ∷ [])
maps_less m f g k row same new a b y z [] each one two =
    (λ i. without_row edge_row_id (one.0 i ∷ two.0 i ∷ []) m)
    ∙ ap (λ t. cond (not t) (new y ∷ without_row edge_row_id (new z ∷ []) m) (without_row edge_row_id (new z ∷ []) m)) one.1
    ∙ ap (λ t. new y ∷ cond (not t) (new z ∷ []) []) two.1
maps_less m f g k row same new a b y z (x ∷ xs) each one two =
    let h = each x (contains_here x xs) in
    let rest = maps_less m f g k row same new a b y z xs (λ w c. each w (contains_there w x xs c)) one two in
    (λ i. cond (not (edge_row_id (h.0 i) == m)) (h.0 i ∷ rest i) (rest i))
    ∙ ap (λ n. cond (not (n == m)) (same x ∷ map new (without_row edge_id_of xs m ++ y ∷ z ∷ [])) (map new (without_row edge_id_of xs m ++ y ∷ z ∷ []))) h.1
    ∙ by (x.edge_id == m) h.2
  where
    by : (t : Bool) → (t ≡ false → same x ≡ new x) → cond (not t) (same x ∷ map new (without_row edge_id_of xs m ++ y ∷ z ∷ [])) (map new (without_row edge_id_of xs m ++ y ∷ z ∷ []))
        ≡ map new (cond (not t) (x ∷ without_row edge_id_of xs m) (without_row edge_id_of xs m) ++ y ∷ z ∷ [])
    by true is = refl
    by false is = ap (λ r. r ∷ map new (without_row edge_id_of xs m ++ y ∷ z ∷ [])) (is refl)

new_kept : (S : Drawing) (e : Edge) (p : Point) (rows : List RelationRow) (ids : Counters) → IsSplitOf S e p S.next_ids.edge (S.next_ids.edge + 1) (new_edges S e p) rows ids → (x : Edge) → Contains S.edges x → (x.edge_id == e.edge_id) ≡ false
    → row_with x (new_link S e.edge_id S.next_ids.edge (S.next_ids.edge + 1) x true) (new_link S e.edge_id S.next_ids.edge (S.next_ids.edge + 1) x false) ≡ edge_row (flat_map both_ways (new_edges S e p)) x
new_kept S e p rows ids h x c off =
    let links = other_links S e p S.next_ids.edge (S.next_ids.edge + 1) (new_edges S e p) rows ids h x c (λ q. clash (sym (eq-eqb x.edge_id e.edge_id q) ∙ off)) in
    λ i. row_with x (sym links.0 i) (sym links.1 i)

abbrev pub new_begun : Drawing → Edge → Point → Tables
new_begun S e p =
    written S.next_ids (written S.next_ids (written S.next_ids (tables_of S) (AddNode (Old S.next_ids.node) None p)) (first_write (row_of S e) p S.next_ids.node S.next_ids.edge))
    (second_write (row_of S e) p S.next_ids.node S.next_ids.edge (S.next_ids.edge + 1))

pub new_written : (S : Drawing) (e : Edge) (p : Point) (rows : List RelationRow) (ids : Counters) → IsSplitOf S e p S.next_ids.edge (S.next_ids.edge + 1) (new_edges S e p) rows ids
    → all_written S.next_ids (tables_of S) (new_writes (tables_of S).edges (row_of S e) p S.next_ids.node S.next_ids.edge (S.next_ids.edge + 1)) ≡ rows_boxed_as S (split_new_in S e p)
new_written S e p rows ids h =
    let one = S.next_ids.edge in
    let two = S.next_ids.edge + 1 in
    let ks = set_links S e.edge_id one two in
    let t = new_begun S e p in
    let last = last_writes (row_of S e) one two in
    let d = new_link S e.edge_id one two e false in
    let all = maps_less e.edge_id (all_set ks) (with_left one (on two)) (with_right one d) (row_of S) (λ x. row_with x (new_link S e.edge_id one two x true) (new_link S e.edge_id one two x false))
    (edge_row (flat_map both_ways (new_edges S e p))) (row_with (first_part e S.next_ids.node p one) (on one) (back one)) (row_with (second_part e S.next_ids.node p two) (new_link S e.edge_id one two e true) (back one))
    (first_part e S.next_ids.node p one) (second_part e S.next_ids.node p two) S.edges
    (λ x c. (new_each S e p rows ids h x c, refl, new_kept S e p rows ids h x c))
    (new_first S e p rows ids h, differs one e.edge_id (λ q. fresh S e p one two (new_edges S e p) rows ids h 0 e h.split.there (omega (arith, q))))
    (new_second S e p rows ids h, differs two e.edge_id (λ q. fresh S e p one two (new_edges S e p) rows ids h 1 e h.split.there q)) in
    let first_row = row_with (first_part e S.next_ids.node p one) (on one) (back one) in
    let second_row = row_with (second_part e S.next_ids.node p two) (new_link S e.edge_id one two e true) (back one) in
    let rows_are = append_assoc (map (row_of S) S.edges) (first_row ∷ []) (second_row ∷ []) in
    let more : S.next_ids.edge + 1 + 1 ≡ S.next_ids.edge + 2 = omega arith in
    written-append S.next_ids t (all_relinks (renamed e.edge_id one two) (tables_of S).edges) last
    ∙ ap (λ (ws : List RowWrite). all_written S.next_ids (all_written S.next_ids t ws) last) (writes_are (renamed e.edge_id one two) (half_edges S) S.edges)
    ∙ ap (λ (u : Tables). all_written S.next_ids u last) (tables_linked S.next_ids t ks)
    ∙ (λ i. all_written S.next_ids (record t { edges = map (all_set ks) (rows_are i) }) last)
    ∙ (λ i. record (rows_boxed_as S (split_new_in S e p)) { edges = all i; next_ids = record (split_new_in S e p).next_ids { edge = more i } })

-- The rows of edges where a new edge comes in the place of two that are healed.
use Rattle.std.proofs.Common.{◌≡◌, ℕ, refl, sym, ◌∙◌, ap, arith, Bool, true, false, not, cond, eq-eqb, List, [], ◌∷◌, ◌++◌, map}
use Rattle.std.specs.Prelude.{◌==◌, flat_map}
use Rattle.std.specs.List.{Contains}
use Rattle.topo_base.specs.declared.ids.Dart.{Dart}
use Rattle.topo_base.specs.declared.rows.Counters.{Counters}
use Rattle.topo_base.specs.declared.rows.EdgeRow.{EdgeRow}
use Rattle.topo_base.specs.declared.rows.RelationRow.{RelationRow}
use Rattle.drawing.specs.Drawing.{Drawing, Edge, edge_id_of}
use Rattle.drawing.specs.HalfEdge.{both_ways, half_edges}
use Rattle.drawing.specs.HealEdges.{joined_edge}
use Rattle.drawing.specs.Rows.{without_row}
use Rattle.drawing.specs.Tables.{edge_row}
use Rattle.drawing.specs.Writes.{edge_row_id}
use Rattle.plane.proofs.ListTests.{contains_here, contains_there}
use Rattle.drawing.proofs.Members.{ids_within}
use Rattle.face_rings.proofs.HalvesApart.{one_edge}
use Rattle.edge_links.proofs.Linking.{all_set, row_with}
use Rattle.edge_heal.specs.NewHeal.{new_healed_edges}
use Rattle.edge_heal.proofs.HealLinks.{IsHealOf, name_in, other_links}
use Rattle.edge_heal.proofs.HealRows.{joined_back, joined_on}
use Rattle.edge_heal.proofs.HealedRows.{clash, heal_links, joined_sides, link_on}
use Rattle.edge_split.proofs.LinkWrites.{all_set_id, follower, row_kept, row_relinked}
use Rattle.edge_split.proofs.SplitRows.{differs}

-- what follows the joined edge, walked back to where the first edge came from
abbrev pub link_back : Drawing → ℕ → Edge → Edge → ℕ → Dart
link_back S n e f id = name_in n e f id (follower (half_edges S) e (not (n == e.end_node)))

-- the joined edge as it comes
abbrev pub came_row : Drawing → ℕ → Edge → Edge → EdgeRow
came_row S n e f =
    let id = S.next_ids.edge in
    let joined = joined_edge n e f id in
    let way = n == e.end_node in
    record {
      edge_id = id;
      start_node = joined.start_node;
      end_node = joined.end_node;
      next_left_edge = cond way (link_on S n e f id) (link_back S n e f id);
      next_right_edge = cond way (link_back S n e f id) (link_on S n e f id);
      left_face = joined.left_face;
      right_face = joined.right_face;
      geom = joined.geom;
    }

-- no edge has its id
pub id_is_new : (S : Drawing) (n : ℕ) (e f : Edge) (rows : List RelationRow) (ids : Counters) → IsHealOf S n e f S.next_ids.edge (new_healed_edges S n e f) rows ids → (y : Edge) → Contains S.edges y → S.next_ids.edge ≡ y.edge_id → ⊥
id_is_new S n e f rows ids h y c is = let below = (ids_within edge_id_of 0 S.next_ids.edge S.edges y h.lines.edge_ids c).1 in omega (arith, is, below)

-- links by their ways
record AreLinks (g : Bool → Dart) (way : Bool) (on back : Dart) : Type 0 where
  left : g true ≡ cond way on back
  right : g false ≡ cond way back on

links_by : (g : Bool → Dart) (way : Bool) (on back : Dart) → g way ≡ on → g (not way) ≡ back → AreLinks g way on back
links_by g true on back p q = record { left = p; right = q }
links_by g false on back p q = record { left = q; right = p }

-- it is the row of the joined edge, and stays so where links are set
joined_came : (S : Drawing) (n : ℕ) (e f : Edge) (rows : List RelationRow) (ids : Counters) → IsHealOf S n e f S.next_ids.edge (new_healed_edges S n e f) rows ids
    → all_set (heal_links S n e f S.next_ids.edge) (came_row S n e f) ≡ edge_row (flat_map both_ways (new_healed_edges S n e f)) (joined_edge n e f S.next_ids.edge)
joined_came S n e f rows ids h =
    let id = S.next_ids.edge in
    let fs = new_healed_edges S n e f in
    let joined = joined_edge n e f id in
    let way = n == e.end_node in
    let on = link_on S n e f id in
    let back = link_back S n e f id in
    let own = (joined_sides n e f id).own in
    let links = links_by (follower (flat_map both_ways fs) joined) way on back (joined_on S n e f id fs rows ids h) (joined_back S n e f id fs rows ids h) in
    ap (all_set (heal_links S n e f id)) (λ i. record (came_row S n e f) { edge_id = sym own i })
    ∙ row_kept (name_in n e f id) (half_edges S) S.edges joined (cond way on back) (cond way back on) (λ y c q. id_is_new S n e f rows ids h y c (sym own ∙ q))
    ∙ (λ i. row_with joined (sym links.left i) (sym links.right i))

-- another edge names what follows it by its new name
other_row : (S : Drawing) (n : ℕ) (e f : Edge) (rows : List RelationRow) (ids : Counters) → IsHealOf S n e f S.next_ids.edge (new_healed_edges S n e f) rows ids → (x : Edge) → Contains S.edges x
    → (x.edge_id == e.edge_id) ≡ false → (x.edge_id == f.edge_id) ≡ false
    → all_set (heal_links S n e f S.next_ids.edge) (edge_row (half_edges S) x) ≡ edge_row (flat_map both_ways (new_healed_edges S n e f)) x
other_row S n e f rows ids h x c off_first off_second =
    let id = S.next_ids.edge in
    let links = other_links S n e f id (new_healed_edges S n e f) rows ids h x c (λ q. clash (sym (eq-eqb x.edge_id e.edge_id q) ∙ off_first)) (λ q. clash (sym (eq-eqb x.edge_id f.edge_id q) ∙ off_second)) in
    row_relinked (name_in n e f id) (half_edges S) S.edges (λ a b ca cb same. one_edge S a b h.lines ca cb same) x c ∙ (λ i. row_with x (sym links.0 i) (sym links.1 i))

-- a row before others, of which two go
second_less : (k : ℕ) (x : Edge) (r : EdgeRow) (left : List EdgeRow) (kept : List Edge) (new : Edge → EdgeRow) (z : Edge) → (edge_row_id r == k) ≡ (x.edge_id == k) → ((x.edge_id == k) ≡ false → r ≡ new x)
    → without_row edge_row_id left k ≡ map new (without_row edge_id_of kept k ++ z ∷ []) → without_row edge_row_id (r ∷ left) k ≡ map new (without_row edge_id_of (x ∷ kept) k ++ z ∷ [])
second_less k x r left kept new z same is rest =
    ap (λ b. cond (not b) (r ∷ without_row edge_row_id left k) (without_row edge_row_id left k)) same ∙ by (x.edge_id == k) is
  where
    by : (b : Bool) → (b ≡ false → r ≡ new x)
        → cond (not b) (r ∷ without_row edge_row_id left k) (without_row edge_row_id left k) ≡ map new (cond (not b) (x ∷ without_row edge_id_of kept k) (without_row edge_id_of kept k) ++ z ∷ [])
    by true each = rest
    by false each = λ i. each refl i ∷ rest i

first_less : (m k : ℕ) (x : Edge) (r : EdgeRow) (left : List EdgeRow) (kept : List Edge) (new : Edge → EdgeRow) (z : Edge) → (edge_row_id r == k) ≡ (x.edge_id == k)
    → ((x.edge_id == m) ≡ false → (x.edge_id == k) ≡ false → r ≡ new x) → without_row edge_row_id left k ≡ map new (without_row edge_id_of kept k ++ z ∷ [])
    → without_row edge_row_id (cond (not (x.edge_id == m)) (r ∷ left) left) k ≡ map new (without_row edge_id_of (cond (not (x.edge_id == m)) (x ∷ kept) kept) k ++ z ∷ [])
first_less m k x r left kept new z same is rest = by (x.edge_id == m) is
  where
    by : (b : Bool) → (b ≡ false → (x.edge_id == k) ≡ false → r ≡ new x)
        → without_row edge_row_id (cond (not b) (r ∷ left) left) k ≡ map new (without_row edge_id_of (cond (not b) (x ∷ kept) kept) k ++ z ∷ [])
    by true each = rest
    by false each = second_less k x r left kept new z same (each refl) rest

-- rows are changed, one comes, and two go
two_less : (m k : ℕ) (change : EdgeRow → EdgeRow) (row new : Edge → EdgeRow) (a : EdgeRow) (z : Edge) (xs : List Edge)
    → ((x : Edge) → Contains xs x → (edge_row_id (change (row x)) ≡ x.edge_id) × ((x.edge_id == m) ≡ false → (x.edge_id == k) ≡ false → change (row x) ≡ new x))
    → (change a ≡ new z) × ((edge_row_id (new z) == m) ≡ false) × ((edge_row_id (new z) == k) ≡ false)
    → without_row edge_row_id (without_row edge_row_id (map change (map row xs ++ a ∷ [])) m) k ≡ map new (without_row edge_id_of (without_row edge_id_of xs m) k ++ z ∷ [])
two_less m k change row new a z [] each last =
    (λ i. without_row edge_row_id (without_row edge_row_id (last.0 i ∷ []) m) k)
    ∙ ap (λ t. without_row edge_row_id (cond (not t) (new z ∷ []) []) k) last.1
    ∙ ap (λ t. cond (not t) (new z ∷ []) []) last.2
two_less m k change row new a z (x ∷ xs) each last =
    let h = each x (contains_here x xs) in
    let left = without_row edge_row_id (map change (map row xs ++ a ∷ [])) m in
    ap (λ (id : ℕ). without_row edge_row_id (cond (not (id == m)) (change (row x) ∷ left) left) k) h.0
    ∙ first_less m k x (change (row x)) left (without_row edge_id_of xs m) new z (ap (λ (id : ℕ). id == k) h.0) h.1 (two_less m k change row new a z xs (λ y c. each y (contains_there y x xs c)) last)

-- once links are set, both edges have gone, and the joined one has come
pub new_healed_rows : (S : Drawing) (n : ℕ) (e f : Edge) (rows : List RelationRow) (ids : Counters) → IsHealOf S n e f S.next_ids.edge (new_healed_edges S n e f) rows ids
    → without_row edge_row_id (without_row edge_row_id (map (all_set (heal_links S n e f S.next_ids.edge)) (map (edge_row (half_edges S)) S.edges ++ came_row S n e f ∷ [])) e.edge_id) f.edge_id
    ≡ map (edge_row (flat_map both_ways (new_healed_edges S n e f))) (new_healed_edges S n e f)
new_healed_rows S n e f rows ids h =
    let id = S.next_ids.edge in
    let own = (joined_sides n e f id).own in
    two_less e.edge_id f.edge_id (all_set (heal_links S n e f id)) (edge_row (half_edges S)) (edge_row (flat_map both_ways (new_healed_edges S n e f))) (came_row S n e f) (joined_edge n e f id) S.edges
    (λ x c. (all_set_id (heal_links S n e f id) (edge_row (half_edges S) x), other_row S n e f rows ids h x c)) (
      joined_came S n e f rows ids h,
      differs (joined_edge n e f id).edge_id e.edge_id (λ q. id_is_new S n e f rows ids h e h.healed.e_there (sym own ∙ q)),
      differs (joined_edge n e f id).edge_id f.edge_id (λ q. id_is_new S n e f rows ids h f h.healed.f_there (sym own ∙ q)),
    )

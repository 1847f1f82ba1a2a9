-- The row writes by which a new edge comes in the place of two that are healed may be made, and what they leave.
use Rattle.std.proofs.Common.{◌≡◌, ℕ, ◌+◌, ◌<◌, ◌^◌, refl, sym, ◌∙◌, ap, subst, Bool, true, false, not, cond, eqb-true, eq-eqb, List, [], ◌∷◌, ◌++◌, map}
use Rattle.std.specs.Prelude.{◌==◌}
use Rattle.std.specs.List.{Contains, list_any}
use Rattle.std.proofs.lemmas.Bool.{or_left, or_right}
use Rattle.topo_base.specs.declared.ids.Dart.{Dart}
use Rattle.topo_base.specs.declared.rows.Counters.{Counters}
use Rattle.topo_base.specs.declared.rows.EdgeRow.{EdgeRow}
use Rattle.topo_base.specs.declared.rows.RelationRow.{RelationRow}
use Rattle.topo_base.specs.declared.write.RowWrite.{RowWrite}
use Rattle.drawing.specs.Drawing.{Drawing, Edge, has_face, has_node}
use Rattle.drawing.specs.HalfEdge.{half_edges}
use Rattle.drawing.specs.HealEdges.{joined_edge}
use Rattle.drawing.specs.Rows.{has_row, without_row}
use Rattle.drawing.specs.Tables.{Tables, edge_row, tables_of}
use Rattle.drawing.specs.Writable.{CanWrite, CanWriteAll, has_edge_or_next, has_edge_row}
use Rattle.drawing.specs.Writes.{all_written, dart_named, edge_row_id, written}
use Rattle.plane.proofs.ListTests.{contains_here}
use Rattle.drawing.proofs.Members.{contains-filter, contains-map}
use Rattle.drawing.proofs.WritesInOrder.{can_write-append, written-append}
use Rattle.ring_laws.proofs.Known.{any_in, any_out, any_more, any_behind}
use Rattle.edge_links.proofs.Linking.{all_set}
use Rattle.edge_links.proofs.Writing.{can_link}
use Rattle.edge_links.specs.Links.{row_dart}
use Rattle.edge_links.proofs.RightUnlinks.{tables_linked}
use Rattle.edge_heal.specs.NewHeal.{both_go, joined_write, new_heal_in, new_heal_writes, new_healed_edges}
use Rattle.edge_split.specs.Splitting.{rows_boxed_as}
use Rattle.edge_split.specs.Relinks.{all_relinks}
use Rattle.edge_heal.proofs.HealAllowed.{joined_known, name_known}
use Rattle.edge_heal.proofs.HealLinks.{IsHealOf, name_in}
use Rattle.edge_heal.proofs.HealedRows.{heal_links, joined_sides, link_on}
use Rattle.edge_split.proofs.LinkWrites.{all_set_id, follower, has_mapped, links_known, writes_are}
use Rattle.edge_heal.proofs.NewHealedRows.{came_row, link_back, new_healed_rows}
use Rattle.edge_split.proofs.SplitAllowed.{EndsKnown, face_there, follower_known, row_there}
use Rattle.edge_split.proofs.SplitRows.{differs}

-- the tables once the joined edge has come
abbrev pub joined_in : Drawing → ℕ → Edge → Edge → Tables
joined_in S n e f =
    let id = S.next_ids.edge in
    written S.next_ids (tables_of S) (joined_write e f n id (link_on S n e f id) (link_back S n e f id))

-- a dart is named as it is, whichever it is
named_by : (n : Counters) (way : Bool) (on back : Dart) → dart_named n (row_dart (cond way on back)) ≡ cond way on back
named_by n true on back = refl
named_by n false on back = refl

row_came : (S : Drawing) (n : ℕ) (e f : Edge) → (joined_in S n e f).edges ≡ (tables_of S).edges ++ came_row S n e f ∷ []
row_came S n e f =
    let id = S.next_ids.edge in
    let way = n == e.end_node in
    let left = named_by S.next_ids way (link_on S n e f id) (link_back S n e f id) in
    let right = named_by S.next_ids way (link_back S n e f id) (link_on S n e f id) in
    λ i. (tables_of S).edges ++ record (came_row S n e f) { next_left_edge = left i; next_right_edge = right i } ∷ []

-- what the writes leave
pub new_heal_written : (S : Drawing) (n : ℕ) (e f : Edge) (rows : List RelationRow) (ids : Counters) → IsHealOf S n e f S.next_ids.edge (new_healed_edges S n e f) rows ids
    → all_written S.next_ids (tables_of S) (new_heal_writes (tables_of S).edges e f n S.next_ids.edge (link_on S n e f S.next_ids.edge) (link_back S n e f S.next_ids.edge)) ≡ rows_boxed_as S (new_heal_in S e f n)
new_heal_written S n e f rows ids h =
    let id = S.next_ids.edge in
    let t = joined_in S n e f in
    let last = both_go e f n in
    let all = new_healed_rows S n e f rows ids h in
    written-append S.next_ids t (all_relinks (name_in n e f id) (tables_of S).edges) last
    ∙ ap (λ (ws : List RowWrite). all_written S.next_ids (all_written S.next_ids t ws) last) (writes_are (name_in n e f id) (half_edges S) S.edges)
    ∙ ap (λ (u : Tables). all_written S.next_ids u last) (tables_linked S.next_ids t (heal_links S n e f id))
    ∙ (λ i. all_written S.next_ids (record t { edges = map (all_set (heal_links S n e f id)) (row_came S n e f i) }) last)
    ∙ (λ i. record (rows_boxed_as S (new_heal_in S e f n)) { edges = all i })

-- ---- they may be made
-- a row with another id stays where one goes
row_stays : (rows : List EdgeRow) (m k : ℕ) → (k == m) ≡ false → has_row edge_row_id rows k ≡ true → has_row edge_row_id (without_row edge_row_id rows m) k ≡ true
row_stays rows m k other there =
    let (r, (c, is)) = any_out (λ (q : EdgeRow). edge_row_id q == k) rows there in
    let kept = contains-filter (λ (q : EdgeRow). not (edge_row_id q == m)) r rows c (ap not (ap (λ (j : ℕ). j == m) (eqb-true r.edge_id k is) ∙ other)) in
    any_in (λ (q : EdgeRow). edge_row_id q == k) (without_row edge_row_id rows m) r kept is

known_by : (has : ℕ → Bool) (way : Bool) (on back : Dart) → has on.edge ≡ true → has back.edge ≡ true → has (cond way on back).edge ≡ true
known_by has true on back p q = p
known_by has false on back p q = q

-- the joined edge may come
joined_may : (S : Drawing) (n : ℕ) (e f : Edge) (rows : List RelationRow) (ids : Counters) → IsHealOf S n e f S.next_ids.edge (new_healed_edges S n e f) rows ids → EndsKnown S e → EndsKnown S f → S.next_ids.edge + 1 < 2 ^ 32
    → CanWrite (tables_of S) (joined_write e f n S.next_ids.edge (link_on S n e f S.next_ids.edge) (link_back S n e f S.next_ids.edge))
joined_may S n e f rows ids h first second more =
    let t = tables_of S in
    let id = S.next_ids.edge in
    let way = n == e.end_node in
    let on = link_on S n e f id in
    let back = link_back S n e f id in
    let was = λ (x : Edge) (c : Contains S.edges x). or_left (has_edge_row t x.edge_id) (x.edge_id == id) (row_there t.edges (edge_row (half_edges S) x) (contains-map (edge_row (half_edges S)) x S.edges c)) in
    let next = or_right (has_edge_row t id) (id == id) (eq-eqb id id refl) in
    let known = λ (x : Edge) (w : Bool) (c : Contains S.edges x). name_known e.edge_id f.edge_id id way (has_edge_or_next t) (follower (half_edges S) x w) next (follower_known S (has_edge_or_next t) h.lines was x w c) in
    let on_known = known f (f.start_node == n) h.healed.f_there in
    let back_known = known e (not way) h.healed.e_there in
    let ends = joined_known S n e f id first second in
    let sides = joined_sides n e f id in
    let left = face_there S (joined_edge n e f id).left_face (ap (has_face S) sides.left ∙ first.left) in
    let right = face_there S (joined_edge n e f id).right_face (ap (has_face S) sides.right ∙ first.right) in (
      (refl, more),
      ends.start,
      ends.end,
      known_by (has_edge_or_next t) way on back on_known back_known,
      known_by (has_edge_or_next t) way back on back_known on_known,
      left,
      right,
    )

-- and then the links be set, and both edges and the node go
pub new_heal_can : (S : Drawing) (n : ℕ) (e f : Edge) (rows : List RelationRow) (ids : Counters) → IsHealOf S n e f S.next_ids.edge (new_healed_edges S n e f) rows ids → EndsKnown S e → EndsKnown S f → has_node S n ≡ true
    → S.next_ids.edge + 1 < 2 ^ 32
    → CanWriteAll S.next_ids (tables_of S) (new_heal_writes (tables_of S).edges e f n S.next_ids.edge (link_on S n e f S.next_ids.edge) (link_back S n e f S.next_ids.edge))
new_heal_can S n e f rows ids h first second node more =
    let t = joined_in S n e f in
    let id = S.next_ids.edge in
    let ren = name_in n e f id in
    let ks = heal_links S n e f id in
    let last = both_go e f n in
    let old = (tables_of S).edges in
    let there = λ (k : ℕ) (q : list_any (λ (r : EdgeRow). edge_row_id r == k) (old ++ came_row S n e f ∷ []) ≡ true). ap (λ (rs : List EdgeRow). has_row edge_row_id rs k) (row_came S n e f) ∙ q in
    let was = λ (x : Edge) (c : Contains S.edges x). there x.edge_id (any_more (λ (r : EdgeRow). edge_row_id r == x.edge_id) old (came_row S n e f ∷ []) (row_there old (edge_row (half_edges S) x) (contains-map (edge_row (half_edges S)) x S.edges c))) in
    let came = there id (any_behind (λ (r : EdgeRow). edge_row_id r == id) old (came_row S n e f ∷ []) (row_there (came_row S n e f ∷ []) (came_row S n e f) (contains_here (came_row S n e f) []))) in
    let next = λ (x : Edge) (way : Bool) (c : Contains S.edges x). name_known e.edge_id f.edge_id id (n == e.end_node) (has_edge_row t) (follower (half_edges S) x way) came (follower_known S (has_edge_row t) h.lines was x way c) in
    let is = writes_are ren (half_edges S) S.edges in
    let made = ap (all_written S.next_ids t) is ∙ tables_linked S.next_ids t ks in
    let set = map (all_set ks) t.edges in
    let at_set = λ (k : ℕ). has_mapped (all_set ks) (all_set_id ks) k t.edges in
    let other = row_stays set e.edge_id f.edge_id (differs f.edge_id e.edge_id (λ q. h.healed.differ (sym q))) (at_set f.edge_id ∙ was f h.healed.f_there) in
    let go : CanWriteAll S.next_ids (record t { edges = set }) last = (at_set e.edge_id ∙ was e h.healed.e_there, (other, (node, tt))) in (
      joined_may S n e f rows ids h first second more,
      can_write-append S.next_ids t (all_relinks ren old) last
          (subst (CanWriteAll S.next_ids t) (sym is) (can_link S.next_ids t ks (links_known ren (half_edges S) (has_edge_row t) S.edges was next)))
          (subst (λ (u : Tables). CanWriteAll S.next_ids u last) (sym made) go),
    )

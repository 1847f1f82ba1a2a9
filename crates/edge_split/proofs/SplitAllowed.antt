-- The row writes of a split may be made.
use Rattle.std.proofs.Common.{◌≡◌, ℕ, ◌+◌, ◌<◌, ◌^◌, refl, sym, ◌∙◌, ap, arith, ◌⊎◌, inl, inr, Bool, true, false, cond, eq-eqb, List, [], ◌∷◌, ◌++◌, map, subst, None}
use Rattle.std.specs.Prelude.{◌==◌, ◌&&◌}
use Rattle.std.specs.List.{Contains, list_all, list_any}
use Rattle.std.proofs.lemmas.Bool.{and_parts, or_left, or_right}
use Rattle.topo_base.specs.Point.{Point}
use Rattle.topo_base.specs.declared.ids.Dart.{Dart}
use Rattle.topo_base.specs.declared.rows.Counters.{Counters}
use Rattle.topo_base.specs.declared.rows.EdgeRow.{EdgeRow}
use Rattle.topo_base.specs.declared.rows.FaceRow.{FaceRow}
use Rattle.topo_base.specs.declared.rows.NodeRow.{NodeRow}
use Rattle.topo_base.specs.declared.rows.RelationRow.{RelationRow}
use Rattle.topo_base.specs.declared.write.RowId.TheVariants.{Old}
use Rattle.topo_base.specs.declared.write.RowWrite.{RowWrite}
use Rattle.topo_base.specs.declared.write.RowWrite.TheVariants.{AddNode}
use Rattle.drawing.specs.Drawing.{Drawing, Edge, has_face, has_node, node_id_of}
use Rattle.drawing.specs.HalfEdge.{HalfEdge, backward_of, forward_of, half_edges}
use Rattle.plane.specs.Line.{line_up_to}
use Rattle.drawing.specs.SplitEdge.{first_part, second_part}
use Rattle.drawing.specs.Star.{next_of}
use Rattle.drawing.specs.Subdivision.{is_edge_known}
use Rattle.drawing.specs.Tables.{Tables, edge_row, face_row, tables_of}
use Rattle.drawing.specs.Writable.{CanWriteAll, has_edge_or_next, has_edge_row}
use Rattle.drawing.specs.Writes.{all_written, edge_row_id, written}
use Rattle.plane.proofs.ListTests.{contains_here}
use Rattle.drawing.proofs.Members.{contains-map}
use Rattle.drawing.proofs.TableLemmas.{list_any-map}
use Rattle.drawing.proofs.WritesInOrder.{can_write-append}
use Rattle.face_rings.proofs.HalfLines.{HasPlainLines}
use Rattle.face_rings.proofs.HalvesApart.{backward_there, forward_there, half_of}
use Rattle.ring_laws.proofs.Known.{all_out, any_in, any_more, any_behind}
use Rattle.ring_laws.proofs.Turning.{next_turns}
use Rattle.edge_links.proofs.Linking.{all_set, row_with}
use Rattle.edge_links.proofs.Writing.{can_link}
use Rattle.edge_links.proofs.RightUnlinks.{tables_linked}
use Rattle.edge_split.specs.Renamed.{renamed}
use Rattle.edge_split.specs.Splitting.{mod_edges, new_edges}
use Rattle.edge_split.specs.Relinks.{all_relinks}
use Rattle.edge_split.specs.Writes.{first_write, last_writes, mod_writes, new_writes}
use Rattle.edge_split.proofs.LinkWrites.{all_set_id, follower, has_mapped, links_known, renamed_known, writes_are}
use Rattle.edge_split.proofs.SplitLinks.{IsSplitOf}
use Rattle.edge_split.proofs.SplitRows.{mod_begun, mod_last, new_begun, row_of, set_links, with_left, with_line, with_right}

-- ---- what an edge names is there
pub record EndsKnown (S : Drawing) (e : Edge) : Type 0 where
  pub start : has_node S e.start_node ≡ true
  pub end : has_node S e.end_node ≡ true
  pub left : has_face S e.left_face ≡ true
  pub right : has_face S e.right_face ≡ true

pub ends_known : (S : Drawing) (e : Edge) → list_all (is_edge_known S) S.edges ≡ true → Contains S.edges e → EndsKnown S e
ends_known S e known c =
    let all = and_parts (has_node S e.start_node && has_node S e.end_node && has_face S e.left_face) (has_face S e.right_face) (all_out (is_edge_known S) S.edges e known c) in
    let front = and_parts (has_node S e.start_node && has_node S e.end_node) (has_face S e.left_face) all.0 in
    let nodes = and_parts (has_node S e.start_node) (has_node S e.end_node) front.0 in
    record { start = nodes.0; end = nodes.1; left = front.1; right = all.1 }

pub face_there : (S : Drawing) (f : ℕ) → has_face S f ≡ true → list_any (λ (r : FaceRow). r.face_id == f) (map (face_row S) S.faces) ≡ true
face_there S f there = list_any-map (λ (r : FaceRow). r.face_id == f) (face_row S) S.faces ∙ there

pub row_there : (rows : List EdgeRow) (r : EdgeRow) → Contains rows r → list_any (λ q. edge_row_id q == r.edge_id) rows ≡ true
row_there rows r c = any_in (λ (q : EdgeRow). edge_row_id q == r.edge_id) rows r c (eq-eqb r.edge_id r.edge_id refl)

pub node_there : (nodes : List NodeRow) (n : NodeRow) → Contains nodes n → list_any (λ q. node_id_of q == n.node_id) nodes ≡ true
node_there nodes n c = any_in (λ (q : NodeRow). node_id_of q == n.node_id) nodes n c (eq-eqb n.node_id n.node_id refl)

-- an edge of the drawing, among its rows and others
old_there : (S : Drawing) (x : Edge) (more : List EdgeRow) → Contains S.edges x → list_any (λ r. edge_row_id r == x.edge_id) (map (edge_row (half_edges S)) S.edges ++ more) ≡ true
old_there S x more c = any_more (λ r. edge_row_id r == x.edge_id) (map (edge_row (half_edges S)) S.edges) more (row_there (map (edge_row (half_edges S)) S.edges) (row_of S x) (contains-map (edge_row (half_edges S)) x S.edges c))

more_there : (S : Drawing) (r : EdgeRow) (more : List EdgeRow) → Contains more r → list_any (λ q. edge_row_id q == r.edge_id) (map (edge_row (half_edges S)) S.edges ++ more) ≡ true
more_there S r more c = any_behind (λ q. edge_row_id q == r.edge_id) (map (edge_row (half_edges S)) S.edges) more (row_there more r c)

-- what follows an edge is there
half_known : (S : Drawing) (has : ℕ → Bool) → ((x : Edge) → Contains S.edges x → has x.edge_id ≡ true) → (h : HalfEdge) → Contains (half_edges S) h → has h.edge_id ≡ true
half_known S has each h c = let r = half_of S.edges h c in ap has (sym (of_edge r.edge r.way)) ∙ each r.edge r.there
  where
    of_edge : (x : Edge) → (forward_of x ≡ h) ⊎ (backward_of x ≡ h) → x.edge_id ≡ h.edge_id
    of_edge x (inl q) = ap (λ (k : HalfEdge). k.edge_id) q
    of_edge x (inr q) = ap (λ (k : HalfEdge). k.edge_id) q

pub follower_known : (S : Drawing) (has : ℕ → Bool) → HasPlainLines S → ((x : Edge) → Contains S.edges x → has x.edge_id ≡ true) → (x : Edge) (way : Bool) → Contains S.edges x → has (follower (half_edges S) x way).edge ≡ true
follower_known S has good each x true c = half_known S has each (next_of (half_edges S) (forward_of x)) (next_turns S (forward_of x) good (forward_there S.edges x c)).second
follower_known S has good each x false c = half_known S has each (next_of (half_edges S) (backward_of x)) (next_turns S (backward_of x) good (backward_there S.edges x c)).second

-- ---- ids stay
line_id : (e : Edge) (p : Point) (n : ℕ) (r : EdgeRow) → edge_row_id (with_line e p n r) ≡ edge_row_id r
line_id e p n r = by (edge_row_id r == e.edge_id)
  where
    by : (b : Bool) → edge_row_id (cond b (record r { start_node = e.start_node; end_node = n; geom = line_up_to p e.geom }) r) ≡ edge_row_id r
    by true = refl
    by false = refl

left_id : (id : ℕ) (d : Dart) (r : EdgeRow) → edge_row_id (with_left id d r) ≡ edge_row_id r
left_id id d r = by (edge_row_id r == id)
  where
    by : (b : Bool) → edge_row_id (cond b (record r { next_left_edge = d }) r) ≡ edge_row_id r
    by true = refl
    by false = refl

right_id : (id : ℕ) (d : Dart) (r : EdgeRow) → edge_row_id (with_right id d r) ≡ edge_row_id r
right_id id d r = by (edge_row_id r == id)
  where
    by : (b : Bool) → edge_row_id (cond b (record r { next_right_edge = d }) r) ≡ edge_row_id r
    by true = refl
    by false = refl

-- the links may be set, and then the last writes be made
after_links : (n : Counters) (t : Tables) (m id id' : ℕ) (S : Drawing) (last : List RowWrite) → HasPlainLines S → has_edge_row t id ≡ true → has_edge_row t id' ≡ true → ((x : Edge) → Contains S.edges x → has_edge_row t x.edge_id ≡ true)
    → CanWriteAll n (record t { edges = map (all_set (set_links S m id id')) t.edges }) last → CanWriteAll n t (all_relinks (renamed m id id') (tables_of S).edges ++ last)
after_links n t m id id' S last good first second each can =
    let ks = set_links S m id id' in
    let is = writes_are (renamed m id id') (half_edges S) S.edges in
    let known = links_known (renamed m id id') (half_edges S) (has_edge_row t) S.edges each (λ x way c. renamed_known m id id' (has_edge_row t) (follower (half_edges S) x way) first second (follower_known S (has_edge_row t) good each x way c)) in
    let made = ap (all_written n t) is ∙ tables_linked n t ks in
    can_write-append n t (all_relinks (renamed m id id') (tables_of S).edges) last (subst (CanWriteAll n t) (sym is) (can_link n t ks known)) (subst (λ (u : Tables). CanWriteAll n u last) (sym made) can)

-- ---- modedgesplit
pub mod_can : (S : Drawing) (e : Edge) (p : Point) (rows : List RelationRow) (ids : Counters) → IsSplitOf S e p e.edge_id S.next_ids.edge (mod_edges S e p) rows ids → EndsKnown S e → S.next_ids.node + 1 < 2 ^ 32 → S.next_ids.edge + 2 < 2 ^ 32
    → CanWriteAll S.next_ids (tables_of S) (mod_writes (tables_of S).edges (row_of S e) p S.next_ids.node S.next_ids.edge)
mod_can S e p rows ids h known node_more edge_more =
    let new = S.next_ids.edge in
    let n = S.next_ids.node in
    let m = e.edge_id in
    let t = mod_begun S e p in
    let d = follower (half_edges S) e true in
    let node : NodeRow = record { node_id = n; containing_face = None; geom = p } in
    let new_node = any_behind (λ (q : NodeRow). node_id_of q == n) S.nodes (node ∷ []) (node_there (node ∷ []) node (contains_here node [])) in
    let start = any_more (λ (q : NodeRow). node_id_of q == e.start_node) S.nodes (node ∷ []) known.start in
    let end = any_more (λ (q : NodeRow). node_id_of q == e.end_node) S.nodes (node ∷ []) known.end in
    let was = λ (x : Edge) (c : Contains S.edges x). row_there (map (edge_row (half_edges S)) S.edges) (row_of S x) (contains-map (edge_row (half_edges S)) x S.edges c) in
    let before : Tables = written S.next_ids (tables_of S) (AddNode (Old n) None p) in
    let itself = or_left (has_edge_row before m) (m == new) (was e h.split.there) in
    let next = or_right (has_edge_row before new) (new == new) (eq-eqb new new refl) in
    let left = renamed_known m m new (has_edge_or_next before) d itself next (or_left (has_edge_row before d.edge) (d.edge == new) (follower_known S (has_edge_row before) h.lines was e true h.split.there)) in
    let z = row_with (second_part e n p new) (renamed m m new d) (record { edge = m; forward = false }) in
    let own = old_there S e (z ∷ []) h.split.there in
    let came = more_there S z (z ∷ []) (contains_here z []) in
    let ks = set_links S m m new in
    let own_set = has_mapped (all_set ks) (all_set_id ks) m t.edges ∙ own in
    let lined = map (with_line e p n) (map (all_set ks) t.edges) in
    let own_lined = has_mapped (with_line e p n) (line_id e p n) m (map (all_set ks) t.edges) ∙ own_set in
    let came_lined = has_mapped (with_line e p n) (line_id e p n) new (map (all_set ks) t.edges) ∙ has_mapped (all_set ks) (all_set_id ks) new t.edges ∙ came in (
      ((refl, node_more), tt),
      (
        ((refl, omega (arith, edge_more)), new_node, end, left, itself, face_there S e.left_face known.left, face_there S e.right_face known.right),
        after_links S.next_ids t m m new S (mod_last S e p) h.lines own came (λ x c. old_there S x (z ∷ []) c)
            ((own_set, start, new_node), ((own_lined, came_lined), tt)),
      ),
    )

-- ---- newedgessplit
pub new_can : (S : Drawing) (e : Edge) (p : Point) (rows : List RelationRow) (ids : Counters) → IsSplitOf S e p S.next_ids.edge (S.next_ids.edge + 1) (new_edges S e p) rows ids → EndsKnown S e → S.next_ids.node + 1 < 2 ^ 32 → S.next_ids.edge + 2 < 2 ^ 32
    → CanWriteAll S.next_ids (tables_of S) (new_writes (tables_of S).edges (row_of S e) p S.next_ids.node S.next_ids.edge (S.next_ids.edge + 1))
new_can S e p rows ids h known node_more edge_more =
    let one = S.next_ids.edge in
    let two = S.next_ids.edge + 1 in
    let n = S.next_ids.node in
    let m = e.edge_id in
    let t = new_begun S e p in
    let d = follower (half_edges S) e true in
    let c = follower (half_edges S) e false in
    let node : NodeRow = record { node_id = n; containing_face = None; geom = p } in
    let new_node = any_behind (λ (q : NodeRow). node_id_of q == n) S.nodes (node ∷ []) (node_there (node ∷ []) node (contains_here node [])) in
    let start = any_more (λ (q : NodeRow). node_id_of q == e.start_node) S.nodes (node ∷ []) known.start in
    let end = any_more (λ (q : NodeRow). node_id_of q == e.end_node) S.nodes (node ∷ []) known.end in
    let before : Tables = written S.next_ids (tables_of S) (AddNode (Old n) None p) in
    let between : Tables = written S.next_ids before (first_write (row_of S e) p n one) in
    let a = row_with (first_part e n p one) (record { edge = one; forward = true }) (record { edge = one; forward = false }) in
    let z = row_with (second_part e n p two) (renamed m one two d) (record { edge = one; forward = false }) in
    let next = or_right (has_edge_row before one) (one == one) (eq-eqb one one refl) in
    let first_came = more_there S a (a ∷ []) (contains_here a []) in
    let first_there = or_left (has_edge_row between one) (one == two) first_came in
    let second_next = or_right (has_edge_row between two) (two == two) (eq-eqb two two refl) in
    let was = λ (x : Edge) (k : Contains S.edges x). old_there S x (a ∷ []) k in
    let left = renamed_known m one two (has_edge_or_next between) d first_there second_next (or_left (has_edge_row between d.edge) (d.edge == two) (follower_known S (has_edge_row between) h.lines was e true h.split.there)) in
    let base = map (edge_row (half_edges S)) S.edges ++ a ∷ [] in
    let has_old = λ (x : Edge) (k : Contains S.edges x). any_more (λ (q : EdgeRow). edge_row_id q == x.edge_id) base (z ∷ []) (was x k) in
    let has_one = any_more (λ (q : EdgeRow). edge_row_id q == one) base (z ∷ []) first_came in
    let has_two = any_behind (λ (q : EdgeRow). edge_row_id q == two) base (z ∷ []) (row_there (z ∷ []) z (contains_here z [])) in
    let ks = set_links S m one two in
    let set = map (all_set ks) t.edges in
    let on : Dart = record { edge = two; forward = true } in
    let at_set = λ (k : ℕ). has_mapped (all_set ks) (all_set_id ks) k t.edges in
    let at_left = λ (k : ℕ). has_mapped (with_left one on) (left_id one on) k set ∙ at_set k in
    let at_right = λ (k : ℕ). has_mapped (with_right one (renamed m one two c)) (right_id one (renamed m one two c)) k (map (with_left one on) set) ∙ at_left k in
    let right = renamed_known m one two (has_edge_row t) c has_one has_two (follower_known S (has_edge_row t) h.lines has_old e false h.split.there) in (
      ((refl, node_more), tt),
      (
        ((refl, omega (arith, edge_more)), start, new_node, next, next, face_there S e.left_face known.left, face_there S e.right_face known.right),
        (
          ((refl, omega (arith, edge_more)), new_node, end, left, first_there, face_there S e.left_face known.left, face_there S e.right_face known.right),
          after_links S.next_ids t m one two S (last_writes (row_of S e) one two) h.lines has_one has_two has_old
              ((at_set one ∙ has_one, at_set two ∙ has_two), ((at_left one ∙ has_one, at_left (renamed m one two c).edge ∙ right), (at_right m ∙ has_old e h.split.there, tt))),
        ),
      ),
    )

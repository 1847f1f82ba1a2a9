-- The rows of edges where the first of two healed edges becomes the joined one.
use Rattle.std.proofs.Common.{◌≡◌, ℕ, refl, sym, ◌∙◌, ap, subst, Bool, true, false, not, cond, eqb-true, eq-eqb, List, [], ◌∷◌, map}
use Rattle.std.specs.Prelude.{◌==◌, flat_map, reverse}
use Rattle.std.specs.List.{Contains}
use Rattle.topo_base.specs.declared.ids.Dart.{Dart}
use Rattle.topo_base.specs.declared.rows.Counters.{Counters}
use Rattle.topo_base.specs.declared.rows.EdgeRow.{EdgeRow}
use Rattle.topo_base.specs.declared.rows.RelationRow.{RelationRow}
use Rattle.drawing.specs.Drawing.{Drawing, Edge, edge_id_of}
use Rattle.drawing.specs.HalfEdge.{HalfEdge, both_ways, half_edges}
use Rattle.drawing.specs.HealEdges.{away_from, joined_edge}
use Rattle.plane.specs.Line.{joined}
use Rattle.drawing.specs.Rows.{without_row}
use Rattle.drawing.specs.Tables.{edge_row}
use Rattle.drawing.specs.Writes.{edge_row_id, with_next}
use Rattle.plane.proofs.ListTests.{contains_here, contains_there}
use Rattle.face_rings.proofs.HalvesApart.{one_edge}
use Rattle.edge_links.specs.Links.{hand_back}
use Rattle.edge_links.proofs.Linking.{Link, all_set, row_with}
use Rattle.edge_heal.specs.HealWrites.{healed_edges}
use Rattle.edge_heal.proofs.HealLinks.{IsHealOf, name_in, other_links}
use Rattle.edge_heal.proofs.HealRows.{joined_back, joined_on}
use Rattle.edge_split.proofs.LinkWrites.{all_links, all_set_id, follower, row_relinked}

abbrev pub heal_links : Drawing → ℕ → Edge → Edge → ℕ → List Link
heal_links S n e f id = all_links (name_in n e f id) (half_edges S) S.edges

-- a row with the ends and the line of an edge, and with another link
abbrev pub with_line_of : ℕ → Edge → EdgeRow → EdgeRow
with_line_of id J r = cond (edge_row_id r == id) (record r { start_node = J.start_node; end_node = J.end_node; geom = J.geom }) r

abbrev pub with_link : ℕ → Bool → Dart → EdgeRow → EdgeRow
with_link id way d r = cond (edge_row_id r == id) (with_next (hand_back (not way)) d r) r

-- what follows the joined edge, walked on to the second one
abbrev pub link_on : Drawing → ℕ → Edge → Edge → ℕ → Dart
link_on S n e f id = name_in n e f id (follower (half_edges S) f (f.start_node == n))

-- the row of the first edge is that of the joined one
own_row : (w : Bool) (e J : Edge) (hs ks : List HalfEdge) (ren : Dart → Dart) (d : Dart) → J.edge_id ≡ e.edge_id → J.left_face ≡ e.left_face → J.right_face ≡ e.right_face
    → follower ks J w ≡ d → follower ks J (not w) ≡ ren (follower hs e (not w))
    → with_next (hand_back (not w)) d (record (row_with e (ren (follower hs e true)) (ren (follower hs e false))) { start_node = J.start_node; end_node = J.end_node; geom = J.geom }) ≡ edge_row ks J
own_row true e J hs ks ren d id left right on back = λ i. record {
  edge_id = sym id i;
  start_node = J.start_node;
  end_node = J.end_node;
  next_left_edge = sym on i;
  next_right_edge = sym back i;
  left_face = sym left i;
  right_face = sym right i;
  geom = J.geom;
}
own_row false e J hs ks ren d id left right on back = λ i. record {
  edge_id = sym id i;
  start_node = J.start_node;
  end_node = J.end_node;
  next_left_edge = sym back i;
  next_right_edge = sym on i;
  left_face = sym left i;
  right_face = sym right i;
  geom = J.geom;
}

-- the joined edge has the sides of the first
pub record HasSides (e J : Edge) (id : ℕ) : Type 0 where
  pub own : J.edge_id ≡ id
  pub left : J.left_face ≡ e.left_face
  pub right : J.right_face ≡ e.right_face

pub joined_sides : (n : ℕ) (e f : Edge) (id : ℕ) → HasSides e (joined_edge n e f id) id
joined_sides n e f id = by (n == e.end_node)
  where
    by : (t : Bool)
        → HasSides e (cond t (record e { edge_id = id; end_node = (away_from n f).to_node; geom = joined e.geom ((away_from n f).points) }) (record e { edge_id = id; start_node = (away_from n f).to_node; geom = joined (reverse ((away_from n f).points)) e.geom })) id
    by true = record { own = refl; left = refl; right = refl }
    by false = record { own = refl; left = refl; right = refl }

pub clash : true ≡ false → ⊥
clash k = cc

-- each row but that of the second edge
pub healed_row : (S : Drawing) (n : ℕ) (e f : Edge) (rows : List RelationRow) (ids : Counters) → IsHealOf S n e f e.edge_id (healed_edges S n e f) rows ids → (x : Edge) → Contains S.edges x → (x.edge_id == f.edge_id) ≡ false
    → with_link e.edge_id (n == e.end_node) (link_on S n e f e.edge_id) (with_line_of e.edge_id (joined_edge n e f e.edge_id) (all_set (heal_links S n e f e.edge_id) (edge_row (half_edges S) x)))
    ≡ edge_row (flat_map both_ways (healed_edges S n e f)) (cond (x.edge_id == e.edge_id) (joined_edge n x f x.edge_id) x)
healed_row S n e f rows ids h x c off_second = by (x.edge_id == e.edge_id) refl
  where
    relinked : (y : Edge) → Contains S.edges y → all_set (heal_links S n e f e.edge_id) (edge_row (half_edges S) y)
        ≡ row_with y (name_in n e f e.edge_id (follower (half_edges S) y true)) (name_in n e f e.edge_id (follower (half_edges S) y false))
    relinked y cy = row_relinked (name_in n e f e.edge_id) (half_edges S) S.edges (λ a b ca cb same. one_edge S a b h.lines ca cb same) y cy

    by : (t : Bool) → (x.edge_id == e.edge_id) ≡ t
        → with_link e.edge_id (n == e.end_node) (link_on S n e f e.edge_id) (with_line_of e.edge_id (joined_edge n e f e.edge_id) (all_set (heal_links S n e f e.edge_id) (edge_row (half_edges S) x)))
        ≡ edge_row (flat_map both_ways (healed_edges S n e f)) (cond (x.edge_id == e.edge_id) (joined_edge n x f x.edge_id) x)
    by true is =
        let row = row_with e (name_in n e f e.edge_id (follower (half_edges S) e true)) (name_in n e f e.edge_id (follower (half_edges S) e false)) in
        let lined : EdgeRow = record row { start_node = (joined_edge n e f e.edge_id).start_node; end_node = (joined_edge n e f e.edge_id).end_node; geom = (joined_edge n e f e.edge_id).geom } in
        let d = link_on S n e f e.edge_id in
        let w = n == e.end_node in
        let same = eq-eqb e.edge_id e.edge_id refl in
        let sides = joined_sides n e f e.edge_id in
        let own = ap (λ (z : EdgeRow). with_link e.edge_id w d (with_line_of e.edge_id (joined_edge n e f e.edge_id) z)) (relinked e h.healed.e_there)
        ∙ ap (λ b. with_link e.edge_id w d (cond b lined row)) same
        ∙ ap (λ b. cond b (with_next (hand_back (not w)) d lined) lined) same
        ∙ own_row w e (joined_edge n e f e.edge_id) (half_edges S) (flat_map both_ways (healed_edges S n e f)) (name_in n e f e.edge_id) d sides.own sides.left sides.right
        (joined_on S n e f e.edge_id (healed_edges S n e f) rows ids h) (joined_back S n e f e.edge_id (healed_edges S n e f) rows ids h)
        ∙ ap (λ b. edge_row (flat_map both_ways (healed_edges S n e f)) (cond b (joined_edge n e f e.edge_id) e)) (sym same) in
        subst (λ (z : Edge). with_link e.edge_id (n == e.end_node) (link_on S n e f e.edge_id) (with_line_of e.edge_id (joined_edge n e f e.edge_id) (all_set (heal_links S n e f e.edge_id) (edge_row (half_edges S) z)))
        ≡ edge_row (flat_map both_ways (healed_edges S n e f)) (cond (z.edge_id == e.edge_id) (joined_edge n z f z.edge_id) z))
        (one_edge S e x h.lines h.healed.e_there c (sym (eqb-true x.edge_id e.edge_id is))) own
    by false is =
        let row = row_with x (name_in n e f e.edge_id (follower (half_edges S) x true)) (name_in n e f e.edge_id (follower (half_edges S) x false)) in
        let d = link_on S n e f e.edge_id in
        let w = n == e.end_node in
        let links = other_links S n e f e.edge_id (healed_edges S n e f) rows ids h x c (λ q. clash (sym (eq-eqb x.edge_id e.edge_id q) ∙ is)) (λ q. clash (sym (eq-eqb x.edge_id f.edge_id q) ∙ off_second)) in
        ap (λ (z : EdgeRow). with_link e.edge_id w d (with_line_of e.edge_id (joined_edge n e f e.edge_id) z)) (relinked x c)
        ∙ ap (λ b. with_link e.edge_id w d (cond b (record row { start_node = (joined_edge n e f e.edge_id).start_node; end_node = (joined_edge n e f e.edge_id).end_node; geom = (joined_edge n e f e.edge_id).geom }) row)) is
        ∙ ap (λ b. cond b (with_next (hand_back (not w)) d row) row) is
        ∙ (λ i. row_with x (sym links.0 i) (sym links.1 i))
        ∙ ap (λ b. edge_row (flat_map both_ways (healed_edges S n e f)) (cond b (joined_edge n x f x.edge_id) x)) (sym is)

-- ---- all rows
pub line_id : (id : ℕ) (J : Edge) (r : EdgeRow) → edge_row_id (with_line_of id J r) ≡ edge_row_id r
line_id id J r = by (edge_row_id r == id)
  where
    by : (b : Bool) → edge_row_id (cond b (record r { start_node = J.start_node; end_node = J.end_node; geom = J.geom }) r) ≡ edge_row_id r
    by true = refl
    by false = refl

pub link_id : (id : ℕ) (w : Bool) (d : Dart) (r : EdgeRow) → edge_row_id (with_link id w d r) ≡ edge_row_id r
link_id id w d r = by (edge_row_id r == id) w
  where
    by : (b v : Bool) → edge_row_id (cond b (with_next (hand_back (not v)) d r) r) ≡ edge_row_id r
    by true true = refl
    by true false = refl
    by false v = refl

maps_less : (m : ℕ) (f g k : EdgeRow → EdgeRow) (row new : Edge → EdgeRow) (change : Edge → Edge) (xs : List Edge)
    → ((x : Edge) → Contains xs x → (edge_row_id (k (g (f (row x)))) ≡ x.edge_id) × ((x.edge_id == m) ≡ false → k (g (f (row x))) ≡ new (change x)))
    → without_row edge_row_id (map k (map g (map f (map row xs)))) m ≡ map new (map change (without_row edge_id_of xs m))
maps_less m f g k row new change [] each = refl
maps_less m f g k row new change (x ∷ xs) each =
    let h = each x (contains_here x xs) in
    let rest = maps_less m f g k row new change xs (λ y c. each y (contains_there y x xs c)) in
    (λ i. cond (not (h.0 i == m)) (k (g (f (row x))) ∷ rest i) (rest i)) ∙ by (x.edge_id == m) h.1
  where
    by : (t : Bool) → (t ≡ false → k (g (f (row x))) ≡ new (change x)) → cond (not t) (k (g (f (row x))) ∷ map new (map change (without_row edge_id_of xs m))) (map new (map change (without_row edge_id_of xs m)))
        ≡ map new (map change (cond (not t) (x ∷ without_row edge_id_of xs m) (without_row edge_id_of xs m)))
    by true is = refl
    by false is = ap (λ r. r ∷ map new (map change (without_row edge_id_of xs m))) (is refl)

-- once links are set, the first edge has the line and the link of the joined one, and the second has gone
pub healed_rows : (S : Drawing) (n : ℕ) (e f : Edge) (rows : List RelationRow) (ids : Counters) → IsHealOf S n e f e.edge_id (healed_edges S n e f) rows ids
    → without_row edge_row_id
    (map (with_link e.edge_id (n == e.end_node) (link_on S n e f e.edge_id)) (map (with_line_of e.edge_id (joined_edge n e f e.edge_id)) (map (all_set (heal_links S n e f e.edge_id)) (map (edge_row (half_edges S)) S.edges)))) f.edge_id
    ≡ map (edge_row (flat_map both_ways (healed_edges S n e f))) (healed_edges S n e f)
healed_rows S n e f rows ids h =
    maps_less f.edge_id (all_set (heal_links S n e f e.edge_id)) (with_line_of e.edge_id (joined_edge n e f e.edge_id)) (with_link e.edge_id (n == e.end_node) (link_on S n e f e.edge_id)) (edge_row (half_edges S))
    (edge_row (flat_map both_ways (healed_edges S n e f))) (λ x. cond (x.edge_id == e.edge_id) (joined_edge n x f x.edge_id) x) S.edges
    (λ x c. (
      link_id e.edge_id (n == e.end_node) (link_on S n e f e.edge_id) (with_line_of e.edge_id (joined_edge n e f e.edge_id) (all_set (heal_links S n e f e.edge_id) (edge_row (half_edges S) x)))
          ∙ line_id e.edge_id (joined_edge n e f e.edge_id) (all_set (heal_links S n e f e.edge_id) (edge_row (half_edges S) x)) ∙ all_set_id (heal_links S n e f e.edge_id) (edge_row (half_edges S) x),
      healed_row S n e f rows ids h x c,
    ))

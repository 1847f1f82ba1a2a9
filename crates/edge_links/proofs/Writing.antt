-- The links round an edge that came may be written.
use Rattle.std.proofs.Common.{◌≡◌, ℕ, refl, sym, ◌∙◌, ap, ⊎_elim, Bool, true, false, cond, eqb, eq-eqb, List, [], ◌∷◌, ◌++◌, length, map, get_or}
use Rattle.std.specs.Prelude.{◌||◌, ◌==◌, flat_map}
use Rattle.std.specs.List.{Contains, list_any}
use Rattle.std.proofs.lemmas.Bool.{or_left, or_right}
use Rattle.topo_base.specs.declared.ids.Dart.{Dart}
use Rattle.topo_base.specs.declared.rows.Counters.{Counters}
use Rattle.topo_base.specs.declared.rows.EdgeRow.{EdgeRow}
use Rattle.plane.proofs.ListTests.{contains_cases, contains_none}
use Rattle.drawing.specs.Drawing.{Edge}
use Rattle.drawing.specs.HalfEdge.{HalfEdge, forward_of, backward_of, both_ways, dart_of}
use Rattle.drawing.specs.Star.{star}
use Rattle.drawing.specs.Tables.{Tables, edge_row}
use Rattle.drawing.specs.Writable.{CanWriteAll, has_edge_row}
use Rattle.drawing.specs.Writes.{written, with_next, edge_row_id}
use Rattle.edge_links.specs.Links.{hand_back, index_after, index_before, dart_after, dart_before}
use Rattle.edge_links.proofs.Following.{IsStar, of_star, at_has, place_in}
use Rattle.edge_links.proofs.Half.{in_half_edges, half_id}
use Rattle.edge_links.proofs.Linked.{link_to, link_from, after_is, before_is, after_within, before_within}
use Rattle.edge_links.proofs.Linking.{Link, link_write, row_with}
use Rattle.edge_links.proofs.Setting.{links_of, start_stands, end_stands}

-- the edges of the links are there
abbrev pub AreKnown : (ℕ → Bool) → List Link → Type 0
AreKnown has [] = Unit {0}
AreKnown has (k ∷ ks) = (has k.back.edge ≡ true) × (has k.next.edge ≡ true) × AreKnown has ks

known_still : (has has' : ℕ → Bool) (ks : List Link) → ((n : ℕ) → has' n ≡ has n) → AreKnown has ks → AreKnown has' ks
known_still has has' [] same known = tt
known_still has has' (k ∷ ks) same known = (same k.back.edge ∙ known.0, same k.next.edge ∙ known.1, known_still has has' ks same known.2)

pub set_id : (b w : Bool) (next : Dart) (r : EdgeRow) → edge_row_id (cond b (with_next (hand_back w) next r) r) ≡ edge_row_id r
set_id true true next r = refl
set_id true false next r = refl
set_id false w next r = refl

any_still : (k : Link) (n : ℕ) (rows : List EdgeRow) →
    list_any (λ r. edge_row_id r == n) (map (λ (r : EdgeRow). cond (eqb (edge_row_id r) k.back.edge) (with_next (hand_back k.back.forward) k.next r) r) rows) ≡ list_any (λ r. edge_row_id r == n) rows
any_still k n [] = refl
any_still k n (r ∷ rows) =
    ap (λ id. id == n || list_any (λ r. edge_row_id r == n) (map (λ (r : EdgeRow). cond (eqb (edge_row_id r) k.back.edge) (with_next (hand_back k.back.forward) k.next r) r) rows)) (set_id (eqb (edge_row_id r) k.back.edge) k.back.forward k.next r)
    ∙ ap (λ b. edge_row_id r == n || b) (any_still k n rows)

pub can_link : (n : Counters) (t : Tables) (ks : List Link) → AreKnown (has_edge_row t) ks → CanWriteAll n t (map link_write ks)
can_link n t [] known = tt
can_link n t (k ∷ ks) known =
    ((known.0, known.1), can_link n (written n t (link_write k)) ks (known_still (has_edge_row t) (has_edge_row (written n t (link_write k))) ks (λ m. any_still k m t.edges) known.2))

-- the rows have those of all edges
pub rows_have : (hs : List HalfEdge) (old : List Edge) (e : Edge) (left right : Dart) (x : Edge) → Contains (old ++ e ∷ []) x → list_any (λ r. edge_row_id r == x.edge_id) (map (edge_row hs) old ++ row_with e left right ∷ []) ≡ true
rows_have hs [] e left right x c =
    ⊎_elim
    (λ (s : e ≡ x). or_left (e.edge_id == x.edge_id) false (eq-eqb e.edge_id x.edge_id (ap (λ (y : Edge). y.edge_id) s)))
    (λ (d : Contains [] x). absurd (contains_none x d))
    (contains_cases x e [] c)
rows_have hs (y ∷ old) e left right x c =
    let rest = list_any (λ r. edge_row_id r == x.edge_id) (map (edge_row hs) old ++ row_with e left right ∷ []) in
    ⊎_elim
    (λ (s : y ≡ x). or_left (y.edge_id == x.edge_id) rest (eq-eqb y.edge_id x.edge_id (ap (λ (z : Edge). z.edge_id) s)))
    (λ (d : Contains (old ++ e ∷ []) x). or_right (y.edge_id == x.edge_id) rest (rows_have hs old e left right x d))
    (contains_cases x y (old ++ e ∷ []) c)

-- what stands in a star is of an edge that is there
pub stands_known : (edges : List Edge) (n : ℕ) (has : ℕ → Bool) → ((x : Edge) → Contains edges x → has x.edge_id ≡ true) → (m : HalfEdge) → Contains (star (flat_map both_ways edges) n) m → has (dart_of m).edge ≡ true
stands_known edges n has each m c =
    let x = in_half_edges m edges (of_star edges n m c).0 in
    ap has (half_id x.0 m x.1.1) ∙ each x.0 x.1.0

before_known : (edges : List Edge) (n : ℕ) → IsStar edges n → (has : ℕ → Bool) → ((x : Edge) → Contains edges x → has x.edge_id ≡ true) → (s : HalfEdge) → Contains (star (flat_map both_ways edges) n) s
    → has (link_to s (star (flat_map both_ways edges) n)).back.edge ≡ true
before_known edges n ok has each s c =
    let stand = star (flat_map both_ways edges) n in
    let q = place_in s s stand c in
    let before = index_before (length stand) q.0 in
    ap (λ (z : HalfEdge). has (dart_before (dart_of z) (map dart_of stand)).edge) (sym q.1.1) ∙ ap (λ (z : Dart). has z.edge) (before_is edges n ok s q.0 q.1.0)
    ∙ stands_known edges n has each (get_or stand before s) (at_has s stand before (before_within (length stand) q.0 q.1.0))

pub after_known : (edges : List Edge) (n : ℕ) → IsStar edges n → (has : ℕ → Bool) → ((x : Edge) → Contains edges x → has x.edge_id ≡ true) → (s : HalfEdge) → Contains (star (flat_map both_ways edges) n) s
    → has (link_from s (star (flat_map both_ways edges) n)).next.edge ≡ true
after_known edges n ok has each s c =
    let stand = star (flat_map both_ways edges) n in
    let q = place_in s s stand c in
    let after = index_after (length stand) q.0 in
    ap (λ (z : HalfEdge). has (dart_after (dart_of z) (map dart_of stand)).edge) (sym q.1.1) ∙ ap (λ (z : Dart). has z.edge) (after_is edges n ok s q.0 q.1.0)
    ∙ stands_known edges n has each (get_or stand after s) (at_has s stand after (after_within (length stand) q.0 q.1.0))

pub links_known : (old : List Edge) (e : Edge) → IsStar (old ++ e ∷ []) e.start_node → IsStar (old ++ e ∷ []) e.end_node → (has : ℕ → Bool) → ((x : Edge) → Contains (old ++ e ∷ []) x → has x.edge_id ≡ true)
    → AreKnown has (links_of old e)
links_known old e at_start at_end has each =
    let edges = old ++ e ∷ [] in
    let f = forward_of e in
    let g = backward_of e in
    let own = stands_known edges e.start_node has each f (start_stands old e) in (
      before_known edges e.start_node at_start has each f (start_stands old e),
      own,
      (
        own,
        after_known edges e.start_node at_start has each f (start_stands old e),
        (
          before_known edges e.end_node at_end has each g (end_stands old e),
          own,
          (own, after_known edges e.end_node at_end has each g (end_stands old e), tt),
        ),
      ),
    )

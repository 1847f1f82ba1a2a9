-- The links of the edges that stay after those round an edge that goes are set.
use Rattle.std.proofs.Common.{◌≡◌, ℕ, refl, sym, ◌∙◌, ap, subst, ◌⊎◌, inl, inr, ⊎_elim, Bool, true, false, not, cond, eqb, eq-eqb, eqb-true, List, [], ◌∷◌, ◌++◌, map, filter}
use Rattle.std.specs.Prelude.{◌==◌, flat_map, if◌then◌else◌}
use Rattle.std.specs.List.{Contains, list_any}
use Rattle.std.proofs.lemmas.List.Elements.{Contains-append_left, Contains-append_right, Contains-append_cases}
use Rattle.std.proofs.lemmas.Bool.{and_parts, cases_eq, false_from_ne_true, or_left, or_right}
use Rattle.topo_base.specs.declared.ids.Dart.{Dart}
use Rattle.plane.proofs.ListTests.{contains_here, contains_there, contains_cases, contains_none}
use Rattle.drawing.proofs.Members.{Pairwise, contains-filter, contains-filtered, contains-map, contains-mapped}
use Rattle.drawing.specs.Drawing.{Edge, edge_id_of}
use Rattle.drawing.specs.HalfEdge.{HalfEdge, forward_of, backward_of, both_ways, leaves, twin, same_half_edge, dart_of}
use Rattle.drawing.specs.Rows.{without_row}
use Rattle.drawing.specs.Star.{leaving, first_clockwise, or_twin, next_of, star}
use Rattle.drawing.specs.Tables.{edge_row}
use Rattle.edge_links.specs.Links.{dart_after}
use Rattle.edge_links.specs.Unlinks.{is_other, others, before_gone}
use Rattle.edge_links.proofs.Fewer.{is_other_half, filter_same, half_edges_fewer, star_fewer, darts_fewer, is_star_fewer}
use Rattle.edge_links.proofs.Following.{IsStar, in_star, may_follow}
use Rattle.edge_links.proofs.Gone.{after_stays, before_are, before_has}
use Rattle.edge_links.proofs.Half.{in_half_edges, half_edges_have, half_id, half_twin, one_edge}
use Rattle.edge_links.proofs.Linked.{half, half_is, half_name, follower, link_from, from_right, from_set}
use Rattle.edge_links.proofs.Linking.{Link, LinksAreRight, all_set, is_of, link_after, map_rows, row_after, stays_right, becomes_right}
use Rattle.edge_links.proofs.Setting.{rows_of_links}
use Rattle.edge_links.proofs.Sorting.{AreOrdered}
use Rattle.edge_links.proofs.Writing.{AreKnown, after_known, stands_known}

-- ---- lists of links, by their members
pub any_has : {X : Type 0} (p : X → Bool) (x : X) (xs : List X) → Contains xs x → p x ≡ true → list_any p xs ≡ true
any_has p x [] c h = absurd (contains_none x c)
any_has p x (y ∷ xs) c h =
    ⊎_elim
    (λ (e : y ≡ x). or_left (p y) (list_any p xs) (subst (λ z. p z ≡ true) (sym e) h))
    (λ (d : Contains xs x). or_right (p y) (list_any p xs) (any_has p x xs d h))
    (contains_cases x y xs c)

right_all : (ks : List Link) (x : Edge) (way : Bool) (d : Dart) → ((k : Link) → Contains ks k → is_of k x way ≡ true → k.next ≡ d) → LinksAreRight ks x way d
right_all [] x way d each = tt
right_all (k ∷ ks) x way d each = (each k (contains_here k ks), right_all ks x way d (λ j c. each j (contains_there j k ks c)))

known_all : (has : ℕ → Bool) (ks : List Link) → ((k : Link) → Contains ks k → (has k.back.edge ≡ true) × (has k.next.edge ≡ true)) → AreKnown has ks
known_all has [] each = tt
known_all has (k ∷ ks) each = let own = each k (contains_here k ks) in (own.0, own.1, known_all has ks (λ j c. each j (contains_there j k ks c)))

-- ---- the links about a node, and about both nodes of an edge
abbrev pub darts_at : List Edge → ℕ → List Dart
darts_at edges n = map dart_of (star (flat_map both_ways edges) n)

abbrev pub unlink : ℕ → List Dart → Dart → Link
unlink id ds d = record { back = d; next = dart_after d (others id ds) }

abbrev pub unlinks : ℕ → List Dart → List Link
unlinks id ds = map (unlink id ds) (before_gone id ds ds)

abbrev pub all_unlinks : List Edge → Edge → List Link
all_unlinks edges e = unlinks e.edge_id (darts_at edges e.start_node) ++ (if e.start_node == e.end_node then [] else unlinks e.edge_id (darts_at edges e.end_node))

abbrev pub less : List Edge → ℕ → List Edge
less edges id = without_row edge_id_of edges id

-- what is known about a node
pub record IsNode (edges : List Edge) (n : ℕ) : Type 0 where
  pub ordered : Pairwise AreOrdered (filter (leaves n) (flat_map both_ways edges))
  pub stands : IsStar edges n

pub record IsLeaving (edges : List Edge) (e : Edge) : Type 0 where
  pub there : Contains edges e
  pub at_start : IsNode edges e.start_node
  pub at_end : IsNode edges e.end_node

-- ---- each link about a node is that of a half-edge that stays
unlink_is : (edges : List Edge) (id n : ℕ) → IsNode edges n → (k : Link) → Contains (unlinks id (darts_at edges n)) k
    → (s : HalfEdge) × (Contains (star (flat_map both_ways (less edges id)) n) s × (k ≡ link_from s (star (flat_map both_ways (less edges id)) n)))
unlink_is edges id n ok k c =
    let stand = star (flat_map both_ways edges) n in
    let ds = darts_at edges n in
    let m = contains-mapped (unlink id ds) k (before_gone id ds ds) c in
    let b = before_are id m.0 ds ds m.1.0 in
    let s = contains-mapped dart_of m.0 stand b.0 in
    let own = subst (λ d. is_other id d ≡ true) (sym s.1.1) b.1 in
    let there = subst (λ hs. Contains hs s.0) (sym (star_fewer id n edges ok.ordered)) (contains-filter (is_other_half id) s.0 stand s.1.0 own) in
    let rest = darts_fewer id n edges ok.ordered in
    (s.0, (there, sym m.1.1 ∙ ap (unlink id ds) (sym s.1.1) ∙ ap (λ (cs : List Dart). record { back = dart_of s.0; next = dart_after (dart_of s.0) cs }) rest))

unlink_right : (edges : List Edge) (id n : ℕ) → IsNode edges n → (k : Link) → Contains (unlinks id (darts_at edges n)) k → (x : Edge) → Contains (less edges id) x → (way : Bool) → is_of k x way ≡ true → k.next ≡ follower (less edges id) x way
unlink_right edges id n ok k c x cx way is =
    let s = unlink_is edges id n ok k c in
    ap (λ (j : Link). j.next) s.1.1
    ∙ from_right (less edges id) n (is_star_fewer id n edges ok.ordered ok.stands) s.0 s.1.0 x cx way (subst (λ (j : Link). is_of j x way ≡ true) s.1.1 is)

unlink_known : (edges : List Edge) (id n : ℕ) → IsNode edges n → (has : ℕ → Bool) → ((x : Edge) → Contains (less edges id) x → has x.edge_id ≡ true) → (k : Link) → Contains (unlinks id (darts_at edges n)) k
    → (has k.back.edge ≡ true) × (has k.next.edge ≡ true)
unlink_known edges id n ok has each k c =
    let s = unlink_is edges id n ok k c in
    let stays = is_star_fewer id n edges ok.ordered ok.stands in (
      ap (λ (j : Link). has j.back.edge) s.1.1 ∙ stands_known (less edges id) n has each s.0 s.1.0,
      ap (λ (j : Link). has j.next.edge) s.1.1 ∙ after_known (less edges id) n stays has each s.0 s.1.0,
    )

-- ---- a link that changes is set
abbrev IsSet : List Link → Edge → Bool → Type 0
IsSet ks x way = (k : Link) × (Contains ks k × (is_of k x way ≡ true))

unlink_set : (edges : List Edge) (id n : ℕ) → IsNode edges n → (x : Edge) → Contains (less edges id) x → (way : Bool) → (half x way).to_node ≡ n
    → (follower edges x way ≡ follower (less edges id) x way) ⊎ IsSet (unlinks id (darts_at edges n)) x way
unlink_set edges id n ok x cx way arrives = by_next (is_other id (dart_after own ds)) refl
  where
    h : HalfEdge
    h = half x way

    own : Dart
    own = dart_of (twin h)

    ds : List Dart
    ds = darts_at edges n

    stays : IsStar (less edges id) n
    stays = is_star_fewer id n edges ok.ordered ok.stands

    kept : Contains edges x × (not (x.edge_id == id) ≡ true)
    kept = contains-filtered (λ (y : Edge). not (y.edge_id == id)) x edges cx

    stands : Contains (star (flat_map both_ways edges) n) (twin h)
    stands = in_star edges n (twin h) (half_edges_have (twin h) x edges kept.0 (half_twin x h (half_is x way))) (eq-eqb h.to_node n arrives)

    stands_still : Contains (star (flat_map both_ways (less edges id)) n) (twin h)
    stands_still = in_star (less edges id) n (twin h) (half_edges_have (twin h) x (less edges id) cx (half_twin x h (half_is x way))) (eq-eqb h.to_node n arrives)

    other : is_other id own ≡ true
    other = subst (λ k. not (k == id) ≡ true) (sym (half_name x way)) kept.1

    before : dart_after own ds ≡ follower edges x way
    before = from_right edges n ok.stands (twin h) stands x kept.0 way (from_set x way (star (flat_map both_ways edges) n))

    after : dart_after own (darts_at (less edges id) n) ≡ follower (less edges id) x way
    after = from_right (less edges id) n stays (twin h) stands_still x cx way (from_set x way (star (flat_map both_ways (less edges id)) n))

    by_next : (b : Bool) → is_other id (dart_after own ds) ≡ b → (follower edges x way ≡ follower (less edges id) x way) ⊎ IsSet (unlinks id (darts_at edges n)) x way
    by_next true e = inl (sym before ∙ sym (after_stays id own ds other e) ∙ ap (dart_after own) (darts_fewer id n edges ok.ordered) ∙ after)
    by_next false e =
        inr
        (unlink id ds own, (contains-map (unlink id ds) own (before_gone id ds ds) (before_has id own ds other (contains-map dart_of (twin h) (star (flat_map both_ways edges) n) stands) e), from_set x way (star (flat_map both_ways edges) n)))

-- ---- at other nodes no link changes
far_link : (edges : List Edge) (e : Edge) → IsLeaving edges e → (h : HalfEdge) → (h.to_node ≡ e.start_node → ⊥) → (h.to_node ≡ e.end_node → ⊥)
    → next_of (flat_map both_ways edges) h ≡ next_of (flat_map both_ways (less edges e.edge_id)) h
far_link edges e ok h start end =
    let hs = flat_map both_ways edges in
    let r = leaving (twin h) in
    ap (λ (fs : List HalfEdge). or_twin h (first_clockwise r fs))
    (sym (filter_same (is_other_half e.edge_id) (may_follow h) hs each) ∙ ap (filter (may_follow h)) (sym (half_edges_fewer e.edge_id edges)))
  where
    at_end : (k : HalfEdge) → Contains (flat_map both_ways edges) k → k.from_node ≡ h.to_node → k.edge_id ≡ e.edge_id → ⊥
    at_end k c from id =
        let y = in_half_edges k edges c in
        let one = one_edge edges y.0 e ok.at_start.stands.ids y.1.0 ok.there (sym (half_id y.0 k y.1.1) ∙ id) in
        ⊎_elim
        (λ (f : k ≡ forward_of y.0). start (sym from ∙ ap (λ (z : HalfEdge). z.from_node) (f ∙ ap forward_of one)))
        (λ (f : k ≡ backward_of y.0). end (sym from ∙ ap (λ (z : HalfEdge). z.from_node) (f ∙ ap backward_of one)))
        y.1.1

    each : (k : HalfEdge) → Contains (flat_map both_ways edges) k → may_follow h k ≡ true → is_other_half e.edge_id k ≡ true
    each k c q =
        let from = eqb-true k.from_node h.to_node (and_parts (leaves h.to_node k) (not (same_half_edge k (twin h))) q).0 in
        ap not (false_from_ne_true (k.edge_id == e.edge_id) (λ f. at_end k c from (eqb-true k.edge_id e.edge_id f)))

-- ---- all links
in_all : (edges : List Edge) (e : Edge) → IsLeaving edges e → (k : Link) → Contains (all_unlinks edges e) k → (n : ℕ) × (IsNode edges n × Contains (unlinks e.edge_id (darts_at edges n)) k)
in_all edges e ok k c =
    let first = unlinks e.edge_id (darts_at edges e.start_node) in
    let second = unlinks e.edge_id (darts_at edges e.end_node) in
    ⊎_elim
    (λ (d : Contains first k). (e.start_node, (ok.at_start, d)))
    (λ (d : Contains (cond (eqb e.start_node e.end_node) [] second) k). by_closed (eqb e.start_node e.end_node) d)
    (Contains-append_cases first (cond (eqb e.start_node e.end_node) [] second) k c)
  where
    by_closed : (b : Bool) → Contains (cond b [] (unlinks e.edge_id (darts_at edges e.end_node))) k → (n : ℕ) × (IsNode edges n × Contains (unlinks e.edge_id (darts_at edges n)) k)
    by_closed true d = absurd (contains_none k d)
    by_closed false d = (e.end_node, (ok.at_end, d))

all_right : (edges : List Edge) (e : Edge) → IsLeaving edges e → (x : Edge) → Contains (less edges e.edge_id) x → (way : Bool) → LinksAreRight (all_unlinks edges e) x way (follower (less edges e.edge_id) x way)
all_right edges e ok x cx way = right_all (all_unlinks edges e) x way (follower (less edges e.edge_id) x way) (λ k c is. let r = in_all edges e ok k c in unlink_right edges e.edge_id r.0 r.1.0 k r.1.1 x cx way is)

pub all_known : (edges : List Edge) (e : Edge) → IsLeaving edges e → (has : ℕ → Bool) → ((x : Edge) → Contains (less edges e.edge_id) x → has x.edge_id ≡ true) → AreKnown has (all_unlinks edges e)
all_known edges e ok has each = known_all has (all_unlinks edges e) (λ k c. let r = in_all edges e ok k c in unlink_known edges e.edge_id r.0 r.1.0 has each k r.1.1)

-- the link of an edge that stays
link_is : (edges : List Edge) (e : Edge) → IsLeaving edges e → (x : Edge) → Contains (less edges e.edge_id) x → (way : Bool) → link_after (all_unlinks edges e) x way (follower edges x way) ≡ follower (less edges e.edge_id) x way
link_is edges e ok x cx way =
    ⊎_elim
    (λ (a : h.to_node ≡ e.start_node). set_or first (λ k c. Contains-append_left first (cond (eqb e.start_node e.end_node) [] second) k c) (unlink_set edges e.edge_id e.start_node ok.at_start x cx way a))
    (λ (a : h.to_node ≡ e.start_node → ⊥).
    ⊎_elim
    (λ (b : h.to_node ≡ e.end_node).
    let open_ : eqb e.start_node e.end_node ≡ false = false_from_ne_true (eqb e.start_node e.end_node) (λ f. a (b ∙ sym (eqb-true e.start_node e.end_node f))) in
    set_or second (λ k c. Contains-append_right first (cond (eqb e.start_node e.end_node) [] second) k (subst (λ t. Contains (cond t [] second) k) (sym open_) c)) (unlink_set edges e.edge_id e.end_node ok.at_end x cx way b))
    (λ (b : h.to_node ≡ e.end_node → ⊥). unchanged (ap dart_of (far_link edges e ok h a b)))
    (cases_eq h.to_node e.end_node))
    (cases_eq h.to_node e.start_node)
  where
    h : HalfEdge
    h = half x way

    first : List Link
    first = unlinks e.edge_id (darts_at edges e.start_node)

    second : List Link
    second = unlinks e.edge_id (darts_at edges e.end_node)

    unchanged : follower edges x way ≡ follower (less edges e.edge_id) x way → link_after (all_unlinks edges e) x way (follower edges x way) ≡ follower (less edges e.edge_id) x way
    unchanged same = stays_right (all_unlinks edges e) x way (follower (less edges e.edge_id) x way) (follower edges x way) (all_right edges e ok x cx way) same

    set_or : (ks : List Link) → ((k : Link) → Contains ks k → Contains (all_unlinks edges e) k) → (follower edges x way ≡ follower (less edges e.edge_id) x way) ⊎ IsSet ks x way
        → link_after (all_unlinks edges e) x way (follower edges x way) ≡ follower (less edges e.edge_id) x way
    set_or ks within either =
        ⊎_elim
        (λ (same : follower edges x way ≡ follower (less edges e.edge_id) x way). unchanged same)
        (λ (s : IsSet ks x way).
        becomes_right (all_unlinks edges e) x way (follower (less edges e.edge_id) x way) (follower edges x way) (all_right edges e ok x cx way)
        (any_has (λ j. is_of j x way) s.0 (all_unlinks edges e) (within s.0 s.1.0) s.1.1))
        either

-- all rows
pub unlinks_set : (edges : List Edge) (e : Edge) → IsLeaving edges e
    → map (all_set (all_unlinks edges e)) (map (edge_row (flat_map both_ways edges)) (less edges e.edge_id)) ≡ map (edge_row (flat_map both_ways (less edges e.edge_id))) (less edges e.edge_id)
unlinks_set edges e ok =
    let ks = all_unlinks edges e in
    let was = flat_map both_ways edges in
    let now = flat_map both_ways (less edges e.edge_id) in
    map_rows (all_set ks) (edge_row was) (edge_row now) (less edges e.edge_id)
    (λ x c. row_after ks x (follower edges x true) (follower edges x false)
    ∙ rows_of_links x (link_after ks x true (follower edges x true)) (link_after ks x false (follower edges x false)) (follower (less edges e.edge_id) x true) (follower (less edges e.edge_id) x false)
    (link_is edges e ok x c true) (link_is edges e ok x c false))

-- The links of all edges after those round an edge that came last are set.
use Rattle.std.proofs.Common.{◌≡◌, ℕ, refl, sym, ◌∙◌, ap, subst, inl, inr, ⊎_elim, Bool, true, false, eqb-true, eq-eqb, List, [], ◌∷◌, ◌++◌, map, IsTrue}
use Rattle.std.specs.Prelude.{◌||◌, flat_map}
use Rattle.std.specs.List.{Contains}
use Rattle.std.proofs.lemmas.Bool.{or_left, or_right}
use Rattle.topo_base.specs.declared.ids.Dart.{Dart}
use Rattle.topo_base.specs.declared.rows.EdgeRow.{EdgeRow}
use Rattle.plane.proofs.ListTests.{contains_here, contains_there, contains_cases, contains_none}
use Rattle.drawing.specs.Drawing.{Edge}
use Rattle.drawing.specs.HalfEdge.{HalfEdge, forward_of, backward_of, both_ways, leaves, dart_of}
use Rattle.drawing.specs.Star.{next_of, star}
use Rattle.drawing.specs.Tables.{edge_row}
use Rattle.edge_links.proofs.Added.{half_edges_push, next_cases}
use Rattle.edge_links.proofs.Following.{IsStar, in_star}
use Rattle.edge_links.proofs.Half.{half_edges_have, twin_backward}
use Rattle.edge_links.proofs.Linked.{half, follower, link_to, link_from, from_right, to_right, to_set, from_set}
use Rattle.edge_links.proofs.Linking.{Link, LinksAreRight, all_set, is_of, link_after, map_append, map_rows, row_after, row_with, stays_right, becomes_right}

pub contains_last : {X : Type 0} (x : X) (xs : List X) → Contains (xs ++ x ∷ []) x
contains_last x [] = contains_here x []
contains_last x (y ∷ xs) = contains_there x y (xs ++ x ∷ []) (contains_last x xs)

contains_old : {X : Type 0} (x y : X) (xs : List X) → Contains xs x → Contains (xs ++ y ∷ []) x
contains_old x y [] c = absurd (contains_none x c)
contains_old x y (z ∷ xs) c = ⊎_elim (λ (e : z ≡ x). subst (λ w. Contains (z ∷ (xs ++ y ∷ [])) w) e (contains_here z (xs ++ y ∷ []))) (λ (d : Contains xs x). contains_there x z (xs ++ y ∷ []) (contains_old x y xs d)) (contains_cases x z xs c)

-- the four links round the edge e, which came last
abbrev pub star_at : List Edge → Edge → ℕ → List HalfEdge
star_at old e n = star (flat_map both_ways (old ++ e ∷ [])) n

abbrev pub links_of : List Edge → Edge → List Link
links_of old e =
    link_to (forward_of e) (star_at old e e.start_node) ∷ link_from (forward_of e) (star_at old e e.start_node)
    ∷ link_to (backward_of e) (star_at old e e.end_node) ∷ link_from (backward_of e) (star_at old e e.end_node) ∷ []

record HasStars (old : List Edge) (e : Edge) : Type 0 where
  at_start : IsStar (old ++ e ∷ []) e.start_node
  at_end : IsStar (old ++ e ∷ []) e.end_node

pub start_stands : (old : List Edge) (e : Edge) → Contains (star_at old e e.start_node) (forward_of e)
start_stands old e = in_star (old ++ e ∷ []) e.start_node (forward_of e) (half_edges_have (forward_of e) e (old ++ e ∷ []) (contains_last e old) (inl refl)) (eq-eqb e.start_node e.start_node refl)

pub end_stands : (old : List Edge) (e : Edge) → Contains (star_at old e e.end_node) (backward_of e)
end_stands old e = in_star (old ++ e ∷ []) e.end_node (backward_of e) (half_edges_have (backward_of e) e (old ++ e ∷ []) (contains_last e old) (inr refl)) (eq-eqb e.end_node e.end_node refl)

all_right : (old : List Edge) (e : Edge) → HasStars old e → (x : Edge) → Contains (old ++ e ∷ []) x → (way : Bool) → LinksAreRight (links_of old e) x way (follower (old ++ e ∷ []) x way)
all_right old e ok x c way =
    let edges = old ++ e ∷ [] in (
      to_right edges e.start_node ok.at_start (forward_of e) (start_stands old e) x c way,
      (
        from_right edges e.start_node ok.at_start (forward_of e) (start_stands old e) x c way,
        (
          to_right edges e.end_node ok.at_end (backward_of e) (end_stands old e) x c way,
          (from_right edges e.end_node ok.at_end (backward_of e) (end_stands old e) x c way, tt),
        ),
      ),
    )

-- one of four
first_set : (a b c d : Bool) → a ≡ true → (a || (b || (c || (d || false)))) ≡ true
first_set a b c d h = or_left a (b || (c || (d || false))) h

second_set : (a b c d : Bool) → b ≡ true → (a || (b || (c || (d || false)))) ≡ true
second_set a b c d h = or_right a (b || (c || (d || false))) (or_left b (c || (d || false)) h)

third_set : (a b c d : Bool) → c ≡ true → (a || (b || (c || (d || false)))) ≡ true
third_set a b c d h = or_right a (b || (c || (d || false))) (or_right b (c || (d || false)) (or_left c (d || false) h))

fourth_set : (a b c d : Bool) → d ≡ true → (a || (b || (c || (d || false)))) ≡ true
fourth_set a b c d h = or_right a (b || (c || (d || false))) (or_right b (c || (d || false)) (or_right c (d || false) (or_left d false h)))

-- a link of an edge that was there
old_link : (old : List Edge) (e : Edge) → HasStars old e → (x : Edge) → Contains old x → (way : Bool)
    → link_after (links_of old e) x way (dart_of (next_of (flat_map both_ways old) (half x way))) ≡ follower (old ++ e ∷ []) x way
old_link old e ok x c way =
    let edges = old ++ e ∷ [] in
    let h = half x way in
    let there = contains_old x e old c in
    let right = all_right old e ok x there way in
    let push = half_edges_push old e in
    let all = next_of (flat_map both_ways edges) h in
    let is : all ≡ next_of (flat_map both_ways old ++ both_ways e) h = ap (λ hs. next_of hs h) push in
    let first = is_of (link_to (forward_of e) (star_at old e e.start_node)) x way in
    let second = is_of (link_from (forward_of e) (star_at old e e.start_node)) x way in
    let third = is_of (link_to (backward_of e) (star_at old e e.end_node)) x way in
    let fourth = is_of (link_from (backward_of e) (star_at old e e.end_node)) x way in
    let was = dart_of (next_of (flat_map both_ways old) h) in
    let becomes = becomes_right (links_of old e) x way (follower edges x way) was right in
    ⊎_elim
    (λ (s : next_of (flat_map both_ways old ++ both_ways e) h ≡ next_of (flat_map both_ways old) h). stays_right (links_of old e) x way (follower edges x way) was right (ap dart_of (sym (is ∙ s))))
    (λ (n : Contains (both_ways e) (next_of (flat_map both_ways old ++ both_ways e) h) × IsTrue (leaves h.to_node (next_of (flat_map both_ways old ++ both_ways e) h))).
    let new = subst (λ k. Contains (both_ways e) k) (sym is) n.0 in
    let leave = subst (λ k. IsTrue (leaves h.to_node k)) (sym is) n.1 in
    ⊎_elim
    (λ (s : forward_of e ≡ all).
    let at : h.to_node ≡ e.start_node = sym (eqb-true e.start_node h.to_node (subst (λ k. IsTrue (leaves h.to_node k)) (sym s) leave)) in
    becomes (first_set first second third fourth (to_set edges e.start_node ok.at_start (forward_of e) (start_stands old e) x there way at (sym s))))
    (λ (m : Contains (backward_of e ∷ []) all).
    ⊎_elim
    (λ (s : backward_of e ≡ all).
    let at : h.to_node ≡ e.end_node = sym (eqb-true e.end_node h.to_node (subst (λ k. IsTrue (leaves h.to_node k)) (sym s) leave)) in
    becomes (third_set first second third fourth (to_set edges e.end_node ok.at_end (backward_of e) (end_stands old e) x there way at (sym s))))
    (λ (k : Contains [] all). absurd (contains_none all k))
    (contains_cases all (backward_of e) [] m))
    (contains_cases all (forward_of e) (backward_of e ∷ []) new))
    (next_cases (flat_map both_ways old) e h)

-- a link of the edge itself
own_left : (old : List Edge) (e : Edge) → HasStars old e → (d : Dart) → link_after (links_of old e) e true d ≡ follower (old ++ e ∷ []) e true
own_left old e ok d =
    let first = is_of (link_to (forward_of e) (star_at old e e.start_node)) e true in
    let second = is_of (link_from (forward_of e) (star_at old e e.start_node)) e true in
    let third = is_of (link_to (backward_of e) (star_at old e e.end_node)) e true in
    becomes_right (links_of old e) e true (follower (old ++ e ∷ []) e true) d (all_right old e ok e (contains_last e old) true)
    (fourth_set first second third (is_of (link_from (backward_of e) (star_at old e e.end_node)) e true) (from_set e true (star_at old e e.end_node)))

own_right : (old : List Edge) (e : Edge) → HasStars old e → (d : Dart) → link_after (links_of old e) e false d ≡ follower (old ++ e ∷ []) e false
own_right old e ok d =
    let first = is_of (link_to (forward_of e) (star_at old e e.start_node)) e false in
    let third = is_of (link_to (backward_of e) (star_at old e e.end_node)) e false in
    let fourth = is_of (link_from (backward_of e) (star_at old e e.end_node)) e false in
    let stand = star_at old e e.start_node in
    becomes_right (links_of old e) e false (follower (old ++ e ∷ []) e false) d (all_right old e ok e (contains_last e old) false)
    (second_set first (is_of (link_from (forward_of e) stand) e false) third fourth
    (subst (λ (h : HalfEdge). is_of (link_from h stand) e false ≡ true) (twin_backward e) (from_set e false stand)))

pub rows_of_links : (x : Edge) (left right left' right' : Dart) → left ≡ left' → right ≡ right' → row_with x left right ≡ row_with x left' right'
rows_of_links x left right left' right' e f = ap (λ d. row_with x d right) e ∙ ap (λ d. row_with x left' d) f

-- all rows
pub links_set : (old : List Edge) (e : Edge) → IsStar (old ++ e ∷ []) e.start_node → IsStar (old ++ e ∷ []) e.end_node → (left right : Dart)
    → map (all_set (links_of old e)) (map (edge_row (flat_map both_ways old)) old ++ row_with e left right ∷ []) ≡ map (edge_row (flat_map both_ways (old ++ e ∷ []))) (old ++ e ∷ [])
links_set old e at_start at_end left right =
    let ok : HasStars old e = record { at_start = at_start; at_end = at_end } in
    let ks = links_of old e in
    let was = flat_map both_ways old in
    let now = flat_map both_ways (old ++ e ∷ []) in
    let others : map (all_set ks) (map (edge_row was) old) ≡ map (edge_row now) old =
    map_rows (all_set ks) (edge_row was) (edge_row now) old
    (λ x c. row_after ks x (dart_of (next_of was (forward_of x))) (dart_of (next_of was (backward_of x)))
    ∙ rows_of_links x (link_after ks x true (dart_of (next_of was (forward_of x)))) (link_after ks x false (dart_of (next_of was (backward_of x)))) (follower (old ++ e ∷ []) x true) (follower (old ++ e ∷ []) x false)
    (old_link old e ok x c true) (old_link old e ok x c false)) in
    let own : all_set ks (row_with e left right) ≡ edge_row now e =
    row_after ks e left right
    ∙ rows_of_links e (link_after ks e true left) (link_after ks e false right) (follower (old ++ e ∷ []) e true) (follower (old ++ e ∷ []) e false) (own_left old e ok left) (own_right old e ok right) in
    map_append (all_set ks) (map (edge_row was) old) (row_with e left right ∷ [])
    ∙ ap (λ (rs : List EdgeRow). rs ++ all_set ks (row_with e left right) ∷ []) others
    ∙ ap (λ (r : EdgeRow). map (edge_row now) old ++ r ∷ []) own
    ∙ sym (map_append (edge_row now) old (e ∷ []))

-- The links round a dart are those that its star gives.
use Rattle.std.proofs.Common.{◌≡◌, ℕ, ◌+◌, ◌-◌, ◌<◌, refl, sym, ◌∙◌, ap, subst, arith, ◌⊎◌, inl, inr, ⊎_elim, Bool, true, false, not, cond, eqb, eq-eqb, eqb-true, List, length, map, get_or, IsTrue}
use Rattle.std.specs.Prelude.{◌&&◌, ◌==◌, flat_map}
use Rattle.std.specs.List.{Contains}
use Rattle.std.proofs.lemmas.Bool.{and_parts, and_from, cases_eq, false_from_ne_true}
use Rattle.std.proofs.lemmas.List.Sums.{position_or_len_is}
use Rattle.topo_base.specs.Darts.{same_dart, same_way}
use Rattle.topo_base.specs.declared.ids.Dart.{Dart}
use Rattle.drawing.specs.Drawing.{Edge}
use Rattle.drawing.specs.HalfEdge.{HalfEdge, forward_of, backward_of, both_ways, twin, dart_of}
use Rattle.drawing.specs.Star.{next_of, star}
use Rattle.edge_links.specs.Links.{place_of, index_after, index_before, dart_at, dart_after, dart_before}
use Rattle.edge_links.proofs.Following.{IsStar, in_star, of_star, next_is, at_has, at_map, place_in, places_differ, length_mapped, same_self}
use Rattle.edge_links.proofs.Half.{IsHalfOf, IdsDiffer, in_half_edges, half_edges_have, half_edge_same, one_edge, half_id, half_twin, halves_same, way_same, twin_twin}
use Rattle.edge_links.proofs.Linking.{Link, is_of}
use Rattle.edge_links.proofs.Round.{next_place}
use Rattle.edge_links.proofs.Sorting.{are_sorted}

-- ---- places going round
pub after_within : (n i : ℕ) → i < n → index_after n i < n
after_within n i h = ⊎_elim
    (λ (g : (i + 1 ≡ n) × (index_after n i ≡ 0)). let e = g.1 in omega arith)
    (λ (g : (i + 1 < n) × (index_after n i ≡ i + 1)). let e = g.1 in let k = g.0 in omega arith)
    (next_place n i h)

previous_place : (n i : ℕ) → i < n → ((i ≡ 0) × (index_before n i ≡ n - 1)) ⊎ ((0 < i) × (index_before n i ≡ i - 1))
previous_place n i h = ⊎_elim
    (λ (e : i ≡ 0). inl (e, ap (λ b. cond b (n - 1) (i - 1)) (eq-eqb i 0 e)))
    (λ (e : i ≡ 0 → ⊥). inr (omega arith, ap (λ b. cond b (n - 1) (i - 1)) (false_from_ne_true (eqb i 0) (λ f. e (eqb-true i 0 f)))))
    (cases_eq i 0)

pub before_within : (n i : ℕ) → i < n → index_before n i < n
before_within n i h = ⊎_elim
    (λ (g : (i ≡ 0) × (index_before n i ≡ n - 1)). let e = g.1 in omega arith)
    (λ (g : (0 < i) × (index_before n i ≡ i - 1)). let e = g.1 in let k = g.0 in omega arith)
    (previous_place n i h)

pub after_before : (n i : ℕ) → i < n → index_after n (index_before n i) ≡ i
after_before n i h = ⊎_elim
    (λ (g : (i ≡ 0) × (index_before n i ≡ n - 1)).
    let z = g.0 in
    let b = g.1 in
    ⊎_elim
    (λ (k : (index_before n i + 1 ≡ n) × (index_after n (index_before n i) ≡ 0)). let e = k.1 in omega arith)
    (λ (k : (index_before n i + 1 < n) × (index_after n (index_before n i) ≡ index_before n i + 1)). let e = k.0 in absurd (omega arith))
    (next_place n (index_before n i) (before_within n i h)))
    (λ (g : (0 < i) × (index_before n i ≡ i - 1)).
    let z = g.0 in
    let b = g.1 in
    ⊎_elim
    (λ (k : (index_before n i + 1 ≡ n) × (index_after n (index_before n i) ≡ 0)). let e = k.0 in absurd (omega arith))
    (λ (k : (index_before n i + 1 < n) × (index_after n (index_before n i) ≡ index_before n i + 1)). let e = k.1 in omega arith)
    (next_place n (index_before n i) (before_within n i h)))
    (previous_place n i h)

pub before_after : (n i : ℕ) → i < n → index_before n (index_after n i) ≡ i
before_after n i h = ⊎_elim
    (λ (g : (i + 1 ≡ n) × (index_after n i ≡ 0)).
    let z = g.0 in
    let b = g.1 in
    ⊎_elim
    (λ (k : (index_after n i ≡ 0) × (index_before n (index_after n i) ≡ n - 1)). let e = k.1 in omega arith)
    (λ (k : (0 < index_after n i) × (index_before n (index_after n i) ≡ index_after n i - 1)). let e = k.0 in absurd (omega arith))
    (previous_place n (index_after n i) (after_within n i h)))
    (λ (g : (i + 1 < n) × (index_after n i ≡ i + 1)).
    let z = g.0 in
    let b = g.1 in
    ⊎_elim
    (λ (k : (index_after n i ≡ 0) × (index_before n (index_after n i) ≡ n - 1)). let e = k.0 in absurd (omega arith))
    (λ (k : (0 < index_after n i) × (index_before n (index_after n i) ≡ index_after n i - 1)). let e = k.1 in omega arith)
    (previous_place n (index_after n i) (after_within n i h)))
    (next_place n i h)

-- ---- an edge walked one way
abbrev pub half : Edge → Bool → HalfEdge
half x true = forward_of x
half x false = backward_of x

pub half_is : (x : Edge) (way : Bool) → IsHalfOf x (half x way)
half_is x true = inl refl
half_is x false = inr refl

half_way : (x : Edge) (way : Bool) → (half x way).is_forward ≡ way
half_way x true = refl
half_way x false = refl

pub half_name : (x : Edge) (way : Bool) → (half x way).edge_id ≡ x.edge_id
half_name x true = refl
half_name x false = refl

-- what follows it
abbrev pub follower : List Edge → Edge → Bool → Dart
follower edges x way = dart_of (next_of (flat_map both_ways edges) (half x way))

half_from : (edges : List Edge) (x : Edge) (m : HalfEdge) (way : Bool) → IdsDiffer edges → Contains edges x → Contains (flat_map both_ways edges) m → x.edge_id ≡ m.edge_id → not m.is_forward ≡ way → half x way ≡ twin m
half_from edges x m way ids cx cm id turn =
    let y = in_half_edges m edges cm in
    let one = one_edge edges y.0 x ids y.1.0 cx (sym (half_id y.0 m y.1.1) ∙ sym id) in
    halves_same x (half x way) (twin m) (half_is x way) (half_twin x m (subst (λ z. IsHalfOf z m) one y.1.1)) (half_way x way ∙ sym turn)

-- ---- what follows a dart of the star, walked back
next_right : (edges : List Edge) (n : ℕ) → IsStar edges n → (d : HalfEdge) (i : ℕ) → i < length (star (flat_map both_ways edges) n) → (x : Edge) → Contains edges x → (way : Bool)
    → (x.edge_id == (get_or (star (flat_map both_ways edges) n) i d).edge_id && same_way (not (get_or (star (flat_map both_ways edges) n) i d).is_forward) way) ≡ true
    → dart_of (get_or (star (flat_map both_ways edges) n) (index_after (length (star (flat_map both_ways edges) n)) i) d) ≡ follower edges x way
next_right edges n ok d i here x cx way is =
    let stand = star (flat_map both_ways edges) n in
    let m = get_or stand i d in
    let both = and_parts (x.edge_id == m.edge_id) (same_way (not m.is_forward) way) is in
    let there = of_star edges n m (at_has d stand i here) in
    let turned = half_from edges x m way ok.ids cx there.0 (eqb-true x.edge_id m.edge_id both.0) (way_same (not m.is_forward) way both.1) in
    let arrives : (half x way).to_node ≡ n = ap (λ (h : HalfEdge). h.to_node) turned ∙ eqb-true m.from_node n there.1 in
    sym (ap dart_of (next_is edges n ok (half x way) d i arrives here (sym (ap twin turned ∙ twin_twin m))))

-- ---- the darts of a star
place_is : (edges : List Edge) (n : ℕ) → IsStar edges n → (d : HalfEdge) (q : ℕ) → q < length (star (flat_map both_ways edges) n)
    → place_of (dart_of (get_or (star (flat_map both_ways edges) n) q d)) (map dart_of (star (flat_map both_ways edges) n)) ≡ q
place_is edges n ok d q here =
    let stand = star (flat_map both_ways edges) n in
    let own = get_or stand q d in
    let darts = map dart_of stand in
    let long = length_mapped dart_of stand in
    position_or_len_is (same_dart (dart_of own)) darts q (dart_of d) (omega (arith, long))
    (λ k below.
    false_from_ne_true (same_dart (dart_of own) (get_or darts k (dart_of d)))
    (λ e.
    let there : k < length stand = omega (arith, here) in
    let same = half_edge_same edges own (get_or stand k d) ok.ids (of_star edges n own (at_has d stand q here)).0 (of_star edges n (get_or stand k d) (at_has d stand k there)).0
    (subst (λ c. same_dart (dart_of own) c ≡ true) (at_map dart_of d (dart_of d) stand k there) e) in
    places_differ d stand ok.sorted q k here there (λ f. omega (arith, below, f)) same))
    (λ w. subst (λ c. same_dart (dart_of own) c ≡ true) (sym (at_map dart_of d (dart_of d) stand q here)) (same_self own))

dart_there : (d : HalfEdge) (c : Dart) (hs : List HalfEdge) (i : ℕ) → i < length hs → dart_at c (map dart_of hs) i ≡ dart_of (get_or hs i d)
dart_there d c hs i h = at_map dart_of d c hs i h

pub after_is : (edges : List Edge) (n : ℕ) → IsStar edges n → (d : HalfEdge) (q : ℕ) → q < length (star (flat_map both_ways edges) n)
    → dart_after (dart_of (get_or (star (flat_map both_ways edges) n) q d)) (map dart_of (star (flat_map both_ways edges) n))
    ≡ dart_of (get_or (star (flat_map both_ways edges) n) (index_after (length (star (flat_map both_ways edges) n)) q) d)
after_is edges n ok d q here =
    let stand = star (flat_map both_ways edges) n in
    let c = dart_of (get_or stand q d) in
    ap (λ k. dart_at c (map dart_of stand) (index_after (length (map dart_of stand)) k)) (place_is edges n ok d q here)
    ∙ ap (λ k. dart_at c (map dart_of stand) (index_after k q)) (length_mapped dart_of stand)
    ∙ dart_there d c stand (index_after (length stand) q) (after_within (length stand) q here)

pub before_is : (edges : List Edge) (n : ℕ) → IsStar edges n → (d : HalfEdge) (q : ℕ) → q < length (star (flat_map both_ways edges) n)
    → dart_before (dart_of (get_or (star (flat_map both_ways edges) n) q d)) (map dart_of (star (flat_map both_ways edges) n))
    ≡ dart_of (get_or (star (flat_map both_ways edges) n) (index_before (length (star (flat_map both_ways edges) n)) q) d)
before_is edges n ok d q here =
    let stand = star (flat_map both_ways edges) n in
    let c = dart_of (get_or stand q d) in
    ap (λ k. dart_at c (map dart_of stand) (index_before (length (map dart_of stand)) k)) (place_is edges n ok d q here)
    ∙ ap (λ k. dart_at c (map dart_of stand) (index_before k q)) (length_mapped dart_of stand)
    ∙ dart_there d c stand (index_before (length stand) q) (before_within (length stand) q here)

-- ---- the two links round a half-edge that stands in the star
abbrev pub link_to : HalfEdge → List HalfEdge → Link
link_to s hs = record { back = dart_before (dart_of s) (map dart_of hs); next = dart_of s }

abbrev pub link_from : HalfEdge → List HalfEdge → Link
link_from s hs = record { back = dart_of s; next = dart_after (dart_of s) (map dart_of hs) }

-- both are right
pub from_right : (edges : List Edge) (n : ℕ) → IsStar edges n → (s : HalfEdge) → Contains (star (flat_map both_ways edges) n) s → (x : Edge) → Contains edges x → (way : Bool)
    → is_of (link_from s (star (flat_map both_ways edges) n)) x way ≡ true → (link_from s (star (flat_map both_ways edges) n)).next ≡ follower edges x way
from_right edges n ok s c x cx way is =
    let stand = star (flat_map both_ways edges) n in
    let q = place_in s s stand c in
    ap (λ (z : HalfEdge). dart_after (dart_of z) (map dart_of stand)) (sym q.1.1) ∙ after_is edges n ok s q.0 q.1.0
    ∙ next_right edges n ok s q.0 q.1.0 x cx way (subst (λ (z : HalfEdge). (x.edge_id == z.edge_id && same_way (not z.is_forward) way) ≡ true) (sym q.1.1) is)

pub to_right : (edges : List Edge) (n : ℕ) → IsStar edges n → (s : HalfEdge) → Contains (star (flat_map both_ways edges) n) s → (x : Edge) → Contains edges x → (way : Bool)
    → is_of (link_to s (star (flat_map both_ways edges) n)) x way ≡ true → (link_to s (star (flat_map both_ways edges) n)).next ≡ follower edges x way
to_right edges n ok s c x cx way is =
    let stand = star (flat_map both_ways edges) n in
    let q = place_in s s stand c in
    let before = index_before (length stand) q.0 in
    let back : dart_before (dart_of s) (map dart_of stand) ≡ dart_of (get_or stand before s) = ap (λ (z : HalfEdge). dart_before (dart_of z) (map dart_of stand)) (sym q.1.1) ∙ before_is edges n ok s q.0 q.1.0 in
    let is_before = subst (λ (z : Dart). (x.edge_id == z.edge && same_way (not z.forward) way) ≡ true) back is in
    sym (ap dart_of q.1.1) ∙ ap (λ k. dart_of (get_or stand k s)) (sym (after_before (length stand) q.0 q.1.0))
    ∙ next_right edges n ok s before (before_within (length stand) q.0 q.1.0) x cx way is_before

-- the link of a half-edge that s follows is set
pub to_set : (edges : List Edge) (n : ℕ) → IsStar edges n → (s : HalfEdge) → Contains (star (flat_map both_ways edges) n) s → (x : Edge) → Contains edges x → (way : Bool)
    → (half x way).to_node ≡ n → next_of (flat_map both_ways edges) (half x way) ≡ s → is_of (link_to s (star (flat_map both_ways edges) n)) x way ≡ true
to_set edges n ok s c x cx way arrives next =
    let stand = star (flat_map both_ways edges) n in
    let h = half x way in
    let own = half_edges_have (twin h) x edges cx (half_twin x h (half_is x way)) in
    let i = place_in (twin h) s stand (in_star edges n (twin h) own (eq-eqb h.to_node n arrives)) in
    let q = place_in s s stand c in
    let follows = next_is edges n ok h s i.0 arrives i.1.0 i.1.1 in
    let same : index_after (length stand) i.0 ≡ q.0 = place_same stand ok.sorted s (index_after (length stand) i.0) q.0 (after_within (length stand) i.0 i.1.0) q.1.0 (sym follows ∙ next ∙ sym q.1.1) in
    let back : dart_before (dart_of s) (map dart_of stand) ≡ dart_of (twin h) =
    ap (λ (z : HalfEdge). dart_before (dart_of z) (map dart_of stand)) (sym q.1.1) ∙ before_is edges n ok s q.0 q.1.0
    ∙ ap (λ k. dart_of (get_or stand (index_before (length stand) k) s)) (sym same) ∙ ap (λ k. dart_of (get_or stand k s)) (before_after (length stand) i.0 i.1.0) ∙ ap dart_of i.1.1 in
    subst (λ (z : Dart). (x.edge_id == z.edge && same_way (not z.forward) way) ≡ true) (sym back)
    (and_from (x.edge_id == h.edge_id) (same_way (not (not h.is_forward)) way) (eq-eqb x.edge_id h.edge_id (sym (half_name x way))) (turned_twice h.is_forward way (half_way x way)))
  where
    place_same : (hs : List HalfEdge) → IsTrue (are_sorted hs) → (d : HalfEdge) (i j : ℕ) → i < length hs → j < length hs → get_or hs i d ≡ get_or hs j d → i ≡ j
    place_same hs sorted d i j hi hj e = ⊎_elim (λ (f : i ≡ j). f) (λ (f : i ≡ j → ⊥). absurd (places_differ d hs sorted i j hi hj f e)) (cases_eq i j)

    turned_twice : (a b : Bool) → a ≡ b → same_way (not (not a)) b ≡ true
    turned_twice true b e = sym e
    turned_twice false b e = ap not (sym e)

-- the edge's own link back along s is set
pub from_set : (x : Edge) (way : Bool) (hs : List HalfEdge) → is_of (link_from (twin (half x way)) hs) x way ≡ true
from_set x true hs = and_from (eqb x.edge_id x.edge_id) true (eq-eqb x.edge_id x.edge_id refl) refl
from_set x false hs = and_from (eqb x.edge_id x.edge_id) true (eq-eqb x.edge_id x.edge_id refl) refl

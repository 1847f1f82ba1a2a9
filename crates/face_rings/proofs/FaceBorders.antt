-- The rings of a face's border are those of the half-edges.
use Rattle.std.proofs.Common.{◌≡◌, ℕ, zero, suc, ◌+◌, ◌*◌, ◌<◌, ◌≤◌, refl, sym, ◌∙◌, ap, subst, arith, ◌⊎◌, inl, inr, ⊎_elim, Bool, true, false, not, cond, ◌&&◌, List, [], ◌∷◌, length, map}
use Rattle.std.specs.Prelude.{◌==◌, nat_le, filter, flat_map}
use Rattle.std.specs.List.{Contains, All, list_all}
use Rattle.std.proofs.lemmas.Bool.{and_from, eqb-true, eq-eqb, leb-true, false≢true}
use Rattle.std.proofs.lemmas.List.{length-map}
use Rattle.std.proofs.lemmas.List.Elements.{All-contains}
use Rattle.topo_base.specs.Darts.{same_dart}
use Rattle.topo_base.specs.declared.ids.Dart.{Dart}
use Rattle.drawing.specs.Drawing.{Drawing, Edge, node_id_of, edge_id_of}
use Rattle.drawing.specs.HalfEdge.{HalfEdge, forward_of, backward_of, both_ways, half_edges, same_half_edge, dart_of}
use Rattle.drawing.specs.Star.{next_of}
use Rattle.drawing.specs.Ring.{walk as walk_half, ring_of as ring_of_half}
use Rattle.drawing.specs.Subdivision.{begins_ring as half_begins_ring}
use Rattle.drawing.proofs.Ordering.{InOrder, first_of}
use Rattle.plane.proofs.ListTests.{contains_here, contains_there, contains_cases, Decides-all}
use Rattle.drawing.proofs.Members.{contains-map, contains-mapped, contains-filter, contains-filtered, Pairwise, pairwise-filter, ids_within, ids_differ}
use Rattle.drawing.proofs.PlainParts.{parts_of}
use Rattle.plane.proofs.LineTests.{all_from}
use Rattle.face_rings.specs.declared.content.BorderDart.{BorderDart}
use Rattle.face_rings.specs.Border.{dart_before, darts_ascend, darts_of, has_dart, next_dart, nexts_differ, are_linked}
use Rattle.face_rings.specs.Rings.{walk, ring_of, begins_ring, rings}
use Rattle.face_rings.specs.FaceBorder.{is_beside, beside, border_dart, face_border, rings_beside, HasRings, RingsAreRight}
use Rattle.face_rings.proofs.Ranks.{by_bool, turn, turn_small, rank, before_in, same_in}
use Rattle.face_rings.proofs.Orbits.{Has, NextsDiffer, Decides-has, Decides-differ, linked_of, next_found, after, ComesBack, comes_back}
use Rattle.face_rings.proofs.Reaching.{after_inner, walk_last, walk_more}
use Rattle.face_rings.proofs.HalfLines.{HasPlainLines}
use Rattle.face_rings.proofs.HalvesApart.{IsHalf, half_of, one_edge}
use Rattle.face_rings.proofs.RowBorders.{rows_are}
use Rattle.face_rings.proofs.NextApart.{next_there, next_apart}

-- ---- the drawing
pub has_plain_lines : (S : Drawing) → HasRings S → HasPlainLines S
has_plain_lines S h = record {
  plain = parts_of S h.plain.plain;
  node_ids = ids_differ node_id_of 0 S.next_ids.node S.nodes (record { test = h.plain.node_ids });
  edge_ids = record { test = h.plain.edge_ids };
  long = λ e c.
      let test = λ (x : Edge). nat_le 2 (length x.geom) in
      let all = (Decides-all test (λ x. test x ≡ true) (λ x. (λ t. t, λ t. t)) S.edges).0 h.lines in
      leb-true 2 (length e.geom) (All-contains (λ (x : Edge). test x ≡ true) S.edges e all c);
}

-- a dart names one half-edge
pub half_by_dart : (S : Drawing) (h k : HalfEdge) → HasPlainLines S → Contains (half_edges S) h → Contains (half_edges S) k → dart_of h ≡ dart_of k → h ≡ k
half_by_dart S h k good ch ck same =
    let r = half_of S.edges h ch in
    let s = half_of S.edges k ck in
    by_way r s r.way s.way
  where
    ids : h.edge_id ≡ k.edge_id
    ids = ap (λ (d : Dart). d.edge) same

    ways : h.is_forward ≡ k.is_forward
    ways = ap (λ (d : Dart). d.forward) same

    id_of : (r : IsHalf S.edges h) → r.edge.edge_id ≡ h.edge_id
    id_of r = ⊎_elim (λ (p : forward_of r.edge ≡ h). ap (λ (x : HalfEdge). x.edge_id) p) (λ (p : backward_of r.edge ≡ h). ap (λ (x : HalfEdge). x.edge_id) p) r.way

    id_of_other : (s : IsHalf S.edges k) → s.edge.edge_id ≡ k.edge_id
    id_of_other s = ⊎_elim (λ (p : forward_of s.edge ≡ k). ap (λ (x : HalfEdge). x.edge_id) p) (λ (p : backward_of s.edge ≡ k). ap (λ (x : HalfEdge). x.edge_id) p) s.way

    edges : (r : IsHalf S.edges h) (s : IsHalf S.edges k) → r.edge ≡ s.edge
    edges r s = one_edge S r.edge s.edge good r.there s.there (id_of r ∙ ids ∙ sym (id_of_other s))

    by_way : (r : IsHalf S.edges h) (s : IsHalf S.edges k) → (forward_of r.edge ≡ h) ⊎ (backward_of r.edge ≡ h) → (forward_of s.edge ≡ k) ⊎ (backward_of s.edge ≡ k) → h ≡ k
    by_way r s (inl p) (inl q) = sym p ∙ ap forward_of (edges r s) ∙ q
    by_way r s (inr p) (inr q) = sym p ∙ ap backward_of (edges r s) ∙ q
    by_way r s (inl p) (inr q) = absurd (false≢true (ap (λ (x : HalfEdge). x.is_forward) q ∙ sym ways ∙ sym (ap (λ (x : HalfEdge). x.is_forward) p)))
    by_way r s (inr p) (inl q) = absurd (false≢true (ap (λ (x : HalfEdge). x.is_forward) p ∙ ways ∙ sym (ap (λ (x : HalfEdge). x.is_forward) q)))

-- ---- the half-edges with the face on their left
pub in_beside : (S : Drawing) (f : ℕ) (h : HalfEdge) → Contains (half_edges S) h → h.on_left ≡ f → Contains (beside (half_edges S) f) h
in_beside S f h c e = contains-filter (is_beside f) h (half_edges S) c (eq-eqb h.on_left f e)

pub from_beside : (S : Drawing) (f : ℕ) (h : HalfEdge) → Contains (beside (half_edges S) f) h → Contains (half_edges S) h × (h.on_left ≡ f)
from_beside S f h c = let p = contains-filtered (is_beside f) h (half_edges S) c in (p.0, eqb-true h.on_left f p.1)

pub next_beside : (S : Drawing) (f : ℕ) (h : HalfEdge) → HasRings S → Contains (beside (half_edges S) f) h → Contains (beside (half_edges S) f) (next_of (half_edges S) h)
next_beside S f h has c =
    let p = from_beside S f h c in
    let test = λ (x : HalfEdge). x.on_left == (next_of (half_edges S) x).on_left in
    let all = (Decides-all test (λ x. test x ≡ true) (λ x. (λ t. t, λ t. t)) (half_edges S)).0 has.one_face in
    let one = All-contains (λ (x : HalfEdge). test x ≡ true) (half_edges S) h all p.0 in
    in_beside S f (next_of (half_edges S) h) (next_there S h (has_plain_lines S has) p.0) (sym (eqb-true h.on_left (next_of (half_edges S) h).on_left one) ∙ p.1)

-- ---- the border ascends
abbrev RankLess : HalfEdge → HalfEdge → Type 0
RankLess h k = rank (dart_of h) < rank (dart_of k)

halves_ascend : (low next : ℕ) (edges : List Edge) → InOrder edge_id_of low next edges → Pairwise RankLess (flat_map both_ways edges)
halves_ascend low next [] h = tt
halves_ascend low next (e ∷ edges) h =
    let rest = (first_of edge_id_of low next e edges h).2 in (
      λ k c. ⊎_elim (λ (p : backward_of e ≡ k). subst (λ (x : HalfEdge). rank (dart_of (forward_of e)) < rank (dart_of x)) p (omega arith)) (λ (d : Contains (flat_map both_ways edges) k). later k true rest d) (contains_cases k (backward_of e) (flat_map both_ways edges) c),
      (λ k d. later k false rest d, halves_ascend (edge_id_of e + 1) next edges rest),
    )
  where
    later : (k : HalfEdge) (b : Bool) → InOrder edge_id_of (edge_id_of e + 1) next edges → Contains (flat_map both_ways edges) k → 2 * e.edge_id + turn b < rank (dart_of k)
    later k b rest d =
        let r = half_of edges k d in
        let above = (ids_within edge_id_of (edge_id_of e + 1) next edges r.edge rest r.there).0 in
        let id : r.edge.edge_id ≡ k.edge_id = ⊎_elim (λ (p : forward_of r.edge ≡ k). ap (λ (x : HalfEdge). x.edge_id) p) (λ (p : backward_of r.edge ≡ k). ap (λ (x : HalfEdge). x.edge_id) p) r.way in
        let small = turn_small b in
        omega arith

pairwise_mapped : {X Y : Type 0} (R : X → X → Type 0) (Q : Y → Y → Type 0) (f : X → Y) (xs : List X) → ((x y : X) → Contains xs x → Contains xs y → R x y → Q (f x) (f y)) → Pairwise R xs → Pairwise Q (map f xs)
pairwise_mapped R Q f [] each h = tt
pairwise_mapped {X = X} R Q f (x ∷ xs) each h = (
  λ y c. let (z, (d, p)) = contains-mapped f y xs c in subst (Q (f x)) p (each x z (contains_here x xs) (contains_there z x xs d) (h.0 z d)),
  pairwise_mapped R Q f xs (λ a b ca cb r. each a b (contains_there a x xs ca) (contains_there b x xs cb) r) h.1,
)

beside_ascends : (S : Drawing) (f : ℕ) → HasPlainLines S → Pairwise RankLess (beside (half_edges S) f)
beside_ascends S f good = pairwise-filter RankLess (is_beside f) (half_edges S) (halves_ascend 0 S.next_ids.edge S.edges good.edge_ids)

ascend_of : (border : List BorderDart) → Pairwise (λ (b c : BorderDart). rank b.dart < rank c.dart) border → darts_ascend border ≡ true
ascend_of [] h = refl
ascend_of (a ∷ []) h = refl
ascend_of (a ∷ b ∷ border) h = and_from (dart_before a.dart b.dart) (darts_ascend (b ∷ border)) (before_in a.dart b.dart (h.0 b (contains_here b border))) (ascend_of (b ∷ border) h.1)

pub border_ascends : (S : Drawing) (f : ℕ) → HasRings S → darts_ascend (face_border (half_edges S) f) ≡ true
border_ascends S f has =
    ascend_of (face_border (half_edges S) f)
    (pairwise_mapped RankLess (λ (b c : BorderDart). rank b.dart < rank c.dart) (border_dart (half_edges S)) (beside (half_edges S) f) (λ h k c d less. less) (beside_ascends S f (has_plain_lines S has)))

-- ---- the border is linked
pub has_half : (S : Drawing) (f : ℕ) (h : HalfEdge) → Contains (beside (half_edges S) f) h → Has (face_border (half_edges S) f) (dart_of h)
has_half S f h c =
    contains-map (λ (b : BorderDart). b.dart) (border_dart (half_edges S) h) (face_border (half_edges S) f) (contains-map (border_dart (half_edges S)) h (beside (half_edges S) f) c)

pub border_linked : (S : Drawing) (f : ℕ) → HasRings S → are_linked (face_border (half_edges S) f) ≡ true
border_linked S f has =
    let border = face_border (half_edges S) f in
    let good = has_plain_lines S has in
    let known = λ (b : BorderDart). has_dart (darts_of border) b.next in
    let each : All (λ (b : BorderDart). Has border b.next) border =
    all_from (λ (b : BorderDart). Has border b.next) border
    (λ b c. let (h, (d, p)) = contains-mapped (border_dart (half_edges S)) b (beside (half_edges S) f) c in
    subst (λ (x : BorderDart). Has border x.next) p (has_half S f (next_of (half_edges S) h) (next_beside S f h has d))) in
    let differ : Pairwise NextsDiffer border =
    pairwise_mapped RankLess NextsDiffer (border_dart (half_edges S)) (beside (half_edges S) f)
    (λ h k c d less same.
    let p = from_beside S f h c in
    let q = from_beside S f k d in
    let one = half_by_dart S (next_of (half_edges S) k) (next_of (half_edges S) h) good (next_there S k good q.0) (next_there S h good p.0) same in
    let ranks = ap rank (next_apart S k h good q.0 p.0 one) in
    omega arith)
    (beside_ascends S f good) in
    and_from (list_all known border) (nexts_differ border)
    ((Decides-all known (λ (b : BorderDart). Has border b.next) (λ b. Decides-has border b.next) border).1 each)
    ((Decides-differ border).1 differ)

-- ---- the next dart is that of the next half-edge
next_half : (S : Drawing) (f : ℕ) (h : HalfEdge) → HasRings S → Contains (beside (half_edges S) f) h → next_dart (face_border (half_edges S) f) (dart_of h) ≡ dart_of (next_of (half_edges S) h)
next_half S f h has c =
    let found = next_found (face_border (half_edges S) f) (dart_of h) (has_half S f h c) in
    let (k, (d, p)) = contains-mapped (border_dart (half_edges S)) found.one (beside (half_edges S) f) found.there in
    let same : k ≡ h = half_by_dart S k h (has_plain_lines S has) (from_beside S f k d).0 (from_beside S f h c).0 (ap (λ (b : BorderDart). b.dart) p ∙ found.dart) in
    found.next ∙ sym (ap (λ (b : BorderDart). b.next) p) ∙ ap (λ (x : HalfEdge). dart_of (next_of (half_edges S) x)) same

-- ---- the walks
map_choice : {X Y : Type 0} (f : X → Y) (t : Bool) (xs ys : List X) → map f (cond t xs ys) ≡ cond t (map f xs) (map f ys)
map_choice f true xs ys = refl
map_choice f false xs ys = refl

walk_mapped : (S : Drawing) (f : ℕ) (first h : HalfEdge) (n : ℕ) → HasRings S → Contains (beside (half_edges S) f) h →
    map dart_of (walk_half (half_edges S) first n h) ≡ walk (face_border (half_edges S) f) (dart_of first) n (dart_of h)
walk_mapped S f first h zero has c = refl
walk_mapped S f first h (suc n) has c =
    let hs = half_edges S in
    let border = face_border hs f in
    let on = next_of hs h in
    map_choice dart_of (same_half_edge on first) (h ∷ []) (h ∷ walk_half hs first n on)
    ∙ ap (λ ds. cond (same_half_edge on first) (dart_of h ∷ []) (dart_of h ∷ ds)) (walk_mapped S f first on n has (next_beside S f h has c))
    ∙ ap (λ (d : Dart). cond (same_dart d (dart_of first)) (dart_of h ∷ []) (dart_of h ∷ walk border (dart_of first) n d)) (sym (next_half S f h has c))

-- a walk that comes back is the same, however long it may be
walk_enough : (border : List BorderDart) (first d : Dart) (n m j : ℕ) → j < n → j < m → after border (suc j) d ≡ first → walk border first n d ≡ walk border first m d
walk_enough border first d zero m j v w back = absurd (omega arith)
walk_enough border first d (suc n) zero j v w back = absurd (omega arith)
walk_enough border first d (suc n) (suc m) j v w back =
    ⊎_elim
    (λ (t : same_dart (next_dart border d) first ≡ true). walk_last border first d n t ∙ sym (walk_last border first d m t))
    (λ (t : same_dart (next_dart border d) first ≡ false).
    walk_more border first d n t
    ∙ ap (λ ds. d ∷ ds) (rest j v w back t (λ i l k b. walk_enough border first (next_dart border d) n m i l k b))
    ∙ sym (walk_more border first d m t))
    (by_bool (same_dart (next_dart border d) first))
  where
    rest : (j : ℕ) → j < suc n → j < suc m → after border (suc j) d ≡ first → same_dart (next_dart border d) first ≡ false →
        ((i : ℕ) → i < n → i < m → after border (suc i) (next_dart border d) ≡ first → walk border first n (next_dart border d) ≡ walk border first m (next_dart border d)) →
        walk border first n (next_dart border d) ≡ walk border first m (next_dart border d)
    rest zero v w back t onward = absurd (false≢true (sym t ∙ same_in (next_dart border d) first back))
    rest (suc j) v w back t onward = onward j (omega arith) (omega arith) (after_inner border (suc j) d ∙ back)

length-filtered : {X : Type 0} (p : X → Bool) (xs : List X) → length (filter p xs) ≤ length xs
length-filtered p [] = omega arith
length-filtered p (x ∷ xs) =
    let rest = length-filtered p xs in
    ⊎_elim
    (λ (t : p x ≡ true). let e = ap (λ (b : Bool). length (cond b (x ∷ filter p xs) (filter p xs))) t in omega arith)
    (λ (t : p x ≡ false). let e = ap (λ (b : Bool). length (cond b (x ∷ filter p xs) (filter p xs))) t in omega arith)
    (by_bool (p x))

pub ring_is : (S : Drawing) (f : ℕ) (h : HalfEdge) → HasRings S → Contains (half_edges S) h → h.on_left ≡ f → ring_of (face_border (half_edges S) f) (dart_of h) ≡ map dart_of (ring_of_half (half_edges S) h)
ring_is S f h has c e =
    sym (walk_mapped S f h h (length (half_edges S)) has there ∙ enough back.steps back.some back.few back.is)
  where
    there : Contains (beside (half_edges S) f) h
    there = in_beside S f h c e

    border : List BorderDart
    border = face_border (half_edges S) f

    back : ComesBack (face_border (half_edges S) f) (dart_of h)
    back = comes_back (face_border (half_edges S) f) (dart_of h) (linked_of (face_border (half_edges S) f) (border_linked S f has)) (has_half S f h there)

    enough : (n : ℕ) → 0 < n → n ≤ length (face_border (half_edges S) f) → after (face_border (half_edges S) f) n (dart_of h) ≡ dart_of h →
        walk (face_border (half_edges S) f) (dart_of h) (length (half_edges S)) (dart_of h) ≡ ring_of (face_border (half_edges S) f) (dart_of h)
    enough zero some few is = absurd (omega arith)
    enough (suc n) some few is =
        let long = length-map (beside (half_edges S) f) (border_dart (half_edges S)) in
        let short = length-filtered (is_beside f) (half_edges S) in
        walk_enough (face_border (half_edges S) f) (dart_of h) (dart_of h) (length (half_edges S)) (length (face_border (half_edges S) f)) n (omega arith) (omega arith) is

-- ---- the rings
darts_of_map : (hs ks : List HalfEdge) → darts_of (map (border_dart hs) ks) ≡ map dart_of ks
darts_of_map hs [] = refl
darts_of_map hs (k ∷ ks) = ap (λ ds. dart_of k ∷ ds) (darts_of_map hs ks)

all_mapped : (p : Dart → Bool) (ks : List HalfEdge) → list_all p (map dart_of ks) ≡ list_all (λ k. p (dart_of k)) ks
all_mapped p [] = refl
all_mapped p (k ∷ ks) = ap (λ t. p (dart_of k) && t) (all_mapped p ks)

begins_same : (hs : List HalfEdge) (border : List BorderDart) (h : HalfEdge) → ring_of border (dart_of h) ≡ map dart_of (ring_of_half hs h) → begins_ring border (dart_of h) ≡ half_begins_ring hs h
begins_same hs border h e =
    ap (list_all (λ (d : Dart). not (dart_before d (dart_of h)))) e ∙ all_mapped (λ (d : Dart). not (dart_before d (dart_of h))) (ring_of_half hs h)

rings_mapped : (hs : List HalfEdge) (border : List BorderDart) (ks : List HalfEdge) → ((k : HalfEdge) → Contains ks k → ring_of border (dart_of k) ≡ map dart_of (ring_of_half hs k)) →
    map (ring_of border) (filter (begins_ring border) (map dart_of ks)) ≡ map (map dart_of) (map (ring_of_half hs) (filter (half_begins_ring hs) ks))
rings_mapped hs border [] each = refl
rings_mapped hs border (k ∷ ks) each =
    let rest = rings_mapped hs border ks (λ x c. each x (contains_there x k ks c)) in
    let here = each k (contains_here k ks) in
    let same = begins_same hs border k here in
    let left = map (ring_of border) (filter (begins_ring border) (map dart_of ks)) in
    let right = map (ring_of_half hs) (filter (half_begins_ring hs) ks) in
    map_choice (ring_of border) (begins_ring border (dart_of k)) (dart_of k ∷ filter (begins_ring border) (map dart_of ks)) (filter (begins_ring border) (map dart_of ks))
    ∙ ap (λ t. cond t (ring_of border (dart_of k) ∷ left) left) same
    ∙ ap (λ r. cond (half_begins_ring hs k) (r ∷ left) left) here
    ∙ ap (λ rs. cond (half_begins_ring hs k) (map dart_of (ring_of_half hs k) ∷ rs) rs) rest
    ∙ sym (map_choice (map dart_of) (half_begins_ring hs k) (ring_of_half hs k ∷ right) right)
    ∙ ap (map (map dart_of)) (sym (map_choice (ring_of_half hs) (half_begins_ring hs k) (k ∷ filter (half_begins_ring hs) ks) (filter (half_begins_ring hs) ks)))

pub rings_are : (S : Drawing) (f : ℕ) → HasRings S → rings (face_border (half_edges S) f) ≡ map (map dart_of) (rings_beside (half_edges S) f)
rings_are S f has =
    ap (λ (ds : List Dart). map (ring_of (face_border (half_edges S) f)) (filter (begins_ring (face_border (half_edges S) f)) ds)) (darts_of_map (half_edges S) (beside (half_edges S) f))
    ∙ rings_mapped (half_edges S) (face_border (half_edges S) f) (beside (half_edges S) f)
    (λ k c. let p = from_beside S f k c in ring_is S f k has p.0 p.1)

pub rings_are_right : RingsAreRight
rings_are_right = record { rows = λ S f. rows_are (half_edges S) f S.edges; ascend = border_ascends; linked = border_linked; ring = ring_is; all = rings_are }

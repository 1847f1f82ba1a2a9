-- Darts that stand in order about their nodes: the one that stands next to another is next after it, walked back.
use Rattle.std.proofs.Common.{◌≡◌, ◌∙◌, ⊎_elim, ℕ, zero, suc, ◌+◌, ◌<◌, ◌≤◌, Bool, true, false, cond, ◌==◌, nat_lt, List, [], length, get_or, refl, sym, ap, subst, arith, eq-eqb, lt-ltb}
use Rattle.std.specs.Prelude.{Contains, slice_set}
use Rattle.std.proofs.lemmas.Bool.{both_ways as both_true, and_parts, and_from, cases_eq, cases_lt, eqb-true, ltb-true}
use Rattle.std.proofs.lemmas.Grind.{get_or-set_at}
use Rattle.std.proofs.lemmas.List.{get_or_default, get_or-map, get_or-set_other, length-map}
use Rattle.std.proofs.lemmas.List.Elements.{All-get_or}
use Rattle.std.proofs.lemmas.List.Sorted.{length_permutation, sorted_far, Contains-permutation, IsPermutation-sym}
use Rattle.plane.specs.Direction.{Direction, is_nearer, straight_up, IsNotZero}
use Rattle.drawing.proofs.Members.{ids_differ}
use Rattle.drawing.proofs.PlainParts.{parts_of}
use Rattle.drawing.specs.Drawing.{Drawing, Edge, node_id_of}
use Rattle.drawing.specs.HalfEdge.{HalfEdge, forward_of, half_edges, twin}
use Rattle.drawing.specs.PlainInOrder.{IsPlainInOrder}
use Rattle.drawing.specs.Star.{leaving, next_of}
use Rattle.face_rings.proofs.HalfLines.{HasPlainLines}
use Rattle.face_rings.proofs.HalvesApart.{forward_there, twin_there}
use Rattle.face_rings.proofs.NextApart.{leaving_not_zero}
use Rattle.ring_laws.proofs.Turning.{Turns, spread_of, turns_next, twin_twin}
use Rattle.validate_topology.specs.Following.{AreNext, AreSpokes, IsSpokeOf, goes_on, halves_at, spoke_less, turns_less}
use Rattle.validate_topology.specs.declared.stars.Spoke.{Spoke}
use Rattle.validate_topology.proofs.SpokeOrder.{halves_apart, less_is_order, moved_apart, not_equal, not_less, some_same}
use Rattle.validate_topology.proofs.StarTurning.{AreTurned, IsFirstOf, Stands, at_has, place_in, turns}
use Rattle.validate_topology.proofs.StarTurning.Stands.{on, round}

pub no_spoke : Spoke
no_spoke = record { node = 0; dir = straight_up; place = 0; twin = 0 }

pub spoke_at : (hs : List HalfEdge) (ss : List Spoke) (i : ℕ) (s : Spoke) → AreSpokes hs ss → i < length ss → IsSpokeOf hs (get_or ss i s)
spoke_at hs ss i s a h = All-get_or (IsSpokeOf hs) ss i s h a.each

half_at : (hs : List HalfEdge) (d : HalfEdge) (ss : List Spoke) (i : ℕ) (s : Spoke) (e : HalfEdge) → i < length ss → get_or (halves_at hs d ss) i e ≡ get_or hs (get_or ss i s).place d
half_at hs d ss i s e h = get_or-map (λ (x : Spoke). get_or hs x.place d) ss i s e h

halves_long : (hs : List HalfEdge) (d : HalfEdge) (ss : List Spoke) → length (halves_at hs d ss) ≡ length ss
halves_long hs d ss = length-map ss (λ (x : Spoke). get_or hs x.place d)

no_half : HalfEdge
no_half = record { edge_id = 0; is_forward = true; from_node = 0; to_node = 0; on_left = 0; on_right = 0; points = [] }

pub spokes_long : (hs : List HalfEdge) (ss : List Spoke) → AreSpokes hs ss → length ss ≡ length hs
spokes_long hs ss a = sym (halves_long hs no_half ss) ∙ length_permutation hs (halves_at hs no_half ss) (a.all no_half)

-- ---- the drawing has lines of two vertices or more
pub has_lines : (S : Drawing) (ss : List Spoke) → IsPlainInOrder S → AreSpokes (half_edges S) ss → HasPlainLines S
has_lines S ss h a = record {
  plain = parts_of S h.plain;
  node_ids = ids_differ node_id_of 0 S.next_ids.node S.nodes (record { test = h.node_ids });
  edge_ids = record { test = h.edge_ids };
  long = line_at;
}
  where
    line_at : (e : Edge) → Contains S.edges e → 2 ≤ length (e.geom)
    line_at e c =
        let d = forward_of e in
        let hs = half_edges S in
        let ks = halves_at hs d ss in
        let there = Contains-permutation hs ks d (a.all d) (forward_there S.edges e c) in
        let r = place_in d d ks there in
        let within : r.0 < length ss = subst (λ n. r.0 < n) (halves_long hs d ss) r.1.0 in
        subst (λ (k : HalfEdge). 2 ≤ length (k.points)) (sym (half_at hs d ss r.0 no_spoke d within) ∙ r.1.1) ((spoke_at hs ss r.0 no_spoke a within).long d)

-- ---- the half-edges stand as their darts do
node_at : (hs : List HalfEdge) (d : HalfEdge) (ss : List Spoke) (i : ℕ) (s : Spoke) (e : HalfEdge) → AreSpokes hs ss → i < length ss → (get_or (halves_at hs d ss) i e).from_node ≡ (get_or ss i s).node
node_at hs d ss i s e a h = ap (λ (k : HalfEdge). k.from_node) (half_at hs d ss i s e h) ∙ sym ((spoke_at hs ss i s a h).node d)

dir_at : (S : Drawing) (d : HalfEdge) (ss : List Spoke) (i : ℕ) (s : Spoke) (e : HalfEdge) → HasPlainLines S → AreSpokes (half_edges S) ss → i < length ss
    → ((get_or ss i s).dir ≡ leaving (get_or (halves_at (half_edges S) d ss) i e)) × IsNotZero (leaving (get_or (halves_at (half_edges S) d ss) i e))
dir_at S d ss i s e good a h =
    let hs = half_edges S in
    let x = get_or ss i s in
    let k = get_or hs x.place d in
    let is = spoke_at hs ss i s a h in
    let some = leaving_not_zero S k good (at_has d hs x.place is.within) in
    let same = ap leaving (half_at hs d ss i s e h) in
    (is.dir d ∙ some_same (leaving k) some ∙ sym same, subst IsNotZero (sym same) some)

less_is : (u v l m : Direction) → u ≡ l → v ≡ m → IsNotZero l → IsNotZero m → turns_less u v ≡ is_nearer straight_up l m
less_is u v l m p q a b = (λ i. turns_less (p i) (q i)) ∙ (λ i. is_nearer straight_up (some_same l a i) (some_same m b i))

far_apart : (hs : List HalfEdge) (ss : List Spoke) (i j : ℕ) (s : Spoke) → AreSpokes hs ss → i ≤ j → j < length ss
    → ((get_or ss i s).node ≤ (get_or ss j s).node) × ((get_or ss j s).node ≡ (get_or ss i s).node → turns_less ((get_or ss j s).dir) ((get_or ss i s).dir) ≡ false)
far_apart hs ss i j s a le lt =
    not_less (λ (x : Spoke). x.node) (λ (x : Spoke). x.dir) (get_or ss j s) (get_or ss i s)
    (sorted_far spoke_less (less_is_order (λ (x : Spoke). x.node) (λ (x : Spoke). x.dir)) ss a.order i j s le lt)

are_turned : (S : Drawing) (d : HalfEdge) (ss : List Spoke) → HasPlainLines S → AreSpokes (half_edges S) ss → AreTurned (half_edges S) (halves_at (half_edges S) d ss)
are_turned S d ss good a = record {
  all = λ k c. Contains-permutation hs ks k (a.all d) c;
  only = λ k c. Contains-permutation ks hs k (IsPermutation-sym hs ks (a.all d)) c;
  differ = λ i j e below in_it same. let one = moved_apart hs ks (a.all d) (halves_apart 0 S.next_ids.edge S.edges good.edge_ids) i j e (omega arith) in_it same in omega arith;
  nodes = λ i j e le lt. let w = within j lt in
      let up = (far_apart hs ss i j no_spoke a le w).0 in
      let one = node_at hs d ss i no_spoke e a (omega arith) in
      let other = node_at hs d ss j no_spoke e a w in
      omega arith;
  turned = λ i j e le lt same. let w = within j lt in
      let v : i < length ss = omega arith in
      let first = dir_at S d ss i no_spoke e good a v in
      let second = dir_at S d ss j no_spoke e good a w in
      let one = sym (node_at hs d ss j no_spoke e a w) ∙ sym same ∙ node_at hs d ss i no_spoke e a v in
      sym (less_is _ _ _ _ second.0 first.0 second.1 first.1) ∙ (far_apart hs ss i j no_spoke a le w).1 one;
}
  where
    hs : List HalfEdge
    hs = half_edges S

    ks : List HalfEdge
    ks = halves_at (half_edges S) d ss

    within : (j : ℕ) → j < length (halves_at (half_edges S) d ss) → j < length ss
    within j h = subst (λ n. j < n) (halves_long (half_edges S) d ss) h

-- ---- the first of a node
pub record IsBegun (ss : List Spoke) (s : Spoke) (first i : ℕ) : Type 0 where
  pub before : first ≤ i
  pub same : (get_or ss first s).node ≡ (get_or ss i s).node
  pub none : (j : ℕ) → j < first → (get_or ss j s).node ≡ (get_or ss i s).node → ⊥

abbrev pub next_first : List Spoke → Spoke → ℕ → ℕ → ℕ
next_first ss s first index = cond ((get_or ss first s).node == (get_or ss index s).node) first index

pub begun_next : (hs : List HalfEdge) (ss : List Spoke) (s : Spoke) (first index : ℕ) → AreSpokes hs ss → index < length ss → first ≤ index → ((i : ℕ) → i + 1 ≡ index → IsBegun ss s first i) → IsBegun ss s (next_first ss s first index) index
begun_next hs ss s first index a w le begun =
    ⊎_elim
    (λ (e : node first ≡ node index). subst (λ b. IsBegun ss s (cond b first index) index) (sym (eq-eqb (node first) (node index) e)) (record { before = le; same = e; none = λ j below same. earlier index le begun e j below same }))
    (λ (e : node first ≡ node index → ⊥).
    subst (λ b. IsBegun ss s (cond b first index) index) (sym (not_equal (node first) (node index) e)) (record { before = omega arith; same = refl; none = λ j below same. anew index begun w e j below same }))
    (cases_eq (node first) (node index))
  where
    node : ℕ → ℕ
    node j = (get_or ss j s).node

    earlier : (index : ℕ) → first ≤ index → ((i : ℕ) → i + 1 ≡ index → IsBegun ss s first i) → node first ≡ node index → (j : ℕ) → j < first → node j ≡ node index → ⊥
    earlier zero le begun e j below same = absurd (omega arith)
    earlier (suc i) le begun e j below same = let b = begun i (omega arith) in b.none j below (same ∙ sym e ∙ b.same)

    anew : (index : ℕ) → ((i : ℕ) → i + 1 ≡ index → IsBegun ss s first i) → index < length ss → (node first ≡ node index → ⊥) → (j : ℕ) → j < index → node j ≡ node index → ⊥
    anew zero begun w e j below same = absurd (omega arith)
    anew (suc i) begun w e j below same =
        let b = begun i (omega arith) in
        let up : node j ≤ node i = (far_apart hs ss j i s a (omega arith) (omega arith)).0 in
        let on : node i ≤ node (suc i) = (far_apart hs ss i (suc i) s a (omega arith) w).0 in
        let here : node j ≡ node (suc i) = same in
        let last : node i ≡ node (suc i) = omega arith in
        e (b.same ∙ last)

-- ---- what stands next
pub next_right : (S : Drawing) (ss : List Spoke) (s : Spoke) (d : HalfEdge) (first i f : ℕ) → IsPlainInOrder S → AreSpokes (half_edges S) ss → i < length ss → f < length ss → IsBegun ss s first i
    → f ≡ cond (goes_on ss i s) (i + 1) first → get_or (half_edges S) ((get_or ss f s).place) d ≡ next_of (half_edges S) (get_or (half_edges S) ((get_or ss i s).twin) d)
next_right S ss s d first i f plain a wi wf begun is =
    sym (half_at hs d ss f s d wf) ∙ sym (turns_next S (get_or ks i d) (get_or ks f d) good turning)
    ∙ ap (λ (k : HalfEdge). next_of hs (twin k)) (half_at hs d ss i s d wi) ∙ ap (next_of hs) (sym ((spoke_at hs ss i s a wi).is_twin d))
  where
    good : HasPlainLines S
    good = has_lines S ss plain a

    hs : List HalfEdge
    hs = half_edges S

    ks : List HalfEdge
    ks = halves_at (half_edges S) d ss

    node : (j : ℕ) → j < length ss → (get_or ks j d).from_node ≡ (get_or ss j s).node
    node j w = node_at hs d ss j s d a w

    begins : IsFirstOf ks d first i
    begins =
        let b = begun.before in
        record {
          before = begun.before;
          same = node first (omega arith) ∙ begun.same ∙ sym (node i wi);
          none = λ j below same. begun.none j below (sym (node j (omega arith)) ∙ same ∙ node i wi);
        }

    stands : (b : Bool) → goes_on ss i s ≡ b → f ≡ cond b (i + 1) first → Stands ks d first i f
    stands true e is =
        let parts = and_parts (nat_lt (i + 1) (length ss)) ((get_or ss (i + 1) s).node == (get_or ss i s).node) e in
        let more : i + 1 < length ss = ltb-true (i + 1) (length ss) parts.0 in
        on is (subst (λ n. i + 1 < n) (sym (halves_long hs d ss)) more) (node (i + 1) more ∙ eqb-true _ _ parts.1 ∙ sym (node i wi))
    stands false e is =
        round is (λ w same. let more : i + 1 < length ss = subst (λ n. i + 1 < n) (halves_long hs d ss) w in
        both_true (goes_on ss i s) e
        (and_from (nat_lt (i + 1) (length ss)) ((get_or ss (i + 1) s).node == (get_or ss i s).node) (lt-ltb (i + 1) (length ss) more)
        (eq-eqb _ _ (sym (node (i + 1) more) ∙ same ∙ node i wi))))

    turning : Turns hs (get_or ks i d) (get_or ks f d)
    turning =
        turns hs ks d first i f (spread_of S good) (are_turned S d ss good a) (subst (λ n. i < n) (sym (halves_long hs d ss)) wi) begins (stands (goes_on ss i s) refl is)

-- ---- the places that were written so far
abbrev pub AreRight : List HalfEdge → List Spoke → Spoke → List ℕ → ℕ → Type 0
AreRight hs ss s places n =
    (j : ℕ) (d : HalfEdge) → j < n → get_or hs (get_or places ((get_or ss j s).twin) 0) d ≡ next_of hs (get_or hs ((get_or ss j s).twin) d)

pub right_more : (hs : List HalfEdge) (ss : List Spoke) (s : Spoke) (places : List ℕ) (index v : ℕ) → (get_or ss index s).twin < length places
    → ((d : HalfEdge) → get_or hs v d ≡ next_of hs (get_or hs ((get_or ss index s).twin) d)) → AreRight hs ss s places index → AreRight hs ss s (slice_set places ((get_or ss index s).twin) v) (index + 1)
right_more hs ss s places index v w right so_far j d below =
    ⊎_elim
    (λ (e : at j ≡ at index).
    ap (λ n. get_or hs n d) (get_or-set_at places (at index) (at j) v 0 e w) ∙ right d ∙ ap (λ n. next_of hs (get_or hs n d)) (sym e))
    (λ (e : at j ≡ at index → ⊥).
    ap (λ n. get_or hs n d) (get_or-set_other places (at index) (at j) v 0 e)
    ∙ so_far j d (⊎_elim (λ (k : j ≡ index). absurd (e (ap at k))) (λ (k : j ≡ index → ⊥). less j index below k) (cases_eq j index)))
    (cases_eq (at j) (at index))
  where
    at : ℕ → ℕ
    at j = (get_or ss j s).twin

    less : (j n : ℕ) → j < n + 1 → (j ≡ n → ⊥) → j < n
    less j n h k = ⊎_elim (λ (l : j < n). l) (λ (l : n ≤ j). absurd (k (omega arith))) (cases_lt j n)

pub right_step : (S : Drawing) (ss : List Spoke) (places : List ℕ) (here there : Spoke) (first index f : ℕ) → IsPlainInOrder S → AreSpokes (half_edges S) ss → index < length ss → f < length ss
    → ((s : Spoke) → IsBegun ss s first index) → ((s : Spoke) → f ≡ cond (goes_on ss index s) (index + 1) first) → here ≡ get_or ss index here → there ≡ get_or ss f there → here.twin < length places
    → ((s : Spoke) → AreRight (half_edges S) ss s places index) → (s : Spoke) → AreRight (half_edges S) ss s (slice_set places here.twin there.place) (index + 1)
right_step S ss places here there first index f plain a wi wf begun is is_here is_there w so_far s =
    let hs = half_edges S in
    let e = is_here ∙ get_or_default ss index here s wi in
    let g = is_there ∙ get_or_default ss f there s wf in
    subst (λ (x : Spoke). AreRight hs ss s (slice_set places x.twin there.place) (index + 1)) (sym e)
    (subst (λ (y : Spoke). AreRight hs ss s (slice_set places ((get_or ss index s).twin) y.place) (index + 1)) (sym g)
    (right_more hs ss s places index ((get_or ss f s).place) (subst (λ (x : Spoke). x.twin < length places) e w) (λ d. next_right S ss s d first index f plain a wi wf (begun s) (is s)) (so_far s)))

-- each half-edge is the twin of one
pub all_next : (S : Drawing) (ss : List Spoke) (s : Spoke) (places : List ℕ) → IsPlainInOrder S → AreSpokes (half_edges S) ss → AreRight (half_edges S) ss s places (length ss) → AreNext (half_edges S) places
all_next S ss s places plain a right place d w =
    subst (λ n. get_or hs (get_or places n 0) d ≡ next_of hs (get_or hs n d)) same (right r.0 d within)
  where
    hs : List HalfEdge
    hs = half_edges S

    ks : List HalfEdge
    ks = halves_at (half_edges S) d ss

    h : HalfEdge
    h = get_or hs place d

    back : Contains ks (twin h)
    back = Contains-permutation hs ks (twin h) (a.all d) (twin_there S.edges h (at_has d hs place w))

    r : (i : ℕ) × ((i < length ks) × (get_or ks i d ≡ twin h))
    r = place_in (twin h) d ks back

    within : r.0 < length ss
    within = subst (λ n. r.0 < n) (halves_long hs d ss) r.1.0

    is : IsSpokeOf hs (get_or ss r.0 s)
    is = spoke_at hs ss r.0 s a within

    same : (get_or ss r.0 s).twin ≡ place
    same =
        halves_apart 0 S.next_ids.edge S.edges (record { test = plain.edge_ids }) ((get_or ss r.0 s).twin) place d is.twin_within w
        (is.is_twin d ∙ ap twin (sym (half_at hs d ss r.0 s d within) ∙ r.1.1) ∙ twin_twin h)

-- What follows a half-edge is what stands next to it, walked back, in the star of the node where it arrives.
use Rattle.std.proofs.Common.{◌≡◌, ◌≢◌, ℕ, zero, suc, ◌+◌, ◌<◌, refl, sym, ◌∙◌, ap, subst, arith, ◌⊎◌, inl, inr, ⊎_elim, Bool, true, false, not, cond, eqb, eq-eqb, List, [], ◌∷◌, length, filter, map, fold, get_or, IsTrue}
use Rattle.std.specs.Prelude.{◌&&◌, flat_map}
use Rattle.std.specs.List.{Contains}
use Rattle.std.proofs.lemmas.Bool.{both_ways as both_true, and_parts, and_from, false_from_ne_true, cases_eq, cases_order}
use Rattle.topo_base.specs.Darts.{same_way}
use Rattle.plane.proofs.Directions.{nearer_self, nearer_onward}
use Rattle.plane.proofs.Wedges.{in_pairs}
use Rattle.plane.proofs.ListTests.{contains_here, contains_there, contains_cases, contains_none}
use Rattle.drawing.proofs.Members.{contains-filter, contains-filtered}
use Rattle.plane.specs.Direction.{Direction, is_nearer, straight_up, IsNotZero}
use Rattle.drawing.specs.Drawing.{Edge}
use Rattle.drawing.specs.HalfEdge.{HalfEdge, both_ways, twin, leaves, same_half_edge}
use Rattle.drawing.specs.Star.{leaving, nearer_of, first_clockwise, or_twin, next_of, star}
use Rattle.plane.specs.Wedge.{direction_at, no_direction}
use Rattle.edge_links.specs.Links.{index_after}
use Rattle.edge_links.proofs.Half.{IdsDiffer, half_edge_same}
use Rattle.edge_links.proofs.Round.{AreSome, nearest_next, next_place}
use Rattle.edge_links.proofs.Sorting.{are_sorted, in_sorted, sorted_has}

-- what may follow h: what leaves where it arrives, but not h walked back
abbrev pub may_follow : HalfEdge → HalfEdge → Bool
may_follow h k = leaves h.to_node k && not (same_half_edge k (twin h))

-- ---- the first of some is the one that comes before all others
abbrev IsFirst : Direction → HalfEdge → HalfEdge → Type 0
IsFirst r s m = (m ≡ s) ⊎ IsTrue (is_nearer r (leaving s) (leaving m))

not_before : (r : Direction) (s m : HalfEdge) → IsFirst r s m → is_nearer r (leaving m) (leaving s) ≡ false
not_before r s m first =
    ⊎_elim
    (λ (e : m ≡ s). subst (λ (k : HalfEdge). is_nearer r (leaving k) (leaving s) ≡ false) (sym e) (nearer_self r (leaving s)))
    (λ (h : IsTrue (is_nearer r (leaving s) (leaving m))). false_from_ne_true (is_nearer r (leaving m) (leaving s)) (λ g. both_true (is_nearer r (leaving s) (leaving s)) (nearer_self r (leaving s)) (nearer_onward r (leaving s) (leaving m) (leaving s) h g)))
    first

first_found : (r : Direction) (s h : HalfEdge) (hs : List HalfEdge) → ((m : HalfEdge) → Contains (h ∷ hs) m → IsFirst r s m) → Contains (h ∷ hs) s → fold (nearer_of r) h hs ≡ s
first_found r s h [] each there = ⊎_elim (λ (e : h ≡ s). e) (λ (c : Contains [] s). absurd (contains_none s c)) (contains_cases s h [] there)
first_found r s h (k ∷ hs) each there = by_nearer (λ z all in_it. first_found r s z hs all in_it) (is_nearer r (leaving k) (leaving h)) refl
  where
    by_nearer : ((z : HalfEdge) → ((m : HalfEdge) → Contains (z ∷ hs) m → IsFirst r s m) → Contains (z ∷ hs) s → fold (nearer_of r) z hs ≡ s)
        → (b : Bool) → is_nearer r (leaving k) (leaving h) ≡ b → fold (nearer_of r) (nearer_of r h k) hs ≡ s
    by_nearer rest true e =
        ap (λ c. fold (nearer_of r) (cond c k h) hs) e
        ∙ rest k (λ m c. each m (contains_there m h (k ∷ hs) c))
        (⊎_elim
        (λ (f : h ≡ s). absurd (both_true (is_nearer r (leaving k) (leaving s)) (not_before r s k (each k (contains_there k h (k ∷ hs) (contains_here k hs)))) (subst (λ (z : HalfEdge). IsTrue (is_nearer r (leaving k) (leaving z))) f e)))
        (λ (c : Contains (k ∷ hs) s). c)
        (contains_cases s h (k ∷ hs) there))
    by_nearer rest false e =
        ap (λ c. fold (nearer_of r) (cond c k h) hs) e
        ∙ rest h (λ m c. each m (⊎_elim (λ (f : h ≡ m). subst (λ z. Contains (h ∷ k ∷ hs) z) f (contains_here h (k ∷ hs))) (λ (d : Contains hs m). contains_there m h (k ∷ hs) (contains_there m k hs d)) (contains_cases m h hs c)))
        (⊎_elim
        (λ (f : h ≡ s). subst (λ z. Contains (h ∷ hs) z) f (contains_here h hs))
        (λ (c : Contains (k ∷ hs) s).
        ⊎_elim
        (λ (f : k ≡ s).
        ⊎_elim
        (λ (g : h ≡ s). subst (λ z. Contains (h ∷ hs) z) g (contains_here h hs))
        (λ (g : IsTrue (is_nearer r (leaving s) (leaving h))). absurd (both_true (is_nearer r (leaving s) (leaving h)) (subst (λ (z : HalfEdge). is_nearer r (leaving z) (leaving h) ≡ false) f e) g))
        (each h (contains_here h (k ∷ hs))))
        (λ (d : Contains hs s). contains_there s h hs d)
        (contains_cases s k hs c))
        (contains_cases s h (k ∷ hs) there))

first_of_some : (h s : HalfEdge) (r : Direction) (fs : List HalfEdge) → ((m : HalfEdge) → Contains fs m → IsFirst r s m) → Contains fs s → or_twin h (first_clockwise r fs) ≡ s
first_of_some h s r [] each there = absurd (contains_none s there)
first_of_some h s r (f ∷ fs) each there = first_found r s f fs each there

first_of_none : (h : HalfEdge) (r : Direction) (fs : List HalfEdge) → ((m : HalfEdge) → Contains fs m → ⊥) → or_twin h (first_clockwise r fs) ≡ twin h
first_of_none h r [] none = refl
first_of_none h r (f ∷ fs) none = absurd (none f (contains_here f fs))

-- ---- places of a list
pub place_in : {X : Type 0} (x d : X) (xs : List X) → Contains xs x → (i : ℕ) × ((i < length xs) × (get_or xs i d ≡ x))
place_in x d [] c = absurd (contains_none x c)
place_in x d (y ∷ ys) c =
    ⊎_elim
    (λ (e : y ≡ x). (0, (omega arith, e)))
    (λ (m : Contains ys x). let r = place_in x d ys m in let w = r.1.0 in (suc r.0, (omega arith, r.1.1)))
    (contains_cases x y ys c)

pub at_has : {X : Type 0} (d : X) (xs : List X) (i : ℕ) → i < length xs → Contains xs (get_or xs i d)
at_has d [] i h = absurd (omega arith)
at_has d (x ∷ xs) zero h = contains_here x xs
at_has d (x ∷ xs) (suc i) h = contains_there (get_or xs i d) x xs (at_has d xs i (omega arith))

pub at_map : {X Y : Type 0} (f : X → Y) (d : X) (c : Y) (xs : List X) (i : ℕ) → i < length xs → get_or (map f xs) i c ≡ f (get_or xs i d)
at_map f d c [] i h = absurd (omega arith)
at_map f d c (x ∷ xs) zero h = refl
at_map f d c (x ∷ xs) (suc i) h = at_map f d c xs i (omega arith)

pub length_mapped : {X Y : Type 0} (f : X → Y) (xs : List X) → length (map f xs) ≡ length xs
length_mapped f [] = refl
length_mapped f (x ∷ xs) = let e = length_mapped f xs in omega arith

-- ---- the star of a node, in whose edges no id comes twice
pub record IsStar (edges : List Edge) (n : ℕ) : Type 0 where
  pub ids : IdsDiffer edges
  pub some : (h : HalfEdge) → Contains (star (flat_map both_ways edges) n) h → IsNotZero (leaving h)
  pub sorted : IsTrue (are_sorted (star (flat_map both_ways edges) n))

pub in_star : (edges : List Edge) (n : ℕ) (h : HalfEdge) → Contains (flat_map both_ways edges) h → IsTrue (leaves n h) → Contains (star (flat_map both_ways edges) n) h
in_star edges n h c l = sorted_has h (filter (leaves n) (flat_map both_ways edges)) (contains-filter (leaves n) h (flat_map both_ways edges) c l)

pub of_star : (edges : List Edge) (n : ℕ) (h : HalfEdge) → Contains (star (flat_map both_ways edges) n) h → Contains (flat_map both_ways edges) h × IsTrue (leaves n h)
of_star edges n h c = contains-filtered (leaves n) h (flat_map both_ways edges) (in_sorted h (filter (leaves n) (flat_map both_ways edges)) c)

way_self : (b : Bool) → same_way b b ≡ true
way_self true = refl
way_self false = refl

pub same_self : (h : HalfEdge) → same_half_edge h h ≡ true
same_self h = and_from (eqb h.edge_id h.edge_id) (same_way h.is_forward h.is_forward) (eq-eqb h.edge_id h.edge_id refl) (way_self h.is_forward)

not_true : (b : Bool) → not b ≡ true → b ≡ true → ⊥
not_true true h k = cc
not_true false h k = cc

-- the directions of a star
pub direction_there : (d : HalfEdge) (hs : List HalfEdge) (i : ℕ) → i < length hs → direction_at (map leaving hs) i ≡ leaving (get_or hs i d)
direction_there d hs i h = at_map leaving d no_direction hs i h

pub directions_some : (d : HalfEdge) (hs : List HalfEdge) → ((h : HalfEdge) → Contains hs h → IsNotZero (leaving h)) → AreSome (map leaving hs)
directions_some d hs each i h =
    let within : i < length hs = omega (arith, length_mapped leaving hs) in
    subst IsNotZero (sym (direction_there d hs i within)) (each (get_or hs i d) (at_has d hs i within))

-- what stands at different places differs
pub places_differ : (d : HalfEdge) (hs : List HalfEdge) → IsTrue (are_sorted hs) → (i j : ℕ) → i < length hs → j < length hs → i ≢ j → get_or hs i d ≡ get_or hs j d → ⊥
places_differ d hs sorted i j hi hj differ same =
    ⊎_elim
    (λ (e : i ≡ j). differ e)
    (λ (s : (i < j) ⊎ (j < i)). ⊎_elim (λ (g : i < j). apart i j g hj same) (λ (g : j < i). apart j i g hi (sym same)) s)
    (cases_order i j)
  where
    apart : (i j : ℕ) → i < j → j < length hs → get_or hs i d ≡ get_or hs j d → ⊥
    apart i j below within same =
        let near = in_pairs straight_up (map leaving hs) sorted i j below (omega (arith, length_mapped leaving hs)) in
        let same_dir : direction_at (map leaving hs) i ≡ direction_at (map leaving hs) j = direction_there d hs i (omega arith) ∙ ap leaving same ∙ sym (direction_there d hs j within) in
        both_true (is_nearer straight_up (direction_at (map leaving hs) j) (direction_at (map leaving hs) j)) (nearer_self straight_up (direction_at (map leaving hs) j))
        (subst (λ u. IsTrue (is_nearer straight_up u (direction_at (map leaving hs) j))) same_dir near)

-- the theorem: what follows h is what stands next to h walked back
pub next_is : (edges : List Edge) (n : ℕ) → IsStar edges n → (h d : HalfEdge) (i : ℕ) → h.to_node ≡ n → i < length (star (flat_map both_ways edges) n) → get_or (star (flat_map both_ways edges) n) i d ≡ twin h
    → next_of (flat_map both_ways edges) h ≡ get_or (star (flat_map both_ways edges) n) (index_after (length (star (flat_map both_ways edges) n)) i) d
next_is edges n ok h d i arrives here is = by_place (cases_eq after i)
  where
    hs : List HalfEdge
    hs = flat_map both_ways edges

    stand : List HalfEdge
    stand = star hs n

    after : ℕ
    after = index_after (length stand) i

    within : after < length stand
    within = ⊎_elim
        (λ (g : (i + 1 ≡ length stand) × (after ≡ 0)). let e = g.1 in omega arith)
        (λ (g : (i + 1 < length stand) × (after ≡ i + 1)). let e = g.1 in let k = g.0 in omega arith)
        (next_place (length stand) i here)

    own : Contains hs (twin h)
    own = (of_star edges n (twin h) (subst (λ z. Contains stand z) is (at_has d stand i here))).0

    -- where what may follow stands
    place_of : (m : HalfEdge) → Contains (filter (may_follow h) hs) m → (j : ℕ) × ((j < length stand) × (get_or stand j d ≡ m) × (j ≢ i))
    place_of m c =
        let kept = contains-filtered (may_follow h) m hs c in
        let both = and_parts (leaves h.to_node m) (not (same_half_edge m (twin h))) kept.1 in
        let r = place_in m d stand (in_star edges n m kept.0 (subst (λ k. IsTrue (leaves k m)) arrives both.0)) in
        let other : r.0 ≢ i = λ e. not_true (same_half_edge m (twin h)) both.1 (subst (λ (z : HalfEdge). same_half_edge z (twin h) ≡ true) (sym is ∙ ap (λ k. get_or stand k d) (sym e) ∙ r.1.1) (same_self (twin h))) in
        (r.0, (r.1.0, r.1.1, other))

    alone : after ≡ i → (m : HalfEdge) → Contains (filter (may_follow h) hs) m → ⊥
    alone e m c =
        let r = place_of m c in
        let w = r.1.0 in
        let o = r.1.2 in
        ⊎_elim
        (λ (g : (i + 1 ≡ length stand) × (after ≡ 0)). let a = g.0 in let b = g.1 in o (omega arith))
        (λ (g : (i + 1 < length stand) × (after ≡ i + 1)). let a = g.1 in omega arith)
        (next_place (length stand) i here)

    seen : (j : ℕ) (m : HalfEdge) → IsTrue (is_nearer (direction_at (map leaving stand) i) (direction_at (map leaving stand) (index_after (length (map leaving stand)) i)) (direction_at (map leaving stand) j)) → length (map leaving stand) ≡ length stand
        → j < length stand → get_or stand j d ≡ m → IsTrue (is_nearer (leaving (twin h)) (leaving (get_or stand after d)) (leaving m))
    seen j m near long w e =
        let at_i : direction_at (map leaving stand) i ≡ leaving (twin h) = direction_there d stand i here ∙ ap leaving is in
        let at_after : direction_at (map leaving stand) (index_after (length (map leaving stand)) i) ≡ leaving (get_or stand after d) = ap (λ k. direction_at (map leaving stand) (index_after k i)) long ∙ direction_there d stand after within in
        let at_j : direction_at (map leaving stand) j ≡ leaving m = direction_there d stand j w ∙ ap leaving e in
        subst (λ u. IsTrue (is_nearer (leaving (twin h)) (leaving (get_or stand after d)) u)) at_j
        (subst (λ u. IsTrue (is_nearer (leaving (twin h)) u (direction_at (map leaving stand) j))) at_after
        (subst (λ u. IsTrue (is_nearer u (direction_at (map leaving stand) (index_after (length (map leaving stand)) i)) (direction_at (map leaving stand) j))) at_i near))

    first : (m : HalfEdge) → Contains (filter (may_follow h) hs) m → IsFirst (leaving (twin h)) (get_or stand after d) m
    first m c =
        let r = place_of m c in
        let long = length_mapped leaving stand in
        ⊎_elim
        (λ (e : r.0 ≡ after). inl (sym r.1.1 ∙ ap (λ k. get_or stand k d) e))
        (λ (o : r.0 ≡ after → ⊥).
        let near = nearest_next (map leaving stand) (directions_some d stand ok.some) ok.sorted i r.0 (omega (arith, long)) (omega (arith, long, r.1.0)) r.1.2 (λ e. o (e ∙ ap (λ k. index_after k i) long)) in
        inr (seen r.0 m near long r.1.0 r.1.1))
        (cases_eq r.0 after)

    by_place : (after ≡ i) ⊎ (after ≡ i → ⊥) → next_of hs h ≡ get_or stand after d
    by_place = ⊎_elim
        (λ (e : after ≡ i). first_of_none h (leaving (twin h)) (filter (may_follow h) hs) (alone e) ∙ sym is ∙ ap (λ k. get_or stand k d) (sym e))
        (λ (o : after ≡ i → ⊥).
        let there = of_star edges n (get_or stand after d) (at_has d stand after within) in
        let other : same_half_edge (get_or stand after d) (twin h) ≡ false =
        false_from_ne_true (same_half_edge (get_or stand after d) (twin h)) (λ e. places_differ d stand ok.sorted after i within here o (half_edge_same edges (get_or stand after d) (twin h) ok.ids there.0 own e ∙ sym is)) in
        first_of_some h (get_or stand after d) (leaving (twin h)) (filter (may_follow h) hs) first
        (contains-filter (may_follow h) (get_or stand after d) hs there.0 (and_from (leaves h.to_node (get_or stand after d)) (not (same_half_edge (get_or stand after d) (twin h))) (subst (λ k. IsTrue (leaves k (get_or stand after d))) (sym arrives) there.1) (ap not other))))

-- Darts that are sorted by node, and clockwise about each.
use Rattle.std.proofs.Common.{◌≡◌, ◌↔◌, ◌∙◌, ◌⊎◌, inl, inr, ⊎_elim, ℕ, zero, suc, ◌+◌, ◌<◌, ◌≤◌, pos, Bool, true, false, ◌&&◌, ◌||◌, ◌==◌, cond, nat_lt, IsTrue, List, [], ◌∷◌, flat_map, length, get_or, refl, sym, ap, arith, eq-eqb, lt-ltb}
use Rattle.std.specs.Prelude.{slice_set}
use Rattle.std.specs.Cmp.{IsStrictWeakOrder}
use Rattle.std.specs.List.{swap}
use Rattle.std.specs.List.Sorted.{IsPermutation}
use Rattle.std.specs.Ordering.{int_eq, is_lt, nat_cmp}
use Rattle.std.specs.declared.cmp.Ordering.{Ordering}
use Rattle.std.specs.declared.cmp.Ordering.TheVariants.{Less, Equal, Greater}
use Rattle.std.proofs.lemmas.Bool.{both_ways as both_true, and_parts, and_from, false_from_ne_true, cases_lt, cases_eq, eqb-true, ltb-true, true≢false}
use Rattle.std.proofs.lemmas.Bool.Decides.{Decides-int_eq}
use Rattle.std.proofs.lemmas.Grind.{get_or-set_at}
use Rattle.std.proofs.lemmas.List.{get_or-set_other, length-set}
use Rattle.std.proofs.lemmas.List.Edits.{swap_is}
use Rattle.std.proofs.lemmas.List.Sorted.{IsPermutation-keeps}
use Rattle.plane.proofs.Directions.{nearer_total, nearer_onward}
use Rattle.plane.specs.Direction.{Direction, is_nearer, straight_up, IsNotZero}
use Rattle.drawing.specs.Drawing.{Edge, edge_id_of}
use Rattle.drawing.specs.HalfEdge.{HalfEdge, both_ways, forward_of, backward_of}
use Rattle.drawing.proofs.Members.{ids_within}
use Rattle.drawing.proofs.Ordering.{InOrder, first_of}
use Rattle.face_rings.proofs.HalvesApart.{half_of}
use Rattle.face_rings.proofs.Ranks.{by_bool}
use Rattle.ring_laws.proofs.Alike.{alike_one, alike_same, near_alike}
use Rattle.ring_laws.proofs.Inserting.{not_both}
use Rattle.validate_topology.specs.Following.{is_zero, some_direction, spoke_less, stands_less, turns_less}
use Rattle.validate_topology.specs.declared.stars.Spoke.{Spoke}
use Rattle.validate_topology.proofs.StarTurning.{at_has}

-- ---- the order of directions, where zero counts as straight up
up_is_some : IsNotZero straight_up
up_is_some e f = cc

some_by : (u : Direction) (b : Bool) → is_zero u ≡ b → IsNotZero (cond b straight_up u)
some_by u true e = up_is_some
some_by u false e = λ x y. true≢false (sym (and_from (int_eq u.dx (pos 0)) (int_eq u.dy (pos 0)) ((Decides-int_eq u.dx (pos 0)).1 x) ((Decides-int_eq u.dy (pos 0)).1 y)) ∙ e)

is_some : (u : Direction) → IsNotZero (some_direction u)
is_some u = some_by u (is_zero u) refl

pub some_same : (u : Direction) → IsNotZero u → some_direction u ≡ u
some_same u h = ap (λ (b : Bool). cond b straight_up u)
    (false_from_ne_true (is_zero u) (λ e. let parts = and_parts (int_eq u.dx (pos 0)) (int_eq u.dy (pos 0)) e in h ((Decides-int_eq u.dx (pos 0)).0 parts.0) ((Decides-int_eq u.dy (pos 0)).0 parts.1)))

less_one_way : (u v : Direction) → turns_less u v ≡ true → turns_less v u ≡ false
less_one_way u v h = false_from_ne_true (turns_less v u) (λ g. not_both straight_up (some_direction u) (some_direction v) h g)

less_chain : (u v w : Direction) → turns_less u v ≡ false → turns_less v w ≡ false → turns_less u w ≡ false
less_chain u v w a b = false_from_ne_true (turns_less u w) (λ h. by_back h (by_bool (turns_less v u)))
  where
    by_back : turns_less u w ≡ true → (turns_less v u ≡ true) ⊎ (turns_less v u ≡ false) → ⊥
    by_back h (inl g) = both_true (turns_less v w) b (nearer_onward straight_up (some_direction v) (some_direction u) (some_direction w) g h)
    by_back h (inr g) =
        let one = nearer_total straight_up (some_direction u) (some_direction v) up_is_some (is_some u) (is_some v) a g in
        both_true (turns_less v w) b
        (sym (near_alike straight_up straight_up (some_direction u) (some_direction v) (some_direction w) (some_direction w) (alike_same straight_up straight_up refl) (alike_one (some_direction u) (some_direction v) one) (alike_same (some_direction w) (some_direction w) refl)) ∙ h)

-- ---- by a number, and then by a direction
or_left : (a b : Bool) → a ≡ true → (a || b) ≡ true
or_left true b h = refl
or_left false b h = absurd (true≢false (sym h))

or_right : (a b : Bool) → b ≡ true → (a || b) ≡ true
or_right true b h = refl
or_right false b h = h

or_out : (a b : Bool) → (a || b) ≡ true → (a ≡ true) ⊎ (b ≡ true)
or_out true b h = inl refl
or_out false b h = inr h

pub not_less : {X : Type 0} (node : X → ℕ) (dir : X → Direction) (x y : X) → stands_less node dir x y ≡ false → (node y ≤ node x) × (node x ≡ node y → turns_less (dir x) (dir y) ≡ false)
not_less node dir x y h = (
  ⊎_elim
      (λ (l : node x < node y). absurd (both_true (stands_less node dir x y) h (or_left (nat_lt (node x) (node y)) (node x == node y && turns_less (dir x) (dir y)) (lt-ltb (node x) (node y) l))))
      (λ (l : node y ≤ node x). l)
      (cases_lt (node x) (node y)),
  λ e. false_from_ne_true (turns_less (dir x) (dir y)) (λ g.
      both_true (stands_less node dir x y) h (or_right (nat_lt (node x) (node y)) (node x == node y && turns_less (dir x) (dir y)) (and_from (node x == node y) (turns_less (dir x) (dir y)) (eq-eqb (node x) (node y) e) g))),
)

less_parts : {X : Type 0} (node : X → ℕ) (dir : X → Direction) (x y : X) → stands_less node dir x y ≡ true → (node x < node y) ⊎ ((node x ≡ node y) × (turns_less (dir x) (dir y) ≡ true))
less_parts node dir x y h =
    ⊎_elim
    (λ (a : nat_lt (node x) (node y) ≡ true). inl (ltb-true (node x) (node y) a))
    (λ (b : (node x == node y && turns_less (dir x) (dir y)) ≡ true). let parts = and_parts (node x == node y) (turns_less (dir x) (dir y)) b in inr (eqb-true (node x) (node y) parts.0, parts.1))
    (or_out (nat_lt (node x) (node y)) (node x == node y && turns_less (dir x) (dir y)) h)

pub less_is_order : {X : Type 0} (node : X → ℕ) (dir : X → Direction) → IsStrictWeakOrder (stands_less node dir)
less_is_order {X} node dir = record {
  one_way = λ x y h. false_from_ne_true (stands_less node dir y x) (λ g. clash x y (less_parts node dir x y h) (less_parts node dir y x g));
  chain = λ x y z a b. false_from_ne_true (stands_less node dir x z) (λ h. broken x y z (not_less node dir x y a) (not_less node dir y z b) (less_parts node dir x z h));
}
  where
    clash : (x y : X) → (node x < node y) ⊎ ((node x ≡ node y) × (turns_less (dir x) (dir y) ≡ true)) → (node y < node x) ⊎ ((node y ≡ node x) × (turns_less (dir y) (dir x) ≡ true)) → ⊥
    clash x y (inl a) (inl b) = omega arith
    clash x y (inl a) (inr b) = let e = b.0 in omega arith
    clash x y (inr a) (inl b) = let e = a.0 in omega arith
    clash x y (inr a) (inr b) = both_true (turns_less (dir y) (dir x)) (less_one_way (dir x) (dir y) a.1) b.1

    broken : (x y z : X) → (node y ≤ node x) × (node x ≡ node y → turns_less (dir x) (dir y) ≡ false) → (node z ≤ node y) × (node y ≡ node z → turns_less (dir y) (dir z) ≡ false)
        → (node x < node z) ⊎ ((node x ≡ node z) × (turns_less (dir x) (dir z) ≡ true)) → ⊥
    broken x y z a b (inl h) = let p = a.0 in let q = b.0 in omega arith
    broken x y z a b (inr h) =
        let p = a.0 in
        let q = b.0 in
        let e = h.0 in
        let xy : node x ≡ node y = omega arith in
        let yz : node y ≡ node z = omega arith in
        both_true (turns_less (dir x) (dir z)) (less_chain (dir x) (dir y) (dir z) (a.1 xy) (b.1 yz)) h.1

pub not_equal : (k b : ℕ) → (k ≡ b → ⊥) → (k == b) ≡ false
not_equal k b h = false_from_ne_true (k == b) (λ e. h (eqb-true k b e))

-- ---- the answers of a comparison
is_less : (o : Ordering) (t : Bool) → o ≡ Less ↔ IsTrue t → is_lt o ≡ t
is_less Less t h = sym (h.0 refl)
is_less Equal t h = sym (false_from_ne_true t (λ e. no_equal (h.1 e)))
  where
    no_equal : Equal ≡ Less → ⊥
    no_equal f = cc
is_less Greater t h = sym (false_from_ne_true t (λ e. no_greater (h.1 e)))
  where
    no_greater : Greater ≡ Less → ⊥
    no_greater f = cc

pub turned_less : (a b : Spoke) (o : Ordering) → a.node ≡ b.node → IsNotZero (a.dir) → IsNotZero (b.dir) → o ≡ Less ↔ IsTrue (is_nearer straight_up (a.dir) (b.dir)) → is_lt o ≡ spoke_less a b
turned_less a b o same some also h =
    is_less o (is_nearer straight_up (a.dir) (b.dir)) h ∙ (λ i. is_nearer straight_up (sym (some_same (a.dir) some) i) (sym (some_same (b.dir) also) i))
    ∙ (λ i. sym below i || sym (eq-eqb a.node b.node same) i && turns_less (a.dir) (b.dir))
  where
    below : nat_lt a.node b.node ≡ false
    below = false_from_ne_true (nat_lt a.node b.node) (λ e. let l = ltb-true a.node b.node e in omega arith)

pub numbers_less : (a b : Spoke) → (a.node ≡ b.node → ⊥) → is_lt (nat_cmp a.node b.node) ≡ spoke_less a b
numbers_less a b other =
    by_cases (nat_lt a.node b.node) (a.node == b.node) ∙ (λ i. nat_lt a.node b.node || sym (not_equal a.node b.node other) i && turns_less (a.dir) (b.dir))
  where
    by_cases : (t e : Bool) → is_lt (cond t Less (cond e Equal Greater)) ≡ (t || false)
    by_cases true e = refl
    by_cases false true = refl
    by_cases false false = refl

-- ---- what stands at different places differs, in whatever order
abbrev pub AreApart : {X : Type 0} → List X → Type 0
AreApart {X} xs = (i j : ℕ) (d : X) → i < length xs → j < length xs → get_or xs i d ≡ get_or xs j d → i ≡ j

abbrev turn : ℕ → ℕ → ℕ → ℕ
turn a b k = cond (k == b) a (cond (k == a) b k)

data TurnIs (a b k t : ℕ) : Type 0 where
  to_first : k ≡ b → t ≡ a → TurnIs a b k t
  to_second : (k ≡ b → ⊥) → k ≡ a → t ≡ b → TurnIs a b k t
  stays : (k ≡ b → ⊥) → (k ≡ a → ⊥) → t ≡ k → TurnIs a b k t

turn_is : (a b k : ℕ) → TurnIs a b k (turn a b k)
turn_is a b k =
    ⊎_elim
    (λ (e : k ≡ b). to_first e (ap (λ t. cond t a (cond (k == a) b k)) (eq-eqb k b e)))
    (λ (e : k ≡ b → ⊥).
    ⊎_elim
    (λ (f : k ≡ a). to_second e f (ap (λ t. cond t a (cond (k == a) b k)) (not_equal k b e) ∙ ap (λ t. cond t b k) (eq-eqb k a f)))
    (λ (f : k ≡ a → ⊥). stays e f (ap (λ t. cond t a (cond (k == a) b k)) (not_equal k b e) ∙ ap (λ t. cond t b k) (not_equal k a f)))
    (cases_eq k a))
    (cases_eq k b)

turned_apart : (a b i j s t : ℕ) → TurnIs a b i s → TurnIs a b j t → s ≡ t → i ≡ j
turned_apart a b i j s t (to_first p q) (to_first p' q') e = omega arith
turned_apart a b i j s t (to_first p q) (to_second n' p' q') e = absurd (n' (omega arith))
turned_apart a b i j s t (to_first p q) (stays n' m' q') e = absurd (m' (omega arith))
turned_apart a b i j s t (to_second n p q) (to_first p' q') e = absurd (n (omega arith))
turned_apart a b i j s t (to_second n p q) (to_second n' p' q') e = omega arith
turned_apart a b i j s t (to_second n p q) (stays n' m' q') e = absurd (n' (omega arith))
turned_apart a b i j s t (stays n m q) (to_first p' q') e = absurd (m (omega arith))
turned_apart a b i j s t (stays n m q) (to_second n' p' q') e = absurd (n (omega arith))
turned_apart a b i j s t (stays n m q) (stays n' m' q') e = omega arith

turn_within : (a b k n t : ℕ) → TurnIs a b k t → a < n → b < n → k < n → t < n
turn_within a b k n t (to_first p q) x y z = omega arith
turn_within a b k n t (to_second m p q) x y z = omega arith
turn_within a b k n t (stays m l q) x y z = omega arith

swap_at : {X : Type 0} (l : List X) (a b k : ℕ) (d : X) → a < length l → b < length l → get_or (swap l a b) k d ≡ get_or l (turn a b k) d
swap_at l a b k d la lb = ap (λ xs. get_or xs k d) (sym (swap_is l a b d la lb)) ∙ by_turn (turn a b k) (turn_is a b k)
  where
    by_turn : (t : ℕ) → TurnIs a b k t → get_or (slice_set (slice_set l a (get_or l b d)) b (get_or l a d)) k d ≡ get_or l t d
    by_turn t (to_first p q) = get_or-set_at (slice_set l a (get_or l b d)) b k (get_or l a d) d p (omega (arith, length-set l a (get_or l b d))) ∙ ap (λ n. get_or l n d) (sym q)
    by_turn t (to_second n p q) = get_or-set_other (slice_set l a (get_or l b d)) b k (get_or l a d) d n ∙ get_or-set_at l a k (get_or l b d) d p la ∙ ap (λ n. get_or l n d) (sym q)
    by_turn t (stays n m q) = get_or-set_other (slice_set l a (get_or l b d)) b k (get_or l a d) d n ∙ get_or-set_other l a k (get_or l b d) d m ∙ ap (λ n. get_or l n d) (sym q)

length_swapped : {X : Type 0} (l : List X) (a b : ℕ) (d : X) → a < length l → b < length l → length (swap l a b) ≡ length l
length_swapped l a b d la lb = sym (ap length (swap_is l a b d la lb)) ∙ length-set (slice_set l a (get_or l b d)) b (get_or l a d) ∙ length-set l a (get_or l b d)

swapped_apart : {X : Type 0} (l : List X) (a b : ℕ) → a < length l → b < length l → AreApart l → AreApart (swap l a b)
swapped_apart l a b la lb h i j d wi wj e =
    let long = length_swapped l a b d la lb in
    turned_apart a b i j (turn a b i) (turn a b j) (turn_is a b i) (turn_is a b j)
    (h (turn a b i) (turn a b j) d (turn_within a b i (length l) (turn a b i) (turn_is a b i) la lb (omega (arith, long))) (turn_within a b j (length l) (turn a b j) (turn_is a b j) la lb (omega (arith, long)))
    (sym (swap_at l a b i d la lb) ∙ e ∙ swap_at l a b j d la lb))

pub moved_apart : {X : Type 0} (xs ys : List X) → IsPermutation xs ys → AreApart xs → AreApart ys
moved_apart xs ys p h = IsPermutation-keeps xs AreApart h (λ l i j wi wj k. swapped_apart l i j wi wj k) ys p

-- ---- the half-edges of some edges, by their places
rest_above : (low next : ℕ) (es : List Edge) (j : ℕ) (d : HalfEdge) → InOrder edge_id_of low next es → j < length (flat_map both_ways es) → low ≤ (get_or (flat_map both_ways es) j d).edge_id
rest_above low next es j d h w =
    let k = get_or (flat_map both_ways es) j d in
    let r = half_of es k (at_has d (flat_map both_ways es) j w) in
    let above = (ids_within edge_id_of low next es r.edge h r.there).0 in
    let same : r.edge.edge_id ≡ k.edge_id = ⊎_elim (λ (e : forward_of r.edge ≡ k). ap (λ (z : HalfEdge). z.edge_id) e) (λ (e : backward_of r.edge ≡ k). ap (λ (z : HalfEdge). z.edge_id) e) r.way in
    omega arith

pub halves_apart : (low next : ℕ) (es : List Edge) → InOrder edge_id_of low next es → AreApart (flat_map both_ways es)
halves_apart low next [] h i j d wi wj e = absurd (omega arith)
halves_apart low next (x ∷ es) h zero zero d wi wj e = refl
halves_apart low next (x ∷ es) h zero (suc zero) d wi wj e = absurd (true≢false (ap (λ (z : HalfEdge). z.is_forward) e))
halves_apart low next (x ∷ es) h (suc zero) zero d wi wj e = absurd (true≢false (sym (ap (λ (z : HalfEdge). z.is_forward) e)))
halves_apart low next (x ∷ es) h (suc zero) (suc zero) d wi wj e = refl
halves_apart low next (x ∷ es) h zero (suc (suc j)) d wi wj e =
    let above = rest_above (x.edge_id + 1) next es j d (first_of edge_id_of low next x es h).2 (omega arith) in
    let same : x.edge_id ≡ (get_or (flat_map both_ways es) j d).edge_id = ap (λ (z : HalfEdge). z.edge_id) e in
    absurd (omega arith)
halves_apart low next (x ∷ es) h (suc zero) (suc (suc j)) d wi wj e =
    let above = rest_above (x.edge_id + 1) next es j d (first_of edge_id_of low next x es h).2 (omega arith) in
    let same : x.edge_id ≡ (get_or (flat_map both_ways es) j d).edge_id = ap (λ (z : HalfEdge). z.edge_id) e in
    absurd (omega arith)
halves_apart low next (x ∷ es) h (suc (suc i)) zero d wi wj e =
    let above = rest_above (x.edge_id + 1) next es i d (first_of edge_id_of low next x es h).2 (omega arith) in
    let same : (get_or (flat_map both_ways es) i d).edge_id ≡ x.edge_id = ap (λ (z : HalfEdge). z.edge_id) e in
    absurd (omega arith)
halves_apart low next (x ∷ es) h (suc (suc i)) (suc zero) d wi wj e =
    let above = rest_above (x.edge_id + 1) next es i d (first_of edge_id_of low next x es h).2 (omega arith) in
    let same : (get_or (flat_map both_ways es) i d).edge_id ≡ x.edge_id = ap (λ (z : HalfEdge). z.edge_id) e in
    absurd (omega arith)
halves_apart low next (x ∷ es) h (suc (suc i)) (suc (suc j)) d wi wj e =
    let same = halves_apart (x.edge_id + 1) next es (first_of edge_id_of low next x es h).2 i j d (omega arith) (omega arith) e in
    omega arith

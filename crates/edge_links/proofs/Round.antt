-- Three directions in clockwise order, seen from each of them, and what comes next in a star.
use Rattle.std.proofs.Common.{◌≡◌, ◌≢◌, ℕ, suc, ◌+◌, ◌<◌, ◌≤◌, refl, sym, ◌∙◌, ap, subst, arith, ◌⊎◌, inl, inr, ⊎_elim, Bool, true, false, cond, eqb, eq-eqb, List, [], ◌∷◌, length, IsTrue}
use Rattle.std.proofs.lemmas.Bool.{both_ways, and_parts, and_from, eqb-true, false_from_ne_true, cases_lt}
use Rattle.plane.proofs.Directions.{nearer_in, nearer_self, nearer_onward, nearer_total, nearer_cyclic, same_out, same_in, one_turned, quarter_of_one}
use Rattle.plane.proofs.Wedges.{apart_nearer, before_before, in_pairs}
use Rattle.plane.specs.Direction.{Direction, cross, quarter, is_nearer, same_direction, straight_up, nearer_by, OneDirection, IsNotZero}
use Rattle.plane.specs.Wedge.{are_nearer_first, in_clockwise_order, direction_at}
use Rattle.edge_links.specs.Links.{index_after}

-- u, v and w in clockwise order, seen from each
pub record AreRound (u v w : Direction) : Type 0 where
  pub from_first : IsTrue (is_nearer u v w)
  pub from_second : IsTrue (is_nearer v w u)
  pub from_third : IsTrue (is_nearer w u v)

same_switched : (u v : Direction) → IsNotZero u → IsNotZero v → same_direction u v ≡ false → same_direction v u ≡ false
same_switched u v hu hv e = false_from_ne_true (same_direction v u) (λ h. both_ways (same_direction u v) e (same_in u v (one_turned v u (same_out v u hv hu h))))

from_one : (r u v w : Direction) → OneDirection r u → is_nearer r v w ≡ is_nearer u v w
from_one r u v w one = ap (λ q. nearer_by q (quarter r w) (cross v w)) (quarter_of_one v r u one) ∙ ap (λ q. nearer_by (quarter u v) q (cross v w)) (quarter_of_one w r u one)

pub around : (r u v w : Direction) → IsNotZero r → IsNotZero u → IsNotZero v → IsNotZero w → IsTrue (is_nearer r u v) → IsTrue (is_nearer r v w) → AreRound u v w
around r u v w hr hu hv hw a b = by_first (same_direction r u) refl
  where
    turned : IsTrue (is_nearer u v w) → AreRound u v w
    turned first =
        let second = nearer_cyclic u v w hu hv first (apart_nearer r u v hu hv a) in
        record { from_first = first; from_second = second; from_third = nearer_cyclic v w u hv hw second (apart_nearer r v w hv hw b) }

    by_first : (c : Bool) → same_direction r u ≡ c → AreRound u v w
    by_first true e = turned (sym (from_one r u v w (same_out r u hr hu e)) ∙ b)
    by_first false e =
        let third = before_before r w u v hr hw hu hv e a b in
        turned (nearer_cyclic w u v hw hu third (same_switched u w hu hw (apart_nearer r u w hu hw (nearer_onward r u v w a b))))

-- each direction of a list isn't zero
abbrev pub AreSome : List Direction → Type 0
AreSome us = (i : ℕ) → i < length us → IsNotZero (direction_at us i)

up_is_some : IsNotZero straight_up
up_is_some e f = cc

-- three places of a star
pub places_round : (us : List Direction) → AreSome us → IsTrue (are_nearer_first straight_up us) → (i j k : ℕ) → i < j → j < k → k < length us → AreRound (direction_at us i) (direction_at us j) (direction_at us k)
places_round us some sorted i j k p q within =
    around straight_up (direction_at us i) (direction_at us j) (direction_at us k) up_is_some (some i (omega arith)) (some j (omega arith)) (some k within)
    (in_pairs straight_up us sorted i j p (omega arith)) (in_pairs straight_up us sorted j k q within)

after_last : (n i : ℕ) → i + 1 ≡ n → index_after n i ≡ 0
after_last n i e = ap (λ b. cond b 0 (i + 1)) (eq-eqb (i + 1) n e)

after_inner : (n i : ℕ) → i + 1 < n → index_after n i ≡ i + 1
after_inner n i h = ap (λ b. cond b 0 (i + 1)) (false_from_ne_true (eqb (i + 1) n) (λ e. let f = eqb-true (i + 1) n e in omega arith))

-- the next place
pub next_place : (n i : ℕ) → i < n → ((i + 1 ≡ n) × (index_after n i ≡ 0)) ⊎ ((i + 1 < n) × (index_after n i ≡ i + 1))
next_place n i h = ⊎_elim
    (λ (g : i + 1 < n). inr (g, after_inner n i g))
    (λ (g : n ≤ i + 1). let e : i + 1 ≡ n = omega arith in inl (e, after_last n i e))
    (cases_lt (i + 1) n)

-- what stands next in a star comes before all others
pub nearest_next : (us : List Direction) → AreSome us → IsTrue (are_nearer_first straight_up us) → (i j : ℕ) → i < length us → j < length us → j ≢ i → j ≢ index_after (length us) i
    → IsTrue (is_nearer (direction_at us i) (direction_at us (index_after (length us) i)) (direction_at us j))
nearest_next us some sorted i j here there other apart =
    ⊎_elim
    (λ (h : (i + 1 ≡ length us) × (index_after (length us) i ≡ 0)).
    let last = h.0 in
    let not_first : j ≢ 0 = λ e. apart (e ∙ sym h.1) in
    subst (λ k. IsTrue (is_nearer (direction_at us i) (direction_at us k) (direction_at us j))) (sym h.1)
    (places_round us some sorted 0 j i (omega arith) (omega arith) here).from_third)
    (λ (h : (i + 1 < length us) × (index_after (length us) i ≡ i + 1)).
    let inner = h.0 in
    let not_next : j ≢ i + 1 = λ e. apart (e ∙ sym h.1) in
    subst (λ k. IsTrue (is_nearer (direction_at us i) (direction_at us k) (direction_at us j))) (sym h.1)
    (⊎_elim
    (λ (g : j < i). (places_round us some sorted j i (i + 1) g (omega arith) inner).from_second)
    (λ (g : i ≤ j). (places_round us some sorted i (i + 1) j (omega arith) (omega arith) there).from_first)
    (cases_lt j i)))
    (next_place (length us) i here)

-- ---- a star is in clockwise order from its first direction
own_first : (r u v : Direction) → IsNotZero u → IsNotZero v → IsTrue (is_nearer r u v) → IsTrue (is_nearer u u v)
own_first r u v hu hv h =
    let self : quarter u u ≡ 0 = eqb-true (quarter u u) 0 (same_in u u (nearer_total u u u hu hu hu (nearer_self u u) (nearer_self u u))) in
    let other : quarter u v ≢ 0 = λ e. both_ways (same_direction u v) (apart_nearer r u v hu hv h) (eq-eqb (quarter u v) 0 e) in
    nearer_in (quarter u u) (quarter u v) (cross u v) (inl (omega arith))

order_onward : (u v : Direction) (us : List Direction) → IsNotZero u → AreSome (v ∷ us) → IsTrue (is_nearer straight_up u v) → IsTrue (are_nearer_first straight_up (v ∷ us)) → IsTrue (are_nearer_first u (v ∷ us))
order_onward u v [] hu some first sorted = refl
order_onward u v (w ∷ us) hu some first sorted =
    let both = and_parts (is_nearer straight_up v w) (are_nearer_first straight_up (w ∷ us)) sorted in
    let round = around straight_up u v w up_is_some hu (some 0 (omega arith)) (some 1 (omega arith)) first both.0 in
    and_from (is_nearer u v w) (are_nearer_first u (w ∷ us)) round.from_first
    (order_onward u w us hu (λ i h. some (suc i) (omega arith)) (nearer_onward straight_up u v w first both.0) both.1)

pub star_order : (us : List Direction) → AreSome us → IsTrue (are_nearer_first straight_up us) → IsTrue (in_clockwise_order us)
star_order [] some sorted = refl
star_order (u ∷ []) some sorted = refl
star_order (u ∷ v ∷ us) some sorted =
    let both = and_parts (is_nearer straight_up u v) (are_nearer_first straight_up (v ∷ us)) sorted in
    and_from (is_nearer u u v) (are_nearer_first u (v ∷ us)) (own_first straight_up u v (some 0 (omega arith)) (some 1 (omega arith)) both.0)
    (order_onward u v us (some 0 (omega arith)) (λ i h. some (suc i) (omega arith)) both.0 both.1)

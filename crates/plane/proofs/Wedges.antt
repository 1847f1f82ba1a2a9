-- The wedge of a star that a direction is in.
use Rattle.std.proofs.Common.{◌≡◌, ℕ, zero, suc, pos, ◌<ℤ◌, ◌+◌, ◌<◌, ◌≤◌, refl, sym, ◌∙◌, subst, arith, ◌⊎◌, inl, inr, ⊎_elim, true, false, List, [], ◌∷◌, length, IsTrue}
use Rattle.std.specs.Prelude.{Any, slice_index_or}
use Rattle.std.proofs.lemmas.Bool.{both_ways, and_parts, eqb-true, false_from_ne_true, cases_order, cases_lt}
use Rattle.std.proofs.lemmas.List.{get_or_default}
use Rattle.plane.proofs.Directions.{Nearer, nearer_out, nearer_self, nearer_onward, nearer_one, nearer_total, nearer_cyclic, same_out, same_in, one_turned}
use Rattle.plane.specs.Direction.{Direction, cross, quarter, is_nearer, same_direction, OneDirection, IsNotZero}
use Rattle.plane.specs.Wedge.{are_nearer_first, in_clockwise_order, no_direction, direction_at, IsLastBefore}

-- what comes after another does not point the same way as r
pub not_own : (r u v : Direction) → IsTrue (is_nearer r u v) → same_direction r v ≡ false
not_own r u v h =
    false_from_ne_true (same_direction r v)
    (λ e. by_parts (quarter r u) (quarter r v) (eqb-true (quarter r v) 0 e)
    (nearer_out (quarter r u) (quarter r v) (cross u v) h))
  where
    by_parts : (q p : ℕ) → p ≡ 0 → Nearer q p (cross u v) → ⊥
    by_parts q p e = ⊎_elim
        (λ (l : q < p). omega arith)
        (λ (l : (q ≡ p) × (cross u v <ℤ pos 0) × ((q ≡ 1) ⊎ (q ≡ 3))). let m = l.0 in ⊎_elim (λ (k : q ≡ 1). omega arith) (λ (k : q ≡ 3). omega arith) l.2)

-- one that comes before another does not point the same way
pub apart_nearer : (r u v : Direction) → IsNotZero u → IsNotZero v → IsTrue (is_nearer r u v) → same_direction u v ≡ false
apart_nearer r u v hu hv h = false_from_ne_true (same_direction u v) (λ e. both_ways (is_nearer r u v) (nearer_one r u v (same_out u v hu hv e)) h)

-- d is after w, seen from r: what is after d comes before w, seen from d
pub after_before : (r d u w : Direction) → IsNotZero r → IsNotZero d → IsNotZero w → same_direction r w ≡ false →
    IsTrue (is_nearer r w d) → IsTrue (is_nearer r d u) → IsTrue (is_nearer d u w)
after_before r d u w hr hd hw apart before after =
    let a = nearer_cyclic r d u hr hd after (not_own r w d before) in
    let b = nearer_cyclic r w d hr hw before apart in
    let c = nearer_cyclic w d r hw hd b (apart_nearer r w d hw hd before) in
    nearer_onward d u r w a c

-- and so does what is before w, or is r itself
pub own_before : (r d w : Direction) → IsNotZero r → IsNotZero d → IsNotZero w → same_direction r w ≡ false → IsTrue (is_nearer r w d) → IsTrue (is_nearer d r w)
own_before r d w hr hd hw apart before =
    nearer_cyclic w d r hw hd (nearer_cyclic r w d hr hw before apart) (apart_nearer r w d hw hd before)

pub before_before : (r d u w : Direction) → IsNotZero r → IsNotZero d → IsNotZero u → IsNotZero w → same_direction r u ≡ false →
    IsTrue (is_nearer r u w) → IsTrue (is_nearer r w d) → IsTrue (is_nearer d u w)
before_before r d u w hr hd hu hw apart first before =
    let a = nearer_cyclic r w d hr hw before (not_own r u w first) in
    let b = nearer_cyclic r u w hr hu first apart in
    let c = nearer_cyclic u w r hu hw b (apart_nearer r u w hu hw first) in
    nearer_cyclic w d u hw hd (nearer_onward w d r u a c) (apart_nearer r w d hw hd before)

-- each of a list in order comes before each later one
pub in_pairs : (r : Direction) (us : List Direction) → IsTrue (are_nearer_first r us) → (i j : ℕ) → i < j → j < length us → IsTrue (is_nearer r (direction_at us i) (direction_at us j))
in_pairs r [] h i j p q = absurd (omega arith)
in_pairs r (u ∷ []) h i zero p q = absurd (omega arith)
in_pairs r (u ∷ []) h i (suc j) p q = absurd (omega arith)
in_pairs r (u ∷ v ∷ us) h i zero p q = absurd (omega arith)
in_pairs r (u ∷ v ∷ us) h zero (suc zero) p q = (and_parts (is_nearer r u v) (are_nearer_first r (v ∷ us)) h).0
in_pairs r (u ∷ v ∷ us) h zero (suc (suc j)) p q =
    let parts = and_parts (is_nearer r u v) (are_nearer_first r (v ∷ us)) h in
    nearer_onward r u v (direction_at (v ∷ us) (suc j)) parts.0 (in_pairs r (v ∷ us) parts.1 zero (suc j) (omega arith) (omega arith))
in_pairs r (u ∷ v ∷ us) h (suc i) (suc j) p q =
    let parts = and_parts (is_nearer r u v) (are_nearer_first r (v ∷ us)) h in
    in_pairs r (v ∷ us) parts.1 i j (omega arith) (omega arith)

pub star_pairs : (star : List Direction) → IsTrue (in_clockwise_order star) → (i j : ℕ) → i < j → j < length star → IsTrue (is_nearer (direction_at star 0) (direction_at star i) (direction_at star j))
star_pairs [] h i j p q = absurd (omega arith)
star_pairs (u ∷ us) h i j p q = in_pairs u (u ∷ us) h i j p q

-- the direction at k comes before d, seen from the first of the star
pub record IsBefore (star : List Direction) (d : Direction) (k : ℕ) : Type 0 where
  pub nearer : IsTrue (is_nearer (direction_at star 0) (direction_at star k) d)
  pub first : IsNotZero (direction_at star 0)
  pub own : IsNotZero (direction_at star k)
  pub other : IsNotZero d

zero_or : (n : ℕ) → (n ≡ 0) ⊎ (0 < n)
zero_or zero = inl refl
zero_or (suc n) = inr (omega arith)

-- those up to i come before d, and those after it come after d: i is the last before d
pub last_before : (star : List Direction) (d : Direction) (i : ℕ) → IsTrue (in_clockwise_order star) → i < length star →
    ((k : ℕ) → k < i + 1 → IsBefore star d k) → ((k : ℕ) → i < k → k < length star → IsTrue (is_nearer (direction_at star 0) d (direction_at star k))) → IsLastBefore star d i
last_before star d i sorted within before after = record {
  within = within;
  before = false_from_ne_true (is_nearer r d w) (λ e. both_ways (is_nearer r w w) (nearer_self r w) (nearer_onward r w d w here.nearer e));
  rest_after = after;
  last = λ k p n. ⊎_elim
      (λ (e : k ≡ i). absurd (n e))
      (λ (s : (k < i) ⊎ (i < k)). ⊎_elim (λ (l : k < i). below k l) (λ (l : i < k). above k l p) s)
      (cases_order k i);
}
  where
    r : Direction
    r = direction_at star 0

    w : Direction
    w = direction_at star i

    here : IsBefore star d i
    here = before i (omega arith)

    apart : (k : ℕ) → 0 < k → k < length star → same_direction r (direction_at star k) ≡ false
    apart k p q = not_own r r (direction_at star k) (star_pairs star sorted 0 k p q)

    above : (k : ℕ) → i < k → k < length star → IsTrue (is_nearer d (direction_at star k) w)
    above k l p = ⊎_elim
        (λ (e : i ≡ 0). subst (λ m. IsTrue (is_nearer d (direction_at star k) (direction_at star m))) (sym e)
        (nearer_cyclic r d (direction_at star k) here.first here.other (after k l p) (not_own r w d here.nearer)))
        (λ (g : 0 < i). after_before r d (direction_at star k) w here.first here.other here.own (apart i g within) here.nearer (after k l p))
        (zero_or i)

    below : (k : ℕ) → k < i → IsTrue (is_nearer d (direction_at star k) w)
    below k l = ⊎_elim
        (λ (e : k ≡ 0). subst (λ m. IsTrue (is_nearer d (direction_at star m) w)) (sym e) (own_before r d w here.first here.other here.own (apart i (omega arith) within) here.nearer))
        (λ (g : 0 < k). before_before r d (direction_at star k) w here.first here.other ((before k (omega arith)).own) here.own (apart k g (omega arith)) (star_pairs star sorted k i l within) here.nearer)
        (zero_or k)

-- and none points the same way as d
pub none_same : (star : List Direction) (d : Direction) (i : ℕ) →
    ((k : ℕ) → k < i + 1 → IsBefore star d k) → ((k : ℕ) → i < k → k < length star → IsTrue (is_nearer (direction_at star 0) d (direction_at star k))) → Any (λ u. OneDirection u d) star → ⊥
none_same star d i before after any =
    ⊎_elim
    (λ (h : any.0 < i + 1). both_ways (is_nearer r (direction_at star any.0) d) (nearer_one r (direction_at star any.0) d one) ((before any.0 h).nearer))
    (λ (h : i + 1 ≤ any.0). both_ways (is_nearer r d (direction_at star any.0)) (nearer_one r d (direction_at star any.0) (one_turned (direction_at star any.0) d one)) (after any.0 (omega arith) any.2))
    (cases_lt any.0 (i + 1))
  where
    r : Direction
    r = direction_at star 0

    one : OneDirection (direction_at star any.0) d
    one = subst (λ u. OneDirection u d) (sym (get_or_default star any.0 no_direction any.1 any.2 ∙ any.3)) any.4

pub at_index : (star : List Direction) (i : ℕ) (u : Direction) → i < length star → u ≡ slice_index_or star i u → direction_at star i ≡ u
at_index star i u h e = get_or_default star i no_direction u h ∙ sym e

-- index i divides the star: those up to it come before d, the others after it
pub record IsDivided (star : List Direction) (d : Direction) (i : ℕ) : Type 0 where
  pub within : i < length star
  pub before : (k : ℕ) → k < i + 1 → IsBefore star d k
  pub after : (k : ℕ) → i < k → k < length star → IsTrue (is_nearer (direction_at star 0) d (direction_at star k))

pub divided_last : (star : List Direction) (d : Direction) (i : ℕ) → IsTrue (in_clockwise_order star) → IsDivided star d i → IsLastBefore star d i
divided_last star d i sorted h = last_before star d i sorted h.within h.before h.after

pub divided_none : (star : List Direction) (d : Direction) (i : ℕ) → IsDivided star d i → (true ≡ false → Any (λ u. OneDirection u d) star) × (Any (λ u. OneDirection u d) star → true ≡ false)
divided_none star d i h = (λ e. cc, λ any. absurd (none_same star d i h.before h.after any))

-- nothing comes before the first
first_is_first : (r d : Direction) → IsNotZero r → IsTrue (is_nearer r d r) → ⊥
first_is_first r d hr h = both_ways (same_direction r r) (not_own r d r h) (same_in r r (nearer_total r r r hr hr hr (nearer_self r r) (nearer_self r r)))

-- all up to i, which comes after d, are before it
pub divided_at : (star : List Direction) (d : Direction) (i last : ℕ) → IsTrue (in_clockwise_order star) → i < length star → IsNotZero (direction_at star 0) →
    (i ≡ 0) ⊎ (i ≡ last + 1) → ((k : ℕ) → k < i → IsBefore star d k) → IsTrue (is_nearer (direction_at star 0) d (direction_at star i)) → IsDivided star d last
divided_at star d i last sorted within hr at before after =
    ⊎_elim
    (λ (e : i ≡ 0). absurd (first_is_first (direction_at star 0) d hr (subst (λ m. IsTrue (is_nearer (direction_at star 0) d (direction_at star m))) e after)))
    (λ (e : i ≡ last + 1). record {
      within = omega arith;
      before = λ k p. before k (omega arith);
      after = λ k p q. later k e p q;
    })
    at
  where
    later : (k : ℕ) → i ≡ last + 1 → last < k → k < length star → IsTrue (is_nearer (direction_at star 0) d (direction_at star k))
    later k e p q = ⊎_elim
        (λ (f : k ≡ i). subst (λ m. IsTrue (is_nearer (direction_at star 0) d (direction_at star m))) (sym f) after)
        (λ (s : (k < i) ⊎ (i < k)). ⊎_elim
        (λ (g : k < i). absurd (omega arith))
        (λ (g : i < k). nearer_onward (direction_at star 0) d (direction_at star i) (direction_at star k) after (star_pairs star sorted i k g q))
        s)
        (cases_order k i)

-- all are before d
pub divided_end : (star : List Direction) (d : Direction) (i last : ℕ) → 0 < length star → i ≤ length star → length star ≤ i →
    (i ≡ 0) ⊎ (i ≡ last + 1) → ((k : ℕ) → k < i → IsBefore star d k) → IsDivided star d last
divided_end star d i last some below above at before =
    ⊎_elim
    (λ (e : i ≡ 0). absurd (omega arith))
    (λ (e : i ≡ last + 1). record {
      within = omega arith;
      before = λ k p. before k (omega arith);
      after = λ k p q. absurd (omega arith);
    })
    at

-- one more before d
pub one_before : (star : List Direction) (d : Direction) (i : ℕ) → ((k : ℕ) → k < i → IsBefore star d k) → IsBefore star d i → (k : ℕ) → k < i + 1 → IsBefore star d k
one_before star d i before here k p = ⊎_elim (λ (g : k < i). before k g) (λ (g : i ≤ k). let e : i ≡ k = omega arith in subst (IsBefore star d) e here) (cases_lt k i)

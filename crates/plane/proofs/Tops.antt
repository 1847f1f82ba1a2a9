-- The top vertex of a closed walk.
use Rattle.std.proofs.Common.{◌≡◌, ℕ, zero, suc, ◌+◌, ◌<◌, ◌≤◌, refl, sym, ◌∙◌, ap, subst, arith, add-one, ◌<ℤ◌, ◌≤ℤ◌, ◌⊎◌, inl, inr, ⊎_elim, true, false, cond, List, [], ◌∷◌, length, drop, IsTrue}
use Rattle.std.specs.Prelude.{fold, ◌&&◌, int_lt}
use Rattle.std.specs.Ordering.{int_eq}
use Rattle.std.proofs.lemmas.Bool.{or_cases, and_parts, or_left, or_right, and_from, both_ways, false_from_ne_true, cases_lt}
use Rattle.std.proofs.lemmas.Bool.Decides.{Decides-int_eq}
use Rattle.topo_base.specs.Point.{Point}
use Rattle.plane.proofs.Ring.{signed}
use Rattle.plane.proofs.Signs.{order}
use Rattle.plane.proofs.Tests.{lt_yes, yes_lt}
use Rattle.plane.proofs.Walks.{higher, top_is}
use Rattle.plane.specs.ClosedWalk.{closed_segments, point_at, is_higher, top_of, IsTopVertex}

-- ---- the order of heights
abbrev IsHigher : Point → Point → Type 0
IsHigher p q = (q.y <ℤ p.y) ⊎ ((p.y ≡ q.y) × (q.x <ℤ p.x))

higher_out : (p q : Point) → is_higher p q ≡ true → IsHigher p q
higher_out p q e =
    ⊎_elim
    (λ (h : int_lt q.y p.y ≡ true). inl (yes_lt q.y p.y h))
    (λ (h : (int_eq p.y q.y && int_lt q.x p.x) ≡ true). let k = and_parts (int_eq p.y q.y) (int_lt q.x p.x) h in inr ((Decides-int_eq p.y q.y).0 k.0, yes_lt q.x p.x k.1))
    (or_cases (int_lt q.y p.y) (int_eq p.y q.y && int_lt q.x p.x) e)

higher_in : (p q : Point) → IsHigher p q → is_higher p q ≡ true
higher_in p q h =
    ⊎_elim
    (λ (k : q.y <ℤ p.y). or_left (int_lt q.y p.y) (int_eq p.y q.y && int_lt q.x p.x) (lt_yes q.y p.y k))
    (λ (k : (p.y ≡ q.y) × (q.x <ℤ p.x)). or_right (int_lt q.y p.y) (int_eq p.y q.y && int_lt q.x p.x) (and_from (int_eq p.y q.y) (int_lt q.x p.x) ((Decides-int_eq p.y q.y).1 k.0) (lt_yes q.x p.x k.1)))
    h

pub not_higher_self : (p : Point) → is_higher p p ≡ false
not_higher_self p = false_from_ne_true (is_higher p p) (λ e. ⊎_elim (λ (h : p.y <ℤ p.y). omega (arith, signed)) (λ (h : (p.y ≡ p.y) × (p.x <ℤ p.x)). let k = h.1 in omega (arith, signed)) (higher_out p p e))

-- q is not higher than best, and p is: p is higher than q
higher_than_lower : (p q best : Point) → is_higher q best ≡ false → is_higher p best ≡ true → is_higher p q ≡ true
higher_than_lower p q best low high =
    ⊎_elim
    (λ (h : best.y <ℤ p.y). by_height (order best.y q.y) (inl h))
    (λ (h : (p.y ≡ best.y) × (best.x <ℤ p.x)). by_height (order best.y q.y) (inr h))
    (higher_out p best high)
  where
    not_above : IsHigher q best → ⊥
    not_above h = both_ways (is_higher q best) low (higher_in q best h)

    by_height : (best.y <ℤ q.y) ⊎ (q.y ≤ℤ best.y) → IsHigher p best → is_higher p q ≡ true
    by_height s high =
        ⊎_elim
        (λ (h : best.y <ℤ q.y). absurd (not_above (inl h)))
        (λ (h : q.y ≤ℤ best.y).
        ⊎_elim
        (λ (k : best.y <ℤ p.y). higher_in p q (inl (omega (arith, signed))))
        (λ (k : (p.y ≡ best.y) × (best.x <ℤ p.x)).
        let e = k.0 in
        let f = k.1 in
        ⊎_elim
        (λ (g : q.y <ℤ best.y). higher_in p q (inl (omega (arith, signed))))
        (λ (g : best.y ≤ℤ q.y).
        ⊎_elim
        (λ (l : best.x <ℤ q.x). absurd (not_above (inr (omega (arith, signed), l))))
        (λ (l : q.x ≤ℤ best.x). higher_in p q (inr (omega (arith, signed), omega (arith, signed))))
        (order best.x q.x))
        (order q.y best.y))
        high)
        s

-- ---- the highest so far
-- of the points below i that at index top is the highest, and the first of these
pub record IsTopSoFar (ps : List Point) (i top : ℕ) : Type 0 where
  pub within : top < i
  pub rest : fold higher (point_at ps top) (drop i ps) ≡ top_of (closed_segments ps)
  pub highest : (k : ℕ) → k < i → is_higher (point_at ps k) (point_at ps top) ≡ false
  pub first : (k : ℕ) → k < top → IsTrue (is_higher (point_at ps top) (point_at ps k))

pub top_at_first : (ps : List Point) → 0 < length ps → IsTopSoFar ps 1 0
top_at_first [] h = absurd (omega arith)
top_at_first (p ∷ ps) h = record {
  within = omega arith;
  rest = sym (top_is p ps);
  highest = lone;
  first = λ k l. absurd (omega arith);
}
  where
    lone : (k : ℕ) → k < 1 → is_higher (point_at (p ∷ ps) k) p ≡ false
    lone zero l = not_higher_self p
    lone (suc k) l = absurd (omega arith)

next_higher : (ps : List Point) (i : ℕ) (best : Point) → i < length ps → fold higher best (drop i ps) ≡ fold higher (higher best (point_at ps i)) (drop (i + 1) ps)
next_higher ps i best h = rw add-one (onward ps i best h)
  where
    onward : (ps : List Point) (i : ℕ) (best : Point) → i < length ps → fold higher best (drop i ps) ≡ fold higher (higher best (point_at ps i)) (drop (suc i) ps)
    onward [] i best h = absurd (omega arith)
    onward (p ∷ ps) zero best h = refl
    onward (p ∷ ps) (suc i) best h = onward ps i best (omega arith)

up_to : (P : ℕ → Type 0) (i : ℕ) → ((k : ℕ) → k < i → P k) → P i → (k : ℕ) → k < i + 1 → P k
up_to P i before here k h = ⊎_elim (λ (g : k < i). before k g) (λ (g : i ≤ k). let e : i ≡ k = omega arith in subst P e here) (cases_lt k i)

pub top_moves : (ps : List Point) (i top : ℕ) → i < length ps → IsTopSoFar ps i top → is_higher (point_at ps i) (point_at ps top) ≡ true → IsTopSoFar ps (i + 1) i
top_moves ps i top h so e =
    let beats = λ (k : ℕ) (l : k < i). higher_than_lower (point_at ps i) (point_at ps k) (point_at ps top) (so.highest k l) e in
    record {
      within = omega arith;
      rest = ap (λ b. fold higher (cond b (point_at ps i) (point_at ps top)) (drop (i + 1) ps)) (sym e) ∙ sym (next_higher ps i (point_at ps top) h) ∙ so.rest;
      highest = up_to (λ k. is_higher (point_at ps k) (point_at ps i) ≡ false) i (λ k l. not_both k (beats k l)) (not_higher_self (point_at ps i));
      first = beats;
    }
  where
    not_both : (k : ℕ) → is_higher (point_at ps i) (point_at ps k) ≡ true → is_higher (point_at ps k) (point_at ps i) ≡ false
    not_both k f = false_from_ne_true (is_higher (point_at ps k) (point_at ps i))
        (λ g. both_ways (is_higher (point_at ps k) (point_at ps k)) (not_higher_self (point_at ps k))
        (higher_out_in k f g))
      where
        higher_out_in : (k : ℕ) → is_higher (point_at ps i) (point_at ps k) ≡ true → is_higher (point_at ps k) (point_at ps i) ≡ true → is_higher (point_at ps k) (point_at ps k) ≡ true
        higher_out_in k f g = higher_in (point_at ps k) (point_at ps k) (twice (point_at ps i) (point_at ps k) (higher_out (point_at ps i) (point_at ps k) f) (higher_out (point_at ps k) (point_at ps i) g))
          where
            twice : (p q : Point) → IsHigher p q → IsHigher q p → IsHigher q q
            twice p q a b = ⊎_elim
                (λ (l : q.y <ℤ p.y). ⊎_elim (λ (m : p.y <ℤ q.y). inl (omega (arith, signed))) (λ (m : (q.y ≡ p.y) × (p.x <ℤ q.x)). let n = m.0 in inl (omega (arith, signed))) b)
                (λ (l : (p.y ≡ q.y) × (q.x <ℤ p.x)). let c = l.0 in let d = l.1 in ⊎_elim (λ (m : p.y <ℤ q.y). inl (omega (arith, signed))) (λ (m : (q.y ≡ p.y) × (p.x <ℤ q.x)). let n = m.1 in inr (refl, omega (arith, signed))) b)
                a

pub top_stays : (ps : List Point) (i top : ℕ) → i < length ps → IsTopSoFar ps i top → is_higher (point_at ps i) (point_at ps top) ≡ false → IsTopSoFar ps (i + 1) top
top_stays ps i top h so e =
    let w = so.within in
    record {
      within = omega arith;
      rest = ap (λ b. fold higher (cond b (point_at ps i) (point_at ps top)) (drop (i + 1) ps)) (sym e) ∙ sym (next_higher ps i (point_at ps top) h) ∙ so.rest;
      highest = up_to (λ k. is_higher (point_at ps k) (point_at ps top) ≡ false) i so.highest e;
      first = so.first;
    }

pub top_at_end : (ps : List Point) (i top : ℕ) → i ≤ length ps → length ps ≤ i → IsTopSoFar ps i top → IsTopVertex ps top
top_at_end ps i top h k so =
    let w = so.within in
    record {
      within = omega arith;
      top = subst (λ qs. fold higher (point_at ps top) qs ≡ top_of (closed_segments ps)) (drop_past ps i k) so.rest;
      highest = λ m l. so.highest m (omega arith);
      first = so.first;
    }
  where
    drop_past : (ps : List Point) (i : ℕ) → length ps ≤ i → drop i ps ≡ []
    drop_past [] zero l = refl
    drop_past [] (suc i) l = refl
    drop_past (p ∷ ps) zero l = absurd (omega arith)
    drop_past (p ∷ ps) (suc i) l = drop_past ps i (omega arith)

-- A line with both ends on one ring cuts it: no ring has both of its directions.
use Rattle.std.proofs.Common.{◌≡◌, refl, sym, ◌∙◌, ap, subst, inl, inr, ⊎_elim, Bool, true, false, List, [], ◌∷◌, ◌++◌}
use Rattle.std.proofs.lemmas.Bool.{both_ways}
use Rattle.plane.specs.Segment.{Segment}
use Rattle.plane.specs.Parity.{xor}
use Rattle.plane.specs.Crossings.{back}
use Rattle.parity_laws.specs.Steps.{odd, Even, twin, times, left}
use Rattle.parity_laws.specs.Walks.{Chained}
use Rattle.parity_laws.specs.Rings.{In, Next, Within, Once, Ringwise, OneRing}
use Rattle.parity_laws.proofs.Sums.{xor_self, xor_comm, odd_append}
use Rattle.parity_laws.proofs.Tests.{same_self, same_not}
use Rattle.parity_laws.proofs.Gap.{twin_yes}
use Rattle.parity_laws.proofs.Walking.{chained_ends}
use Rattle.parity_laws.proofs.Ringwise.{each_in, side_back}
use Rattle.parity_laws.proofs.Lists.{in_left, in_cases}
use Rattle.parity_laws.specs.Coming.{walked_back, both_ways_of, with_line, Strung, LineComes}
use Rattle.parity_laws.proofs.Linking.{LinkedPoints, PartedPoints, linked_or_parted}
use Rattle.parity_laws.proofs.OnLine.{in_walked, once_apart, once_right, old_in, way_in, forth_in, back_in, not_both, left_ringwise, times_none}

-- the ends of two steps of one ring are linked
ring_links : (T : List Segment) (R : Segment → Bool) (d e : Segment) → OneRing T R → In d T → In e T → R d ≡ true → R e ≡ true → LinkedPoints T e.b d.b
ring_links T R d e one i j f g =
    ⊎_elim
    (λ (a : LinkedPoints T e.b d.b). a)
    (λ (c : PartedPoints T e.b d.b).
    let kept : (t : Segment) → In t T → c.side t.a ≡ c.side t.b = λ t k. each_in (λ s. c.side s.a ≡ c.side s.b) T c.kept t k in
    let rings : Ringwise T (λ t. c.side t.b) = λ m n k l next. ap c.side (sym next.meets) ∙ kept n l in
    absurd (both_ways (c.side d.b) c.at_y (sym (one (λ t. c.side t.b) rings e d j i g f) ∙ c.at_x)))
    (linked_or_parted T e.b d.b)

-- ---- the line and the way back make an even list that has the line once
pub strung_chained : (T : List Segment) (d : Segment) (X : List Segment) (z : Segment) → Strung T d X z → Chained d.b X z.b
strung_chained T d [] z h = ap (λ s. s.b) h
strung_chained T d (n ∷ X) z h = (h.0, strung_chained T n X z h.2)

-- where steps of T link the ends of the line, no ring has both of its directions
pub linked_ends : (T : List Segment) (first : Segment) (rest : List Segment) (last : Segment) (p : Segment → Bool) → LineComes T first rest last → LinkedPoints T last.b first.a →
    OneRing (with_line T (first ∷ rest)) p → p first ≡ true → p (back first) ≡ true → ⊥
linked_ends T first rest last p c a one e f =
    differ (left round first) (left round (back first)) (times round first)
    (side_back (with_line T (first ∷ rest)) round first c.new.plain even within first_there) has_it
    (one (left round) (left_ringwise (with_line T (first ∷ rest)) round c.new.plain even within) first (back first) first_there (way_in T (first ∷ rest) (back first) (back_in (first ∷ rest) first (inl refl))) e f)
  where
    round : List Segment
    round = (first ∷ rest) ++ a.through

    first_there : In first (with_line T (first ∷ rest))
    first_there = way_in T (first ∷ rest) first (forth_in (first ∷ rest) first (inl refl))

    within : Within round (with_line T (first ∷ rest))
    within s i =
        ⊎_elim
        (λ (j : In s (first ∷ rest)). way_in T (first ∷ rest) s (forth_in (first ∷ rest) s j))
        (λ (j : In s a.through). old_in T (first ∷ rest) s (a.within s j))
        (in_cases s (first ∷ rest) a.through i)

    even : Even round
    even h =
        odd_append (λ t. xor (h t.a) (h t.b)) (first ∷ rest) a.through
        ∙ sum_of (odd (λ t. xor (h t.a) (h t.b)) (first ∷ rest)) (odd (λ t. xor (h t.a) (h t.b)) a.through) (h first.a) (h last.b)
        (chained_ends h first.a (first ∷ rest) last.b (refl, strung_chained (with_line T (first ∷ rest)) first rest last c.strung)) (a.ends h)
      where
        sum_of : (l w x y : Bool) → l ≡ xor x y → w ≡ xor y x → xor l w ≡ false
        sum_of l w x y e f = rw (e, f, xor_comm y x) (xor_self (xor x y))

    not_old : (s : Segment) → In s (both_ways_of (first ∷ rest)) → In s a.through → ⊥
    not_old s i j = not_both T first rest last c s (a.within s j) i

    line_once : Once ((first ∷ rest) ++ walked_back (first ∷ rest))
    line_once = once_right T (both_ways_of (first ∷ rest)) c.new.once

    once_left : (X Y : List Segment) → Once (X ++ Y) → (s : Segment) → In s Y → In s X → ⊥
    once_left X Y once s i j = once_apart X Y once s j i

    has_it : times round first ≡ true
    has_it =
        odd_append (twin first) (first ∷ rest) a.through
        ∙ sum_of (twin first first) (times rest first) (times a.through first)
        (twin_yes first first (same_self first.a) (same_self first.b) (same_not first.a first.b (c.new.plain.proper first first_there)))
        (times_none rest first (λ i. line_once.0 (in_left first rest (walked_back (first ∷ rest)) i)) (λ i. once_left (first ∷ rest) (walked_back (first ∷ rest)) line_once (back first) (in_walked first (first ∷ rest) (inl refl)) (inr i)))
        (times_none a.through first (λ i. not_old first (forth_in (first ∷ rest) first (inl refl)) i) (λ i. not_old (back first) (back_in (first ∷ rest) first (inl refl)) i))
      where
        sum_of : (x y z : Bool) → x ≡ true → y ≡ false → z ≡ false → xor (xor x y) z ≡ true
        sum_of x y z e f g = rw (e, f, g)

    differ : (l b t : Bool) → l ≡ xor b t → t ≡ true → l ≡ b → ⊥
    differ true true t e f g = both_ways t (flip t e) f
      where
        flip : (t : Bool) → true ≡ xor true t → t ≡ false
        flip true e = e
        flip false e = refl
    differ true false t e f g = both_ways true g refl
    differ false true t e f g = both_ways false refl g
    differ false false t e f g = both_ways t (sym e) f

-- where a ring of the new drawing has both directions of the line, the rings at its ends are two
pub ends_on_two : (T : List Segment) (first : Segment) (rest : List Segment) (last : Segment) (p R : Segment → Bool) (a b : Segment) → LineComes T first rest last → OneRing (with_line T (first ∷ rest)) p →
    p first ≡ true → p (back first) ≡ true → OneRing T R → In a T → In b T → Next (with_line T (first ∷ rest)) a first → Next (with_line T (first ∷ rest)) b (back last) → R a ≡ true → R b ≡ false
ends_on_two T first rest last p R a b c one e f old i j at_first at_last g = by_value (R b) refl
  where
    by_value : (x : Bool) → R b ≡ x → x ≡ false
    by_value false h = refl
    by_value true h =
        absurd (linked_ends T first rest last p c (subst (λ z. LinkedPoints T last.b z) (sym at_first.meets) (subst (λ z. LinkedPoints T z a.b) (sym at_last.meets) (ring_links T R a b old i j g h))) one e f)

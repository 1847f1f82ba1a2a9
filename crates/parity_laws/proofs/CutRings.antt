-- A ring that a line cuts in two.
use Rattle.std.proofs.Common.{◌≡◌, refl, sym, ◌∙◌, ap, ◌⊎◌, inl, inr, ⊎_elim, Bool, true, false, not, List, ◌∷◌}
use Rattle.std.specs.Prelude.{◌||◌}
use Rattle.std.proofs.lemmas.Bool.{both_ways, or_cases, or_left, or_right}
use Rattle.plane.specs.Segment.{Segment}
use Rattle.plane.specs.Parity.{xor}
use Rattle.plane.specs.Crossings.{back}
use Rattle.parity_laws.specs.Steps.{left}
use Rattle.parity_laws.specs.Rings.{In, Next, those, Ringwise, OneRing}
use Rattle.parity_laws.proofs.Tests.{bool_same}
use Rattle.parity_laws.proofs.Splitting.{world, cut_constants}
use Rattle.parity_laws.specs.Coming.{both_ways_of, with_line, LineComes, Enters}
use Rattle.parity_laws.proofs.OnLine.{old_in, way_in, forth_in, back_in, last_in, not_both, way_label, among, in_among, not_among}
use Rattle.parity_laws.proofs.LineCorners.{entry_label, old_ringwise, new_ringwise}
use Rattle.parity_laws.proofs.Labels.{those_same}
use Rattle.parity_laws.proofs.OldRings.{left_with_line}
use Rattle.parity_laws.proofs.AcrossLine.{entries_same}
use Rattle.parity_laws.proofs.JoinedRings.{EndRing, end_ring}

-- the old ring on which both ends are; it is empty where the line is entered from itself alone
pub record LineRing (T T' : List Segment) (first last : Segment) (R : Segment → Bool) : Type 0 where
  pub ringwise : Ringwise T R
  pub one : OneRing T R
  pub has : (d : Segment) → In d T → Enters T' first last d → R d ≡ true
  pub near : ((t : Segment) → In t T → R t ≡ false) ⊎ ((d : Segment) × (In d T × (Enters T' first last d × (R d ≡ true))))

pub line_ring : (T : List Segment) (first : Segment) (rest : List Segment) (last : Segment) (p : Segment → Bool) → LineComes T first rest last → Ringwise (with_line T (first ∷ rest)) p →
    p first ≡ true → p (back first) ≡ false → (R : Segment → Bool) × LineRing T (with_line T (first ∷ rest)) first last R
line_ring T first rest last p c rings e f =
    by_ends (end_ring T first rest last first c (forth_in (first ∷ rest) first (inl refl))) (end_ring T first rest last (back last) c (back_in (first ∷ rest) last (last_in T first rest last c)))
  where
    by_ends : (Ra : Segment → Bool) × EndRing T (with_line T (first ∷ rest)) first Ra → (Rb : Segment → Bool) × EndRing T (with_line T (first ∷ rest)) (back last) Rb → (R : Segment → Bool) × LineRing T (with_line T (first ∷ rest)) first last R
    by_ends a b =
        ⊎_elim
        (λ (none : (t : Segment) → In t T → a.0 t ≡ false). (
          b.0,
          record {
            ringwise = b.1.ringwise;
            one = b.1.one;
            has = λ d i enters. ⊎_elim (λ (k : Next (with_line T (first ∷ rest)) d first). absurd (both_ways (a.0 d) (none d i) (a.1.has d i k))) (λ (k : Next (with_line T (first ∷ rest)) d (back last)). b.1.has d i k) enters;
            near = ⊎_elim (λ (k : (t : Segment) → In t T → b.0 t ≡ false). inl k) (λ (d : (d : Segment) × (In d T × (Next (with_line T (first ∷ rest)) d (back last) × (b.0 d ≡ true)))). inr (d.0, (d.1.0, (inr d.1.1.0, d.1.1.1)))) b.1.near;
          },
        ))
        (λ (d : (d : Segment) × (In d T × (Next (with_line T (first ∷ rest)) d first × (a.0 d ≡ true)))). (
          a.0,
          record {
            ringwise = a.1.ringwise;
            one = a.1.one;
            has = λ m i enters. ⊎_elim (λ (k : Next (with_line T (first ∷ rest)) m first). a.1.has m i k) (λ (k : Next (with_line T (first ∷ rest)) m (back last)).
                sym (entries_same T first rest last p a.0 d.0 m c rings e f a.1.ringwise d.1.0 i d.1.1.0 k) ∙ d.1.1.1) enters;
            near = inr (d.0, (d.1.0, (inl d.1.1.0, d.1.1.1)));
          },
        ))
        a.1.near

-- ---- the two parts
-- p has the line, and q the line walked back
pub record Cut (T : List Segment) (first : Segment) (rest : List Segment) (last : Segment) (p q : Segment → Bool) : Type 0 where
  pub p_rings : Ringwise (with_line T (first ∷ rest)) p
  pub p_one : OneRing (with_line T (first ∷ rest)) p
  pub q_rings : Ringwise (with_line T (first ∷ rest)) q
  pub q_one : OneRing (with_line T (first ∷ rest)) q
  pub forth : p first ≡ true
  pub not_walked : p (back first) ≡ false
  pub walked : q (back first) ≡ true

-- they have no common step
pub parts_apart : (T : List Segment) (first : Segment) (rest : List Segment) (last : Segment) (p q : Segment → Bool) → Cut T first rest last p q → (t : Segment) → In t (with_line T (first ∷ rest)) → p t ≡ true → q t ≡ false
parts_apart T first rest last p q k t i g = by_value (q t) refl
  where
    there : (s : Segment) → In s (both_ways_of (first ∷ rest)) → In s (with_line T (first ∷ rest))
    there s j = way_in T (first ∷ rest) s j

    first_there : In first (with_line T (first ∷ rest))
    first_there = there first (forth_in (first ∷ rest) first (inl refl))

    by_value : (x : Bool) → q t ≡ x → x ≡ false
    by_value false h = refl
    by_value true h =
        let m = k.q_one p k.p_rings t (back first) i (there (back first) (back_in (first ∷ rest) first (inl refl))) h k.walked in
        absurd (both_ways (p t) (m ∙ k.not_walked) g)

-- together they are the old ring
pub parts_cover : (T : List Segment) (first : Segment) (rest : List Segment) (last : Segment) (p q R : Segment → Bool) → LineComes T first rest last → Cut T first rest last p q → LineRing T (with_line T (first ∷ rest)) first last R →
    (t : Segment) → In t T → R t ≡ (p t || q t)
parts_cover T first rest last p q R c k r t i = bool_same (R t) (p t || q t) covered within
  where
    first_way : In first (both_ways_of (first ∷ rest))
    first_way = forth_in (first ∷ rest) first (inl refl)

    first_back : In (back first) (both_ways_of (first ∷ rest))
    first_back = back_in (first ∷ rest) first (inl refl)

    either : Segment → Bool
    either s = p s || q s

    either_rings : Ringwise (with_line T (first ∷ rest)) either
    either_rings d n j l next = both_of (p d) (p n) (q d) (q n) (k.p_rings d n j l next) (k.q_rings d n j l next)
      where
        both_of : (x x' y y' : Bool) → x ≡ x' → y ≡ y' → (x || y) ≡ (x' || y')
        both_of x x' y y' e f = rw (e, f)

    at_first : either first ≡ true
    at_first = or_left (p first) (q first) k.forth

    at_back : either (back first) ≡ true
    at_back = or_right (p (back first)) (q (back first)) k.walked

    covered : R t ≡ true → (p t || q t) ≡ true
    covered g =
        ⊎_elim
        (λ (none : (t : Segment) → In t T → R t ≡ false). absurd (both_ways (R t) (none t i) g))
        (λ (d : (d : Segment) × (In d T × (Enters (with_line T (first ∷ rest)) first last d × (R d ≡ true)))).
        r.one either (old_ringwise T first rest last either true c either_rings at_first at_back) t d.0 i d.1.0 g d.1.1.1 ∙ entry_label T first rest last either true c either_rings at_first at_back d.0 d.1.0 d.1.1.0)
        r.near

    whole : Segment → Bool
    whole s = R s || among (both_ways_of (first ∷ rest)) s

    off : (s : Segment) → In s T → whole s ≡ R s
    off s j = without (R s) (among (both_ways_of (first ∷ rest)) s) (not_among (both_ways_of (first ∷ rest)) s (λ l. not_both T first rest last c s j l))
      where
        without : (x y : Bool) → y ≡ false → (x || y) ≡ x
        without true y e = refl
        without false y e = e

    on : (s : Segment) → In s (both_ways_of (first ∷ rest)) → whole s ≡ true
    on s j = or_right (R s) (among (both_ways_of (first ∷ rest)) s) (in_among (both_ways_of (first ∷ rest)) s j)

    whole_rings : Ringwise (with_line T (first ∷ rest)) whole
    whole_rings = new_ringwise T first rest last whole true c (λ d n j l next. off d j ∙ r.ringwise d n j l next ∙ sym (off n l)) on (λ d j enters. off d j ∙ r.has d j enters)

    within : (p t || q t) ≡ true → R t ≡ true
    within g =
        ⊎_elim
        (λ (h : p t ≡ true). sym (off t i) ∙ k.p_one whole whole_rings t first (old_in T (first ∷ rest) t i) (way_in T (first ∷ rest) first first_way) h k.forth ∙ on first first_way)
        (λ (h : q t ≡ true). sym (off t i) ∙ k.q_one whole whole_rings t (back first) (old_in T (first ∷ rest) t i) (way_in T (first ∷ rest) (back first) first_back) h k.walked ∙ on (back first) first_back)
        (or_cases (p t) (q t) g)

-- their own parities make that of the old ring, changed
pub parts_left : (T : List Segment) (first : Segment) (rest : List Segment) (last : Segment) (p q R : Segment → Bool) → LineComes T first rest last → Cut T first rest last p q → LineRing T (with_line T (first ∷ rest)) first last R →
    xor (left (those p (with_line T (first ∷ rest))) first) (left (those q (with_line T (first ∷ rest))) (back first)) ≡ not (left (those R T) first)
parts_left T first rest last p q R c k r =
    turned_round (left (those (λ t. xor (p t) (q t)) (with_line T (first ∷ rest))) first) (xor (left (those p (with_line T (first ∷ rest))) first) (left (those q (with_line T (first ∷ rest))) (back first))) (left (those R T) first)
    (cut_constants (with_line T (first ∷ rest)) p q first (world (with_line T (first ∷ rest)) q c.new k.q_rings) first_there q_first k.walked) joined
  where
    first_there : In first (with_line T (first ∷ rest))
    first_there = way_in T (first ∷ rest) first (forth_in (first ∷ rest) first (inl refl))

    q_first : q first ≡ false
    q_first = parts_apart T first rest last p q k first first_there k.forth

    sum : Segment → Bool
    sum t = xor (p t) (q t)

    sum_rings : Ringwise (with_line T (first ∷ rest)) sum
    sum_rings d n i j next = both_of (p d) (p n) (q d) (q n) (k.p_rings d n i j next) (k.q_rings d n i j next)
      where
        both_of : (x x' y y' : Bool) → x ≡ x' → y ≡ y' → xor x y ≡ xor x' y'
        both_of x x' y y' e f = rw (e, f)

    one_of : (x y : Bool) → x ≡ true → y ≡ false → xor x y ≡ true
    one_of x y e f = rw (e, f)

    other_of : (x y : Bool) → x ≡ false → y ≡ true → xor x y ≡ true
    other_of x y e f = rw (e, f)

    as_sum : (x y : Bool) → (x ≡ true → y ≡ false) → (x || y) ≡ xor x y
    as_sum true y h = sym (ap not (h refl))
    as_sum false y h = refl

    joined : left (those (λ t. xor (p t) (q t)) (with_line T (first ∷ rest))) first ≡ left (those R T) first
    joined =
        left_with_line T (first ∷ rest) sum true (way_label T first rest last sum true c sum_rings (one_of (p first) (q first) k.forth q_first) (other_of (p (back first)) (q (back first)) k.not_walked k.walked)) first
        ∙ ap (λ X. left X first) (those_same sum R T (λ t i. sym (parts_cover T first rest last p q R c k r t i ∙ as_sum (p t) (q t) (parts_apart T first rest last p q k t (old_in T (first ∷ rest) t i)))))

    turned_round : (l x m : Bool) → l ≡ not x → l ≡ m → x ≡ not m
    turned_round l true m e f = sym (ap not (sym f ∙ e))
    turned_round l false m e f = sym (ap not (sym f ∙ e))

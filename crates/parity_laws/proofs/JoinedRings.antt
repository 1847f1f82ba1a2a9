-- Two rings that a line joins.
use Rattle.std.proofs.Common.{◌≡◌, refl, sym, ◌∙◌, ap, subst, ◌⊎◌, inl, inr, ⊎_elim, Bool, true, false, List, ◌∷◌}
use Rattle.std.specs.Prelude.{◌||◌}
use Rattle.std.proofs.lemmas.Bool.{both_ways, or_cases, or_left, or_right}
use Rattle.plane.specs.Segment.{Segment}
use Rattle.plane.specs.Parity.{xor}
use Rattle.plane.specs.Crossings.{back}
use Rattle.parity_laws.specs.Steps.{Even, left}
use Rattle.parity_laws.specs.Rings.{In, Next, Within, those, Ringwise, OneRing}
use Rattle.parity_laws.proofs.Tests.{bool_same}
use Rattle.parity_laws.proofs.Ringwise.{in_each}
use Rattle.parity_laws.proofs.Lists.{no_those}
use Rattle.parity_laws.proofs.Splitting.{left_both}
use Rattle.parity_laws.specs.Coming.{both_ways_of, with_line, LineComes, Enters}
use Rattle.parity_laws.proofs.RingAt.{rings_there}
use Rattle.parity_laws.proofs.Following.{next_apart}
use Rattle.parity_laws.proofs.Wedges.{before_it}
use Rattle.parity_laws.proofs.OnLine.{old_in, way_in, forth_in, old_or_way, not_both, way_label, among, in_among, not_among}
use Rattle.parity_laws.proofs.LineFaces.{left_on_line, left_at_corner}
use Rattle.parity_laws.proofs.LineCorners.{enters_way, entry_label, old_ringwise, new_ringwise}
use Rattle.parity_laws.proofs.Labels.{those_same}
use Rattle.parity_laws.proofs.OldRings.{left_with_line}

-- ---- the old ring at an end of the line
-- R is the ring of T that the step e of T' now leaves; it is empty where no step of T led there
pub record EndRing (T T' : List Segment) (e : Segment) (R : Segment → Bool) : Type 0 where
  pub ringwise : Ringwise T R
  pub one : OneRing T R
  pub has : (d : Segment) → In d T → Next T' d e → R d ≡ true
  pub near : ((t : Segment) → In t T → R t ≡ false) ⊎ ((d : Segment) × (In d T × (Next T' d e × (R d ≡ true))))

pub end_ring : (T : List Segment) (first : Segment) (rest : List Segment) (last : Segment) (e : Segment) → LineComes T first rest last → In e (both_ways_of (first ∷ rest)) →
    (R : Segment → Bool) × EndRing T (with_line T (first ∷ rest)) e R
end_ring T first rest last e c i = by_before (before_it (with_line T (first ∷ rest)) e c.new.plain (way_in T (first ∷ rest) e i))
  where
    by_before : (m : Segment) × (In m (with_line T (first ∷ rest)) × Next (with_line T (first ∷ rest)) m e) → (R : Segment → Bool) × EndRing T (with_line T (first ∷ rest)) e R
    by_before m =
        ⊎_elim
        (λ (j : In m.0 T).
        let r = rings_there T c.old m.0 j in (
          r.0,
          record {
            ringwise = r.1.0.ringwise;
            one = r.1.0.one;
            has = λ d k next. ap r.0 (same d k next) ∙ r.1.1;
            near = inr (m.0, (j, (m.1.1, r.1.1)));
          },
        ))
        (λ (j : In m.0 (both_ways_of (first ∷ rest))). (
          (λ t. false),
          record {
            ringwise = λ d n k l next. refl;
            one = λ h k s t l l' f g. absurd (both_ways false refl f);
            has = λ d k next. absurd (not_both T first rest last c d k (subst (λ z. In z (both_ways_of (first ∷ rest))) (sym (same d k next)) j));
            near = inl (λ t k. refl);
          },
        ))
        (old_or_way T (first ∷ rest) m.0 m.1.0)
      where
        same : (d : Segment) → In d T → Next (with_line T (first ∷ rest)) d e → d ≡ m.0
        same d k next = next_apart (with_line T (first ∷ rest)) d m.0 e c.new.plain (old_in T (first ∷ rest) d k) m.1.0 next m.1.1

-- a label of the old rings that holds where the end is entered holds on the ring
end_ring_within : (T T' : List Segment) (e : Segment) (R h : Segment → Bool) → EndRing T T' e R → Ringwise T h → ((d : Segment) → In d T → Next T' d e → h d ≡ true) →
    (t : Segment) → In t T → R t ≡ true → h t ≡ true
end_ring_within T T' e R h r rings at t i f =
    ⊎_elim
    (λ (none : (t : Segment) → In t T → R t ≡ false). absurd (both_ways (R t) (none t i) f))
    (λ (d : (d : Segment) × (In d T × (Next T' d e × (R d ≡ true)))). r.one h rings t d.0 i d.1.0 f d.1.1.1 ∙ at d.0 d.1.0 d.1.1.0)
    r.near

-- the rings at two ends are one or have no common step
pub ends_one_or_apart : (T T' : List Segment) (a b : Segment) (Ra Rb : Segment → Bool) → EndRing T T' a Ra → EndRing T T' b Rb →
    ((t : Segment) → In t T → Ra t ≡ Rb t) ⊎ ((t : Segment) → In t T → Ra t ≡ true → Rb t ≡ false)
ends_one_or_apart T T' a b Ra Rb ra rb = ⊎_elim (λ (none : (t : Segment) → In t T → Rb t ≡ false). inr (λ t i e. none t i)) (λ (d : (d : Segment) × (In d T × (Next T' d b × (Rb d ≡ true)))). by_value d (Ra d.0) refl) rb.near
  where
    by_value : (d : (d : Segment) × (In d T × (Next T' d b × (Rb d ≡ true)))) → (x : Bool) → Ra d.0 ≡ x →
        ((t : Segment) → In t T → Ra t ≡ Rb t) ⊎ ((t : Segment) → In t T → Ra t ≡ true → Rb t ≡ false)
    by_value d true e =
        inl (λ t i. bool_same (Ra t) (Rb t)
        (λ f. ra.one Rb rb.ringwise t d.0 i d.1.0 f e ∙ d.1.1.1)
        (λ f. rb.one Ra ra.ringwise t d.0 i d.1.0 f d.1.1.1 ∙ e))
    by_value d false e = inr (λ t i f. apart t i f (Rb t) refl)
      where
        apart : (t : Segment) → In t T → Ra t ≡ true → (x : Bool) → Rb t ≡ x → x ≡ false
        apart t i f false g = refl
        apart t i f true g = absurd (both_ways (Ra d.0) e (sym (rb.one Ra ra.ringwise t d.0 i d.1.0 g d.1.1.1) ∙ f))

-- ---- the line has one ring on both of its sides
-- its old steps are those of the old rings at the two ends
pub joined_ring : (T : List Segment) (first : Segment) (rest : List Segment) (last : Segment) (p Ra Rb : Segment → Bool) → LineComes T first rest last → Ringwise (with_line T (first ∷ rest)) p → OneRing (with_line T (first ∷ rest)) p →
    p first ≡ true → p (back first) ≡ true → EndRing T (with_line T (first ∷ rest)) first Ra → EndRing T (with_line T (first ∷ rest)) (back last) Rb → (t : Segment) → In t T → p t ≡ (Ra t || Rb t)
joined_ring T first rest last p Ra Rb c rings one e f ra rb t i = bool_same (p t) (Ra t || Rb t) within covered
  where
    first_way : In first (both_ways_of (first ∷ rest))
    first_way = forth_in (first ∷ rest) first (inl refl)

    either : Segment → Bool
    either s = (Ra s || Rb s) || among (both_ways_of (first ∷ rest)) s

    off : (s : Segment) → In s T → among (both_ways_of (first ∷ rest)) s ≡ false
    off s j = not_among (both_ways_of (first ∷ rest)) s (λ k. not_both T first rest last c s j k)

    three : (a b x y u v : Bool) → a ≡ b → x ≡ y → u ≡ v → ((a || x) || u) ≡ ((b || y) || v)
    three a b x y u v f g h = rw (f, g, h)

    either_rings : Ringwise (with_line T (first ∷ rest)) either
    either_rings =
        new_ringwise T first rest last either true c
        (λ d n j k next. three (Ra d) (Ra n) (Rb d) (Rb n) (among (both_ways_of (first ∷ rest)) d) (among (both_ways_of (first ∷ rest)) n) (ra.ringwise d n j k next) (rb.ringwise d n j k next) (off d j ∙ sym (off n k)))
        (λ s j. or_right (Ra s || Rb s) (among (both_ways_of (first ∷ rest)) s) (in_among (both_ways_of (first ∷ rest)) s j))
        (λ d j enters. or_left (Ra d || Rb d) (among (both_ways_of (first ∷ rest)) d) (⊎_elim
        (λ (k : Next (with_line T (first ∷ rest)) d first). or_left (Ra d) (Rb d) (ra.has d j k))
        (λ (k : Next (with_line T (first ∷ rest)) d (back last)). or_right (Ra d) (Rb d) (rb.has d j k))
        enters))

    within : p t ≡ true → (Ra t || Rb t) ≡ true
    within g =
        without (Ra t || Rb t) (among (both_ways_of (first ∷ rest)) t)
        (one either either_rings t first (old_in T (first ∷ rest) t i) (way_in T (first ∷ rest) first first_way) g e ∙ or_right (Ra first || Rb first) (among (both_ways_of (first ∷ rest)) first) (in_among (both_ways_of (first ∷ rest)) first first_way))
        (off t i)
      where
        without : (a b : Bool) → (a || b) ≡ true → b ≡ false → a ≡ true
        without true b f g = refl
        without false b f g = absurd (both_ways b g f)

    old_label : Ringwise T p
    old_label = old_ringwise T first rest last p true c rings e f

    at : (d : Segment) → In d T → Enters (with_line T (first ∷ rest)) first last d → p d ≡ true
    at d j enters = entry_label T first rest last p true c rings e f d j enters

    covered : (Ra t || Rb t) ≡ true → p t ≡ true
    covered g =
        ⊎_elim
        (λ (h : Ra t ≡ true). end_ring_within T (with_line T (first ∷ rest)) first Ra p ra old_label (λ d j k. at d j (inl k)) t i h)
        (λ (h : Rb t ≡ true). end_ring_within T (with_line T (first ∷ rest)) (back last) Rb p rb old_label (λ d j k. at d j (inr k)) t i h)
        (or_cases (Ra t) (Rb t) g)

-- ---- its own parity
-- along the line the parity is that left of a step that enters it
pub left_at_entry : (T : List Segment) (first : Segment) (rest : List Segment) (last : Segment) (X : List Segment) (d : Segment) → LineComes T first rest last → Even X → Within X T →
    In d T → Enters (with_line T (first ∷ rest)) first last d → left X first ≡ left X d
left_at_entry T first rest last X d c even w i enters =
    let k = enters_way T first rest last c d enters in
    sym (left_on_line T first rest last X c even w k.0 k.1.0) ∙ left_at_corner T first rest last X d k.0 c even w i k.1.1

-- two rings joined: the sum of both
pub joined_apart : (T : List Segment) (first : Segment) (rest : List Segment) (last : Segment) (p Ra Rb : Segment → Bool) → LineComes T first rest last → Ringwise (with_line T (first ∷ rest)) p →
    p first ≡ true → p (back first) ≡ true → ((t : Segment) → In t T → p t ≡ (Ra t || Rb t)) → ((t : Segment) → In t T → Ra t ≡ true → Rb t ≡ false) → (s : Segment) →
    left (those p (with_line T (first ∷ rest))) s ≡ xor (left (those Ra T) s) (left (those Rb T) s)
joined_apart T first rest last p Ra Rb c rings e f is apart s =
    left_with_line T (first ∷ rest) p true (way_label T first rest last p true c rings e f) s
    ∙ ap (λ X. left X s) (those_same p (λ t. xor (Ra t) (Rb t)) T (λ t i. is t i ∙ sum_of (Ra t) (Rb t) (apart t i)))
    ∙ left_both T Ra Rb s
  where
    sum_of : (a b : Bool) → (a ≡ true → b ≡ false) → (a || b) ≡ xor a b
    sum_of true true f = absurd (both_ways true (f refl) refl)
    sum_of true false f = refl
    sum_of false b f = refl

-- one ring at both ends: its own
pub joined_one : (T : List Segment) (first : Segment) (rest : List Segment) (last : Segment) (p Ra Rb : Segment → Bool) → LineComes T first rest last → Ringwise (with_line T (first ∷ rest)) p →
    p first ≡ true → p (back first) ≡ true → ((t : Segment) → In t T → p t ≡ (Ra t || Rb t)) → ((t : Segment) → In t T → Ra t ≡ Rb t) → (s : Segment) →
    left (those p (with_line T (first ∷ rest))) s ≡ left (those Ra T) s
joined_one T first rest last p Ra Rb c rings e f is same s =
    left_with_line T (first ∷ rest) p true (way_label T first rest last p true c rings e f) s
    ∙ ap (λ X. left X s) (those_same p Ra T (λ t i. is t i ∙ twice (Ra t) (Rb t) (same t i)))
  where
    twice : (a b : Bool) → a ≡ b → (a || b) ≡ a
    twice true b e = refl
    twice false b e = sym e

-- a ring that is empty counts nothing
pub left_empty : (T : List Segment) (R : Segment → Bool) (s : Segment) → ((t : Segment) → In t T → R t ≡ false) → left (those R T) s ≡ false
left_empty T R s none = ap (λ X. left X s) (no_those R T (in_each (λ t. R t ≡ false) T none))

-- A drawing in a larger plane, and what each rational point has above it.
use Rattle.std.proofs.Common.{◌≡◌, ◌≢◌, refl, sym, ◌∙◌, ap, subst, ℕ, ℤ, pos, ◌*ℤ◌, ◌<ℤ◌, ◌⊎◌, inl, inr, ⊎_elim, true, false, List, [], ◌∷◌, map, eqb}
use Rattle.std.proofs.lemmas.Bool.{ne_eqb}
use Rattle.plane.proofs.Ring.{mul_comm}
use Rattle.plane.proofs.Signs.{mul_positive}
use Rattle.plane.proofs.Scale.{on_smaller, smaller_spot, crosses_larger, times_point, clear_larger}
use Rattle.plane.specs.Segment.{Segment}
use Rattle.topo_base.specs.RationalPoint.{RationalPoint}
use Rattle.plane.specs.RationalTests.{IsOn}
use Rattle.plane.specs.Relation.{AreApart}
use Rattle.plane.specs.Crossings.{back, larger, larger_segment, larger_spot, way}
use Rattle.parity_laws.specs.Steps.{Each, Even, direction, above, left, before, above_at}
use Rattle.parity_laws.specs.Ways.{Tied, MeetsAtEnds, Fork}
use Rattle.parity_laws.specs.Rings.{In, Within, Once, those, Drawn, Ringwise, Sided, of_face}
use Rattle.parity_laws.proofs.Cutting.{before_along, from_along}
use Rattle.parity_laws.proofs.Scaling.{direction_larger, even_larger, left_larger, larger_is}
use Rattle.parity_laws.proofs.Pointing.{point_view}
use Rattle.parity_laws.proofs.Star.{those_within}
use Rattle.parity_laws.proofs.Splitting.{world}
use Rattle.parity_laws.proofs.Walking.{path_stays}

segment_is : (k : ℤ) (s t : Segment) → pos 0 <ℤ k → larger_segment k s ≡ larger_segment k t → s ≡ t
segment_is k s t h e =
    let ea = larger_is k s.a t.a h (ap (λ (z : Segment). z.a) e) in
    let eb = larger_is k s.b t.b h (ap (λ (z : Segment). z.b) e) in
    λ j. record { a = ea j; b = eb j }

before_larger : (k : ℤ) (s t : Segment) → pos 0 <ℤ k → before (direction (larger_segment k s)) (direction (larger_segment k t)) ≡ before (direction s) (direction t)
before_larger k s t h = before_along (direction (larger_segment k s)) (direction s) (direction (larger_segment k t)) (direction_larger k s h) ∙ from_along (direction (larger_segment k t)) (direction t) (direction s) (direction_larger k t h)

fork_larger : (k : ℤ) (s t : Segment) → pos 0 <ℤ k → Fork s t → Fork (larger_segment k s) (larger_segment k t)
fork_larger k s t h f = record {
  start = ap (larger k) f.start;
  not_start = λ e. f.not_start (larger_is k t.b s.a h e);
  not_end = λ e. f.not_end (larger_is k t.b s.b h e);
  apart = ⊎_elim (λ (a : before (direction t) (direction s) ≡ true). inl (before_larger k t s h ∙ a)) (λ (a : before (direction s) (direction t) ≡ true). inr (before_larger k s t h ∙ a)) f.apart;
}

meets_larger : (k : ℤ) (s t : Segment) → pos 0 <ℤ k → MeetsAtEnds s t → MeetsAtEnds (larger_segment k s) (larger_segment k t)
meets_larger k s t h m =
    ⊎_elim
    (λ (e : (t.a ≡ s.a) × (t.b ≡ s.b)). inl (ap (larger k) e.0, ap (larger k) e.1))
    (λ (g : Fork s t ⊎ Fork (back s) t).
    inr (⊎_elim (λ (f : Fork s t). inl (fork_larger k s t h f)) (λ (f : Fork (back s) t). inr (fork_larger k (back s) t h f)) g))
    m

tied_larger : (k : ℤ) (s t : Segment) → pos 0 <ℤ k → Tied s t → Tied (larger_segment k s) (larger_segment k t)
tied_larger k s t h tied =
    ⊎_elim
    (λ (c : AreApart t s). inl (λ r on. c (smaller_spot k h r) (on_smaller k h t r on.0, on_smaller k h s r on.1)))
    (λ (g : MeetsAtEnds s t ⊎ MeetsAtEnds s (back t)).
    inr (⊎_elim (λ (m : MeetsAtEnds s t). inl (meets_larger k s t h m)) (λ (m : MeetsAtEnds s (back t)). inr (meets_larger k s (back t) h m)) g))
    tied

each_larger : (k : ℤ) (P Q : Segment → Type 0) → ((t : Segment) → P t → Q (larger_segment k t)) → (X : List Segment) → Each P X → Each Q (map (larger_segment k) X)
each_larger k P Q f [] h = tt
each_larger k P Q f (t ∷ X) h = (f t h.0, each_larger k P Q f X h.1)

pub in_larger : (k : ℤ) (s : Segment) (X : List Segment) → In s X → In (larger_segment k s) (map (larger_segment k) X)
in_larger k s [] i = absurd i
in_larger k s (t ∷ X) i = ⊎_elim (λ (e : s ≡ t). inl (ap (larger_segment k) e)) (λ (j : In s X). inr (in_larger k s X j)) i

pub from_larger : (k : ℤ) (u : Segment) (X : List Segment) → In u (map (larger_segment k) X) → (s : Segment) × (In s X × (u ≡ larger_segment k s))
from_larger k u [] i = absurd i
from_larger k u (t ∷ X) i =
    ⊎_elim (λ (e : u ≡ larger_segment k t). (t, (inl refl, e))) (λ (j : In u (map (larger_segment k) X)). let r = from_larger k u X j in (r.0, (inr r.1.0, r.1.1))) i

once_larger : (k : ℤ) (T : List Segment) → pos 0 <ℤ k → Once T → Once (map (larger_segment k) T)
once_larger k [] h o = tt
once_larger k (t ∷ T) h o =
    (λ i. let r = from_larger k (larger_segment k t) T i in o.0 (subst (λ z. In z T) (sym (segment_is k t r.0 h r.1.1)) r.1.0), once_larger k T h o.1)

pub drawn_larger : (k : ℤ) (T : List Segment) → pos 0 <ℤ k → Drawn T → Drawn (map (larger_segment k) T)
drawn_larger k T h d = record {
  plain = record {
    proper = λ u i. let r = from_larger k u T i in subst (λ z. z.a ≢ z.b) (sym r.1.1) (λ e. d.plain.proper r.0 r.1.0 (larger_is k r.0.a r.0.b h e));
    tied = λ u i.
        let r = from_larger k u T i in
        subst (λ z. Each (Tied z) (map (larger_segment k) T)) (sym r.1.1) (each_larger k (Tied r.0) (Tied (larger_segment k r.0)) (λ t g. tied_larger k r.0 t h g) T (d.plain.tied r.0 r.1.0));
    both = λ u i. let r = from_larger k u T i in subst (λ z. In (back z) (map (larger_segment k) T)) (sym r.1.1) (in_larger k (back r.0) T (d.plain.both r.0 r.1.0));
  };
  once = once_larger k T h d.once;
}

pub within_larger : (k : ℤ) (X T : List Segment) → Within X T → Within (map (larger_segment k) X) (map (larger_segment k) T)
within_larger k X T w u i = let r = from_larger k u X i in subst (λ z. In z (map (larger_segment k) T)) (sym r.1.1) (in_larger k r.0 T (w r.0 r.1.0))

-- ---- rational points
pub above_rational : (c : ℤ) (X : List Segment) (q : RationalPoint) → pos 0 <ℤ c → above (map (larger_segment (q.d *ℤ c)) X) (times_point q c) ≡ above_at X q
above_rational c [] q h = refl
above_rational c (t ∷ X) q h = cc (crosses_larger c h t q, above_rational c X q h)

one_positive : pos 0 <ℤ pos 1
one_positive = record { lt = tt }

-- nothing is above the rational point, or some step has on its left what the rational point has above it
abbrev pub RationalView : List Segment → RationalPoint → Type 0
RationalView T q =
    ((X : List Segment) → Even X → Within X T → above_at X q ≡ false)
    ⊎ ((e : Segment) × (In e T × ((X : List Segment) → Even X → Within X T → left X e ≡ above_at X q)))

pub rational_view : (T : List Segment) (q : RationalPoint) → Drawn T → RationalView T q
rational_view T q drawn =
    ⊎_elim
    (λ (h : (X : List Segment) → Even X → Within X (map (larger_segment (q.d *ℤ pos 1)) T) → above X (times_point q (pos 1)) ≡ false).
    inl (λ X even w. sym (above_rational (pos 1) X q one_positive) ∙ h (map (larger_segment (q.d *ℤ pos 1)) X) (even_larger (q.d *ℤ pos 1) X even) (within_larger (q.d *ℤ pos 1) X T w)))
    (λ (h : (e : Segment) × (In e (map (larger_segment (q.d *ℤ pos 1)) T) × ((X : List Segment) → Even X → Within X (map (larger_segment (q.d *ℤ pos 1)) T) → left X e ≡ above X (times_point q (pos 1))))).
    let r = from_larger (q.d *ℤ pos 1) h.0 T h.1.0 in
    inr (
      r.0,
      (
        r.1.0,
        λ X even w.
            sym (left_larger (q.d *ℤ pos 1) X r.0 k) ∙ ap (left (map (larger_segment (q.d *ℤ pos 1)) X)) (sym r.1.1)
            ∙ h.1.1 (map (larger_segment (q.d *ℤ pos 1)) X) (even_larger (q.d *ℤ pos 1) X even) (within_larger (q.d *ℤ pos 1) X T w)
            ∙ above_rational (pos 1) X q one_positive,
      ),
    ))
    (point_view (map (larger_segment (q.d *ℤ pos 1)) T) (times_point q (pos 1)) (drawn_larger (q.d *ℤ pos 1) T k drawn))
  where
    k : pos 0 <ℤ (q.d *ℤ pos 1)
    k = mul_positive q.d (pos 1) q.whole one_positive

-- by parity each rational point is in one face: g, or 0 where no other has it
pub one_face_at : (T : List Segment) (F : Segment → ℕ) (q : RationalPoint) → Drawn T → ((f : ℕ) → f ≢ 0 → Ringwise T (of_face F f)) → ((f : ℕ) → f ≢ 0 → Sided T (of_face F f)) →
    (g : ℕ) × ((f : ℕ) → f ≢ 0 → above_at (those (of_face F f) T) q ≡ eqb g f)
one_face_at T F q drawn rings sided =
    ⊎_elim
    (λ (h : (X : List Segment) → Even X → Within X T → above_at X q ≡ false). (0, λ f n. h (those (of_face F f) T) (even f n) (those_within (of_face F f) T) ∙ sym (ne_eqb 0 f (λ e. n (sym e)))))
    (λ (h : (e : Segment) × (In e T × ((X : List Segment) → Even X → Within X T → left X e ≡ above_at X q))).
    (F h.0, λ f n. sym (h.1.1 (those (of_face F f) T) (even f n) (those_within (of_face F f) T)) ∙ sided f n h.0 h.1.0))
    (rational_view T q drawn)
  where
    even : (f : ℕ) → f ≢ 0 → Even (those (of_face F f) T)
    even f n = (world T (of_face F f) drawn (rings f n)).rings.even

-- ---- along a way between two rational points that meets no step
pub path_at : (p q : RationalPoint) (X : List Segment) → Even X → Each (λ t. (r : RationalPoint) → IsOn r t → IsOn (larger_spot (p.d *ℤ q.d) r) (way p q) → ⊥) X → above_at X p ≡ above_at X q
path_at p q X even clear =
    let h = mul_positive p.d q.d p.whole q.whole in
    sym (above_rational q.d X p q.whole)
    ∙ path_stays (way p q) (map (larger_segment (p.d *ℤ q.d)) X) (even_larger (p.d *ℤ q.d) X even)
    (each_larger (p.d *ℤ q.d) (λ t. (r : RationalPoint) → IsOn r t → IsOn (larger_spot (p.d *ℤ q.d) r) (way p q) → ⊥) (λ t. AreApart t (way p q)) (λ t c. clear_larger (p.d *ℤ q.d) h t (way p q) c) X clear)
    ∙ ap (λ k. above (map (larger_segment k) X) (times_point q p.d)) (mul_comm p.d q.d)
    ∙ above_rational p.d X q p.whole

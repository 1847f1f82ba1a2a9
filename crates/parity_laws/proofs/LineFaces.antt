-- The face in which a line comes: both sides of each of its steps are in it, and all sides stay right.
use Rattle.std.proofs.Common.{◌≡◌, ◌≢◌, refl, sym, ◌∙◌, ap, inl, ⊎_elim, Bool, false, List, ◌∷◌}
use Rattle.plane.specs.Segment.{Segment}
use Rattle.plane.specs.Parity.{xor}
use Rattle.plane.specs.Crossings.{back}
use Rattle.parity_laws.specs.Steps.{Even, direction, above, times, left}
use Rattle.parity_laws.specs.Walks.{NotAt}
use Rattle.parity_laws.specs.Rings.{In, Next, Within, those, Ringwise, Sided}
use Rattle.parity_laws.proofs.Sums.{xor_none}
use Rattle.parity_laws.proofs.Walking.{not_turned}
use Rattle.parity_laws.proofs.Ringwise.{in_each, side_next, side_back}
use Rattle.parity_laws.proofs.Star.{those_within}
use Rattle.parity_laws.proofs.Adding.{face_stays}
use Rattle.parity_laws.proofs.Orbits.{label_even}
use Rattle.parity_laws.specs.Coming.{both_ways_of, with_line, LineComes}
use Rattle.parity_laws.proofs.OnLine.{old_in, way_in, forth_in, back_in, old_or_way, not_both, way_label, left_ringwise, times_none}

-- on both sides of each step of the line the parity is one
pub left_on_line : (T : List Segment) (first : Segment) (rest : List Segment) (last : Segment) (X : List Segment) → LineComes T first rest last → Even X → Within X T →
    (t : Segment) → In t (both_ways_of (first ∷ rest)) → left X t ≡ left X first
left_on_line T first rest last X c even w t i =
    way_label T first rest last (left X) (left X first) c (left_ringwise (with_line T (first ∷ rest)) X c.new.plain even within) refl
    (other (left X first) (left X (back first)) (times X first) (side_back (with_line T (first ∷ rest)) X first c.new.plain even within first_there)
    (times_none X first (λ j. not_both T first rest last c first (w first j) (forth_in (first ∷ rest) first (inl refl))) (λ j. not_both T first rest last c (back first) (w (back first) j) (back_in (first ∷ rest) first (inl refl)))))
    t i
  where
    within : Within X (with_line T (first ∷ rest))
    within s j = old_in T (first ∷ rest) s (w s j)

    first_there : In first (with_line T (first ∷ rest))
    first_there = way_in T (first ∷ rest) first (forth_in (first ∷ rest) first (inl refl))

    other : (l b t : Bool) → l ≡ xor b t → t ≡ false → b ≡ l
    other l b t e f = sym (e ∙ ap (xor b) f ∙ xor_none b)

-- at an end with an old step d before it, it is the one left of d
pub left_at_corner : (T : List Segment) (first : Segment) (rest : List Segment) (last : Segment) (X : List Segment) (d e : Segment) → LineComes T first rest last → Even X → Within X T →
    In d T → Next (with_line T (first ∷ rest)) d e → left X e ≡ left X d
left_at_corner T first rest last X d e c even w i next =
    sym (side_next (with_line T (first ∷ rest)) X d e c.new.plain even (λ s j. old_in T (first ∷ rest) s (w s j)) (old_in T (first ∷ rest) d i) next)

-- at an end where no old step begins, it is the parity above
pub left_at_alone : (T : List Segment) (first : Segment) (rest : List Segment) (last : Segment) (X : List Segment) (e : Segment) → LineComes T first rest last → Within X T →
    ((t : Segment) → In t T → t.a ≢ e.a) → left X e ≡ above X e.a
left_at_alone T first rest last X e c w none =
    ap (xor (above X e.a)) (not_turned X e.a (direction e) (in_each (NotAt e.a) X (λ t j. (none t (w t j), none (back t) (c.old.plain.both t (w t j)))))) ∙ xor_none (above X e.a)

-- a face keeps its sides where the line's steps have it as its parity at the line's start says
pub line_sided : (T : List Segment) (first : Segment) (rest : List Segment) (last : Segment) (label label' : Segment → Bool) (v : Bool) → LineComes T first rest last → Ringwise T label → Sided T label →
    ((s : Segment) → In s T → label' s ≡ label s) → ((s : Segment) → In s (both_ways_of (first ∷ rest)) → label' s ≡ v) → left (those label T) first ≡ v →
    Ringwise (with_line T (first ∷ rest)) label' × Sided (with_line T (first ∷ rest)) label'
line_sided T first rest last label label' v c rings sided same line at = (ringwise, face_stays (with_line T (first ∷ rest)) (those label T) label' c.new ringwise even within is)
  where
    even : Even (those label T)
    even = label_even T c.old.plain c.old.once label rings

    within : Within (those label T) (with_line T (first ∷ rest))
    within s j = old_in T (first ∷ rest) s (those_within label T s j)

    is : (s : Segment) → In s (with_line T (first ∷ rest)) → left (those label T) s ≡ label' s
    is s i =
        ⊎_elim
        (λ (j : In s T). sided s j ∙ sym (same s j))
        (λ (j : In s (both_ways_of (first ∷ rest))). left_on_line T first rest last (those label T) c even (those_within label T) s j ∙ at ∙ sym (line s j))
        (old_or_way T (first ∷ rest) s i)

    ringwise : Ringwise (with_line T (first ∷ rest)) label'
    ringwise d n i j next = sym (is d i) ∙ side_next (with_line T (first ∷ rest)) (those label T) d n c.new.plain even within i next ∙ is n j

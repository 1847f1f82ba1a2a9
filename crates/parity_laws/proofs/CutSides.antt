-- Each part of a cut step has on its left what its step has.
use Rattle.std.proofs.Common.{◌≡◌, sym, ◌∙◌, ap, ⊎_elim, Bool, List}
use Rattle.topo_base.specs.Point.{Point}
use Rattle.plane.specs.Segment.{Segment}
use Rattle.plane.specs.Parity.{xor}
use Rattle.parity_laws.specs.Steps.{Even, direction, above, turned, left}
use Rattle.parity_laws.specs.Cuts.{cut}
use Rattle.parity_laws.specs.Rings.{In, Next, Within, Ringwise, Sided, those}
use Rattle.parity_laws.proofs.Ringwise.{side_next}
use Rattle.parity_laws.proofs.Star.{those_within}
use Rattle.parity_laws.proofs.Cutting.{Along, cut_above, cut_left, cut_even, turned_along}
use Rattle.parity_laws.proofs.Orbits.{label_even}
use Rattle.parity_laws.proofs.Whole.{IsStepCut, whole, begin_of, end_of, no_vertex, begin_start, begin_there, end_there, part_is, whole_begin, whole_end, whole_there, those_cut}
use Rattle.parity_laws.proofs.CutNext.{begin_along, parts_next}

pub left_along : (X : List Segment) (s t : Segment) → s.a ≡ t.a → Along (direction s) (direction t) → left X s ≡ left X t
left_along X s t e h = ap (λ p. xor (above X p) (turned X p (direction s))) e ∙ ap (xor (above X t.a)) (turned_along X t.a (direction s) (direction t) h)

pub begin_left : (T : List Segment) (d : Segment) (m : Point) → IsStepCut T d m → (X : List Segment) (t : Segment) → In t T → left (cut d m X) (begin_of d m t) ≡ left X t
begin_left T d m h X t i =
    cut_left d m X (begin_of d m t) h.inner (λ e. (no_vertex T d m h t i).0 (sym (begin_start d m t) ∙ e))
    ∙ left_along X (begin_of d m t) t (begin_start d m t) (begin_along d m t h.inner)

pub cut_within : (T : List Segment) (d : Segment) (m : Point) (X : List Segment) → Within X T → Within (cut d m X) (cut d m T)
cut_within T d m X w = part_is (λ u. In u (cut d m T)) d m X (λ t i. begin_there d m T t (w t i)) (λ t i. end_there d m T t (w t i))

pub end_left : (T : List Segment) (d : Segment) (m : Point) → IsStepCut T d m → (X : List Segment) → Even X → Within X T → (t : Segment) → In t T → left (cut d m X) (end_of d m t) ≡ left X t
end_left T d m h X even w t i =
    ⊎_elim
    (λ (e : begin_of d m t ≡ end_of d m t). ap (left (cut d m X)) (sym e))
    (λ (k : Next (cut d m T) (begin_of d m t) (end_of d m t)).
    sym (side_next (cut d m T) (cut d m X) (begin_of d m t) (end_of d m t) h.cut_plain (cut_even d m X even) (cut_within T d m X w) (begin_there d m T t i) k))
    (parts_next T d m h t)
    ∙ begin_left T d m h X t i

pub whole_left : (T : List Segment) (d : Segment) (m : Point) → IsStepCut T d m → (X : List Segment) → Even X → Within X T → (u : Segment) → In u (cut d m T) → left (cut d m X) u ≡ left X (whole d m u)
whole_left T d m h X even w =
    part_is (λ u. left (cut d m X) u ≡ left X (whole d m u)) d m T
    (λ t i. begin_left T d m h X t i ∙ ap (left X) (sym (whole_begin T d m h t i)))
    (λ t i. end_left T d m h X even w t i ∙ ap (left X) (sym (whole_end T d m h t i)))

-- the same of the steps with a label that is one for each ring
pub label_left : (T : List Segment) (d : Segment) (m : Point) → IsStepCut T d m → (label : Segment → Bool) → Ringwise T label → (u : Segment) → In u (cut d m T) →
    left (those (λ v. label (whole d m v)) (cut d m T)) u ≡ left (those label T) (whole d m u)
label_left T d m h label rings u i =
    ap (λ X. left X u) (those_cut T d m label h T (λ s j. j))
    ∙ whole_left T d m h (those label T) (label_even T h.plain h.once label rings) (those_within label T) u i

-- ---- sides

pub sided_cut : (T : List Segment) (d : Segment) (m : Point) → IsStepCut T d m → (label : Segment → Bool) → Ringwise T label → Sided T label → Sided (cut d m T) (λ u. label (whole d m u))
sided_cut T d m h label rings sided u i = label_left T d m h label rings u i ∙ sided (whole d m u) (whole_there T d m h u i)

-- above each point the steps with a label stay as they are
pub label_above : (T : List Segment) (d : Segment) (m : Point) → IsStepCut T d m → (label : Segment → Bool) (v : Point) → above (those (λ u. label (whole d m u)) (cut d m T)) v ≡ above (those label T) v
label_above T d m h label v = ap (λ X. above X v) (those_cut T d m label h T (λ s j. j)) ∙ cut_above d m (those label T) v h.inner

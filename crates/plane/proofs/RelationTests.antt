-- From how two segments relate to the tests by which Step decides.
use Rattle.std.proofs.Common.{◌≡◌, refl, ◌∙◌, ap, inl, inr, ⊎_elim, Bool, true, false, not, ◌&&◌, ◌||◌}
use Rattle.std.proofs.lemmas.Bool.{false_from_ne_true}
use Rattle.topo_base.specs.Point.{Point}
use Rattle.topo_base.specs.RationalPoint.{RationalPoint, rational, IsAt, SamePoint}
use Rattle.topo_base.specs.declared.relation.Relation.{Relation}
use Rattle.topo_base.specs.declared.relation.Relation.TheVariants.{Apart, TouchEnds, Meet, Overlap}
use Rattle.plane.specs.Segment.{Segment, touches, overlaps, shares, touches_at, meets_only_at}
use Rattle.plane.specs.Relation.{Relates, HaveMore, IsOnlyShared, IsEnd, IsEndPoint}
use Rattle.plane.proofs.Relations.{on_end, is_end}
use Rattle.plane.proofs.Middle.{same_other, at_same}
use Rattle.plane.proofs.TouchTests.{Decides-touches}
use Rattle.plane.proofs.MeetTests.{Decides-overlaps, Decides-touches_at, same_through, alone}

-- whether the relation says that there is a common point, that there is more than one, and that there is one, an end of both
abbrev pub has_common : Relation → Bool
has_common Apart = false
has_common TouchEnds = true
has_common Meet = true
has_common Overlap = true

abbrev pub has_more : Relation → Bool
has_more Apart = false
has_more TouchEnds = false
has_more Meet = false
has_more Overlap = true

abbrev pub is_touch_ends : Relation → Bool
is_touch_ends Apart = false
is_touch_ends TouchEnds = true
is_touch_ends Meet = false
is_touch_ends Overlap = false

-- no second point beside an only one
only_not_more : (s t : Segment) (q : RationalPoint) → IsOnlyShared s t q → HaveMore s t → ⊥
only_not_more s t q only (u, (v, (hu, hv, apart))) = apart (same_through u v q (only.1 u hu) (only.1 v hv))

pub touches_is : (r : Relation) (s t : Segment) → Relates r s t → touches s t ≡ has_common r
touches_is Apart s t h = false_from_ne_true (touches s t) (λ e. let k = (Decides-touches s t).0 e in h k.0 k.1)
touches_is TouchEnds s t h = (Decides-touches s t).1 (h.0, h.1.0.0)
touches_is Meet s t h = (Decides-touches s t).1 (h.0, h.1.0.0)
touches_is Overlap s t h = (Decides-touches s t).1 (h.0, h.1.1.0)

pub overlaps_is : (r : Relation) (s t : Segment) → Relates r s t → overlaps s t ≡ has_more r
overlaps_is Apart s t h = false_from_ne_true (overlaps s t) (λ e. let k = (Decides-overlaps s t).0 e in h k.0 k.1.1.0)
overlaps_is TouchEnds s t h = false_from_ne_true (overlaps s t) (λ e. only_not_more s t h.0 h.1.0 ((Decides-overlaps s t).0 e))
overlaps_is Meet s t h = false_from_ne_true (overlaps s t) (λ e. only_not_more s t h.0 h.1.0 ((Decides-overlaps s t).0 e))
overlaps_is Overlap s t h = (Decides-overlaps s t).1 h

-- where there is not more than one common point, p is the only one exactly where it is one
pub touches_at_is : (r : Relation) (p : Point) (s t : Segment) → Relates r s t → touches_at p s t ≡ (shares p s t && not (has_more r))
touches_at_is r p s t h = ap (λ b. shares p s t && not b) (overlaps_is r s t h)

pub meets_only_at_is : (r : Relation) (p q : Point) (s t : Segment) → Relates r s t
    → meets_only_at p q s t ≡ (not (has_common r) || (shares p s t && not (has_more r)) || (shares q s t && not (has_more r)))
meets_only_at_is r p q s t h = cc (touches_is r s t h, touches_at_is r p s t h, touches_at_is r q s t h)

-- two segments with one end are related by TouchEnds exactly where it is the only common point
pub touches_at_end : (r : Relation) (p : Point) (s t : Segment) → IsEndPoint p s → IsEndPoint p t → Relates r s t → touches_at p s t ≡ is_touch_ends r
touches_at_end Apart p s t es et h = absurd (h (rational p) (on_end s p es, on_end t p et))
touches_at_end TouchEnds p s t es et h = (Decides-touches_at p s t).1 (alone p s t (on_end s p es, on_end t p et) (only_not_more s t h.0 h.1.0))
touches_at_end Meet p s t es et h =
    let same : SamePoint (rational p) h.0 = h.1.0.1 (rational p) (on_end s p es, on_end t p et) in
    absurd (h.1.1 (moved s es same) (moved t et same))
  where
    moved : (w : Segment) → IsEndPoint p w → SamePoint (rational p) h.0 → IsEnd h.0 w
    moved w e same =
        ⊎_elim
        (λ (a : IsAt w.a (rational p)). inl (at_same w.a h.0 (rational p) (same_other (rational p) h.0 same) a))
        (λ (b : IsAt w.b (rational p)). inr (at_same w.b h.0 (rational p) (same_other (rational p) h.0 same) b))
        (is_end w p e)
touches_at_end Overlap p s t es et h = ap (λ b. shares p s t && not b) (overlaps_is Overlap s t h) ∙ none (shares p s t)
  where
    none : (b : Bool) → (b && false) ≡ false
    none true = refl
    none false = refl

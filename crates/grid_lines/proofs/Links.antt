-- From the relation of two segments to the tests of a simple line.
use Rattle.std.proofs.Common.{◌≡◌, refl, sym, ◌∙◌, ap, inl, inr, ◌*ℤ◌, Bool, true, false, not, ◌&&◌, ◌||◌}
use Rattle.std.proofs.lemmas.Bool.{and_parts}
use Rattle.topo_base.specs.Point.{Point, same_point}
use Rattle.topo_base.specs.RationalPoint.{RationalPoint, IsAt}
use Rattle.topo_base.specs.declared.relation.Relation.{Relation}
use Rattle.topo_base.specs.declared.relation.Relation.TheVariants.{Apart, TouchEnds, Meet, Overlap}
use Rattle.plane.specs.Segment.{Segment, touches, touches_at}
use Rattle.plane.specs.Line.{joins}
use Rattle.plane.specs.Relation.{SameCoordinates, Relates}
use Rattle.plane.proofs.Relations.{joined}
use Rattle.plane.proofs.PointTests.{Decides-same_point}
use Rattle.plane.proofs.RelationTests.{has_common, is_touch_ends, touches_is, touches_at_end}

pub at_moved : (a p : Point) (q : RationalPoint) → SameCoordinates a p → IsAt p q → IsAt a q
at_moved a p q e h = (h.0 ∙ ap (λ z. z *ℤ q.d) (sym e.0), h.1 ∙ ap (λ z. z *ℤ q.d) (sym e.1))

same_from : (p r : Point) → p ≡ r → SameCoordinates p r
same_from p r e = (ap (λ (z : Point). z.x) e, ap (λ (z : Point). z.y) e)

-- whether two segments are apart
pub apart_is : (r : Relation) (s t : Segment) → Relates r s t → not (has_common r) ≡ not (touches s t)
apart_is r s t h = sym (ap not (touches_is r s t h))

-- whether t, which begins where s ends, joins it
pub joins_is : (r : Relation) (s t : Segment) → s.b ≡ t.a → Relates r s t → is_touch_ends r ≡ joins s t
joins_is r s t e h = sym (touches_at_end r s.b s t (inr (joined s.b)) (inl (same_from s.b t.a e)) h)

-- whether s and t are apart, or close a line that begins at p
abbrev pub is_apart_or_closes : Point → Segment → Segment → Bool
is_apart_or_closes p s t = not (touches s t) || same_point s.a p && same_point t.b p && touches_at p s t

closes_by : (r : Relation) (p : Point) (s t : Segment) (b : Bool) → b ≡ (same_point s.a p && same_point t.b p) → Relates r s t
    → (b && is_touch_ends r) ≡ (b && touches_at p s t)
closes_by r p s t false e h = refl
closes_by r p s t true e h =
    let both = and_parts (same_point s.a p) (same_point t.b p) (sym e) in
    let a = (Decides-same_point s.a p).0 both.0 in
    let b = (Decides-same_point t.b p).0 both.1 in
    sym (touches_at_end r p s t (inl (sym a.0, sym a.1)) (inr (sym b.0, sym b.1)) h)

closes_is : (r : Relation) (p : Point) (s t : Segment) → Relates r s t
    → (not (has_common r) || (same_point s.a p && same_point t.b p) && is_touch_ends r) ≡ is_apart_or_closes p s t
closes_is r p s t h =
    ap (λ b. not b || (same_point s.a p && same_point t.b p) && is_touch_ends r) (sym (touches_is r s t h))
    ∙ ap (λ b. not (touches s t) || b) (closes_by r p s t (same_point s.a p && same_point t.b p) refl h)

and_true : (b : Bool) → b ≡ (b && true)
and_true true = refl
and_true false = refl

and_false : (b : Bool) → false ≡ (b && false)
and_false true = refl
and_false false = refl

pub apart_closes : (p : Point) (s t : Segment) → Relates Apart s t → true ≡ is_apart_or_closes p s t
apart_closes p s t h = closes_is Apart p s t h

pub ends_close : (p : Point) (s t : Segment) (r : Bool) → r ≡ (same_point s.a p && same_point t.b p) → Relates TouchEnds s t → r ≡ is_apart_or_closes p s t
ends_close p s t r e h = e ∙ and_true (same_point s.a p && same_point t.b p) ∙ closes_is TouchEnds p s t h

pub meet_closes : (p : Point) (s t : Segment) → Relates Meet s t → false ≡ is_apart_or_closes p s t
meet_closes p s t h = and_false (same_point s.a p && same_point t.b p) ∙ closes_is Meet p s t h

pub overlap_closes : (p : Point) (s t : Segment) → Relates Overlap s t → false ≡ is_apart_or_closes p s t
overlap_closes p s t h = and_false (same_point s.a p && same_point t.b p) ∙ closes_is Overlap p s t h

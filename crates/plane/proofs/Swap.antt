-- The plane with x and y changed for one another: for segments on an upright line.
use Rattle.std.proofs.Common.{◌≡◌, ◌≢◌, ◌∙◌, arith, ◌<ℤ◌, ◌≤ℤ◌, inl, inr, ⊎_elim}
use Rattle.std.specs.Prelude.{neg_ℤ}
use Rattle.plane.proofs.Ring.{signed}
use Rattle.plane.proofs.Signs.{order}
use Rattle.plane.proofs.LineLemmas.{same_y}
use Rattle.plane.proofs.Collinear.{none, line_round, round}
use Rattle.plane.proofs.Axis.{collinear_x}
use Rattle.plane.specs.Relation.{AreInLine, IsShared, IsEnd, IsOnlyShared, IsProper, Relates, Faces}
use Rattle.topo_base.specs.Point.{Point}
use Rattle.topo_base.specs.RationalPoint.{RationalPoint, SamePoint, IsAt}
use Rattle.plane.specs.Segment.{Segment}
use Rattle.plane.specs.RationalTests.{IsOn, area_at}
use Rattle.plane.specs.Orientation.{area}
use Rattle.topo_base.specs.declared.relation.Relation.{Relation}
use Rattle.topo_base.specs.declared.relation.Relation.TheVariants.{Apart, TouchEnds, Meet, Overlap}

abbrev over : Point → Point
over p = record { x = p.y; y = p.x }

abbrev across : Segment → Segment
across s = record { a = over s.a; b = over s.b }

abbrev rational_over : RationalPoint → RationalPoint
rational_over q = record { x = q.y; y = q.x; d = q.d; whole = q.whole }

area_over : (a b c : Point) → area (over a) (over b) (over c) ≡ neg_ℤ (area a b c)
area_over a b c = omega (arith, signed)

area_at-over : (a b : Point) (q : RationalPoint) → area_at (over a) (over b) (rational_over q) ≡ neg_ℤ (area_at a b q)
area_at-over a b q = omega (arith, signed)

on_over : (s : Segment) (q : RationalPoint) → IsOn q s → IsOn (rational_over q) (across s)
on_over s q on = record {
  straight = area_at-over s.a s.b q ∙ none (area_at s.a s.b q) on.straight;
  across = on.upward;
  upward = on.across;
}

shared_over : (s t : Segment) (q : RationalPoint) → IsShared s t q → IsShared (across s) (across t) (rational_over q)
shared_over s t q h = (on_over s q h.0, on_over t q h.1)

at_over : (q : RationalPoint) (p : Point) → IsAt p q → IsAt (over p) (rational_over q)
at_over q p h = (h.1, h.0)

end_over : (s : Segment) (q : RationalPoint) → IsEnd q s → IsEnd (rational_over q) (across s)
end_over s q = ⊎_elim (λ (h : IsAt s.a q). inl (at_over q s.a h)) (λ (h : IsAt s.b q). inr (at_over q s.b h))

same_over : (p q : RationalPoint) → SamePoint p q → SamePoint (rational_over p) (rational_over q)
same_over p q h = (h.1, h.0)

only_over : (s t : Segment) (q : RationalPoint) → IsOnlyShared s t q → IsOnlyShared (across s) (across t) (rational_over q)
only_over s t q h = (shared_over s t q h.0, λ p g. same_over (rational_over p) q (h.1 (rational_over p) (shared_over (across s) (across t) p g)))

relates_over : (r : Relation) (s t : Segment) → Relates r s t → Relates r (across s) (across t)
relates_over Apart s t h = λ q g. h (rational_over q) (shared_over (across s) (across t) q g)
relates_over TouchEnds s t (q, (only, e, f)) = (rational_over q, (only_over s t q only, end_over s q e, end_over t q f))
relates_over Meet s t (q, (only, f)) = (rational_over q, (only_over s t q only, λ g h. f (end_over (across s) (rational_over q) g) (end_over (across t) (rational_over q) h)))
relates_over Overlap s t (p, (q, (h, k, f))) = (rational_over p, (rational_over q, (shared_over s t p h, shared_over s t q k, λ g. f (same_over (rational_over p) (rational_over q) g))))

line_over : (s t : Segment) → AreInLine s t → AreInLine (across s) (across t)
line_over s t line = record {
  sa = area_over t.a t.b s.a ∙ none (area t.a t.b s.a) line.sa;
  sb = area_over t.a t.b s.b ∙ none (area t.a t.b s.b) line.sb;
  ta = area_over s.a s.b t.a ∙ none (area s.a s.b t.a) line.ta;
  tb = area_over s.a s.b t.b ∙ none (area s.a s.b t.b) line.tb;
}

-- where s is not upright, neither is t
pub not_upright : (s t : Segment) → AreInLine s t → IsProper t → s.a.x ≢ s.b.x → t.a.x ≢ t.b.x
not_upright s t line pt ps e =
    ⊎_elim
    (λ (g : s.a.x <ℤ s.b.x). pt e (same_y s t.a t.b g line.ta line.tb e))
    (λ (g : s.b.x ≤ℤ s.a.x). let k = line_round s t line in pt e (same_y (round s) t.a t.b (omega (arith, signed)) k.ta k.tb e))
    (order s.a.x s.b.x)

proper_over : (s : Segment) → IsProper s → IsProper (across s)
proper_over s h e f = h f e

pub collinear_right : (r : Relation) (s t : Segment) → AreInLine s t → IsProper t → s.a.x ≢ s.b.x → Faces r s.a.x s.b.x t.a.x t.b.x → Relates r s t
collinear_right r s t line pt h f = collinear_x r s t line h (not_upright s t line pt h) f

pub collinear_up : (r : Relation) (s t : Segment) → AreInLine s t → IsProper s → IsProper t → s.a.x ≡ s.b.x → Faces r s.a.y s.b.y t.a.y t.b.y → Relates r s t
collinear_up r s t line ps pt e f =
    relates_over r (across s) (across t)
    (collinear_right r (across s) (across t) (line_over s t line) (proper_over t pt) (ps e) f)

pub collinear_y : (r : Relation) (s t : Segment) → AreInLine s t → s.a.y ≢ s.b.y → t.a.y ≢ t.b.y → Faces r s.a.y s.b.y t.a.y t.b.y → Relates r s t
collinear_y r s t line h k f = relates_over r (across s) (across t) (collinear_x r (across s) (across t) (line_over s t line) h k f)

-- When the joint is the only common point of two segments.
use Rattle.std.proofs.Common.{◌≡◌, ◌≢◌, sym, ◌∙◌, ap, arith, ℤ, pos, ◌*ℤ◌, ◌<ℤ◌, inl, inr}
use Rattle.plane.proofs.Ring.{multiplied, signed}
use Rattle.plane.proofs.Signs.{cancel, times_one}
use Rattle.plane.proofs.Relations.{on_end, joined}
use Rattle.plane.specs.Segment.{Segment}
use Rattle.plane.specs.Relation.{IsShared, SameCoordinates, Relates}
use Rattle.topo_base.specs.RationalPoint.{RationalPoint, rational, IsAt}
use Rattle.topo_base.specs.declared.relation.Relation.TheVariants.{Apart, TouchEnds, Overlap}

-- t begins where s ends, and there is no other common point
abbrev pub Follows : Segment → Segment → Type 0
Follows s t = SameCoordinates s.b t.a × ((q : RationalPoint) → IsShared s t q → IsAt s.b q)

joint_on : (s t : Segment) → SameCoordinates s.b t.a → IsShared s t (rational s.b)
joint_on s t e = (on_end s s.b (inr (joined s.b)), on_end t s.b (inl e))

at_by : (x d z e b : ℤ) → x *ℤ e ≡ z *ℤ d → b *ℤ e ≡ z *ℤ pos 1 → pos 0 <ℤ e → x ≡ b *ℤ d
at_by x d z e b h k he =
    let n : e ≢ pos 0 = omega (arith, signed) in
    let m : b *ℤ e ≡ z = k ∙ times_one z in
    cancel x (b *ℤ d) e (h ∙ ap (λ w. w *ℤ d) (sym m) ∙ turned b e d) n
  where
    turned : (b e d : ℤ) → (b *ℤ e) *ℤ d ≡ (b *ℤ d) *ℤ e
    turned b e d = simp multiplied

pub touch_follows : (s t : Segment) → SameCoordinates s.b t.a → Relates TouchEnds s t → Follows s t
touch_follows s t e (z, (only, f, g)) =
    let k = only.1 (rational s.b) (joint_on s t e) in
    (e, λ q h. let m = only.1 q h in (at_by q.x q.d z.x z.d s.b.x m.0 k.0 z.whole, at_by q.y q.d z.y z.d s.b.y m.1 k.1 z.whole))

pub apart_follows : (s t : Segment) → SameCoordinates s.b t.a → Relates Apart s t → ⊥
apart_follows s t e h = h (rational s.b) (joint_on s t e)

same_by : (x d y e b : ℤ) → x ≡ b *ℤ d → y ≡ b *ℤ e → x *ℤ e ≡ y *ℤ d
same_by x d y e b h k = rw (h, k) (turned b d e)
  where
    turned : (b d e : ℤ) → (b *ℤ d) *ℤ e ≡ (b *ℤ e) *ℤ d
    turned b d e = simp multiplied

pub overlap_follows : (s t : Segment) → Follows s t → Relates Overlap s t → ⊥
overlap_follows s t (e, f) (p, (q, (hp, hq, apart))) =
    let a = f p hp in
    let b = f q hq in
    apart (same_by p.x p.d q.x q.d s.b.x a.0 b.0, same_by p.y p.d q.y q.d s.b.y a.1 b.1)

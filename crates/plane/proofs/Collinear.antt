-- The relation of two segments on one straight line.
use Rattle.std.proofs.Common.{◌≡◌, sym, ◌∙◌, arith, ℤ, pos, ◌*ℤ◌, ◌<ℤ◌, ◌≤ℤ◌, inl, inr, ⊎_elim}
use Rattle.std.specs.Prelude.{neg_ℤ}
use Rattle.plane.proofs.Ring.{multiplied, signed}
use Rattle.plane.proofs.Signs.{order, times_one}
use Rattle.plane.proofs.LineLemmas.{end_on, same_y, same_rational, in_span}
use Rattle.topo_base.specs.Point.{Point}
use Rattle.topo_base.specs.RationalPoint.{RationalPoint, IsBetween, SamePoint, IsAt, rational}
use Rattle.plane.specs.Segment.{Segment}
use Rattle.plane.specs.RationalTests.{IsOn, area_at}
use Rattle.plane.specs.Relation.{IsShared, IsEnd, IsOnlyShared, AreInLine, Relates}
use Rattle.plane.specs.Orientation.{area}
use Rattle.topo_base.specs.declared.relation.Relation.{Relation}
use Rattle.topo_base.specs.declared.relation.Relation.TheVariants.{Apart, TouchEnds, Meet, Overlap}

-- both go from left to right
pub record Rightward (s t : Segment) : Type 0 where
  pub first : s.a.x <ℤ s.b.x
  pub second : t.a.x <ℤ t.b.x

pub area_start : (a b : Point) → area a b a ≡ pos 0
area_start a b = simp multiplied (omega (arith, signed))

pub area_end : (a b : Point) → area a b b ≡ pos 0
area_end a b = simp multiplied (omega (arith, signed))

pub at_point : (p : Point) → IsAt p (rational p)
at_point p = (sym (times_one p.x), sym (times_one p.y))

squeezed : (a b x d : ℤ) → a ≡ b → (b *ℤ d) ≤ℤ x → x ≤ℤ (a *ℤ d) → x ≡ a *ℤ d
squeezed a b x d e k l = let k' = rw (← e) at k in omega (arith, signed)

pub line_touch : (s t : Segment) → AreInLine s t → Rightward s t → s.b.x ≡ t.a.x → Relates TouchEnds s t
line_touch s t line right e =
    let p = s.b in
    let y : p.y ≡ t.a.y = same_y s p t.a right.first (area_end s.a s.b) line.ta e in
    let on : IsOn (rational p) s = end_on s p right.first (omega (arith, signed)) (omega (arith, signed)) (area_end s.a s.b) in
    let on' : IsOn (rational p) t = end_on t p right.second (omega (arith, signed)) (omega (arith, signed)) line.sb in
    let only : (q : RationalPoint) → IsShared s t q → SamePoint (rational p) q =
    λ q h.
    let i = in_span s q right.first h.0 in
    let j = in_span t q right.second h.1 in
    let k = squeezed p.x t.a.x q.x q.d e j.0 i.1 in
    same_rational s (rational p) q right.first on.straight h.0.straight (sym k ∙ sym (times_one q.x))
    in
    (rational p, (((on, on'), λ q h. turned (rational p) q (only q h)), inr (at_point p), inl (sym (times_one t.a.x ∙ sym e), sym (times_one t.a.y ∙ sym y))))
  where
    turned : (p q : RationalPoint) → SamePoint p q → SamePoint q p
    turned p q h = (sym h.0, sym h.1)

two_points : (s t : Segment) (p q : Point) → p.x <ℤ q.x → IsShared s t (rational p) → IsShared s t (rational q) → Relates Overlap s t
two_points s t p q h hp hq =
    (rational p, (rational q, (hp, hq, λ (same : SamePoint (rational p) (rational q)). let k = sym (times_one p.x) ∙ same.0 ∙ times_one q.x in omega (arith, signed))))

both_on : (s t : Segment) (p : Point) → Rightward s t → area s.a s.b p ≡ pos 0 → area t.a t.b p ≡ pos 0 →
    s.a.x ≤ℤ p.x → p.x ≤ℤ s.b.x → t.a.x ≤ℤ p.x → p.x ≤ℤ t.b.x → IsShared s t (rational p)
both_on s t p right e f a b c d = (end_on s p right.first a b e, end_on t p right.second c d f)

pub line_overlap : (s t : Segment) → AreInLine s t → Rightward s t → t.a.x <ℤ s.b.x → s.a.x <ℤ t.b.x → Relates Overlap s t
line_overlap s t line right h k =
    let f = right.first in
    let g = right.second in
    ⊎_elim
    (λ (l : s.a.x <ℤ t.a.x).
    let low : IsShared s t (rational t.a) = both_on s t t.a right line.ta (area_start t.a t.b) (omega (arith, signed)) (omega (arith, signed)) (omega (arith, signed)) (omega (arith, signed)) in
    ⊎_elim
    (λ (m : s.b.x <ℤ t.b.x).
    two_points s t t.a s.b h low (both_on s t s.b right (area_end s.a s.b) line.sb (omega (arith, signed)) (omega (arith, signed)) (omega (arith, signed)) (omega (arith, signed))))
    (λ (m : t.b.x ≤ℤ s.b.x).
    two_points s t t.a t.b g low (both_on s t t.b right line.tb (area_end t.a t.b) (omega (arith, signed)) (omega (arith, signed)) (omega (arith, signed)) (omega (arith, signed))))
    (order s.b.x t.b.x))
    (λ (l : t.a.x ≤ℤ s.a.x).
    let low : IsShared s t (rational s.a) = both_on s t s.a right (area_start s.a s.b) line.sa (omega (arith, signed)) (omega (arith, signed)) (omega (arith, signed)) (omega (arith, signed)) in
    ⊎_elim
    (λ (m : s.b.x <ℤ t.b.x).
    two_points s t s.a s.b f low (both_on s t s.b right (area_end s.a s.b) line.sb (omega (arith, signed)) (omega (arith, signed)) (omega (arith, signed)) (omega (arith, signed))))
    (λ (m : t.b.x ≤ℤ s.b.x).
    two_points s t s.a t.b k low (both_on s t t.b right line.tb (area_end t.a t.b) (omega (arith, signed)) (omega (arith, signed)) (omega (arith, signed)) (omega (arith, signed))))
    (order s.b.x t.b.x))
    (order s.a.x t.a.x)

-- ---- a segment that is turned round has the same points
abbrev pub round : Segment → Segment
round s = record { a = s.b; b = s.a }

area_round : (a b c : Point) → area b a c ≡ neg_ℤ (area a b c)
area_round a b c = simp multiplied (omega (arith, signed))

area_at-round : (a b : Point) (q : RationalPoint) → area_at b a q ≡ neg_ℤ (area_at a b q)
area_at-round a b q = simp multiplied (omega (arith, signed))

between_round : (a m b : ℤ) → IsBetween a m b → IsBetween b m a
between_round a m b = ⊎_elim (λ (h : (a ≤ℤ m) × (m ≤ℤ b)). inr h) (λ (h : (b ≤ℤ m) × (m ≤ℤ a)). inl h)

pub none : (z : ℤ) → z ≡ pos 0 → neg_ℤ z ≡ pos 0
none z e = rw e

pub on_round : (s : Segment) (q : RationalPoint) → IsOn q s → IsOn q (round s)
on_round s q on = record {
  straight = area_at-round s.a s.b q ∙ none (area_at s.a s.b q) on.straight;
  across = between_round (s.a.x *ℤ q.d) q.x (s.b.x *ℤ q.d) on.across;
  upward = between_round (s.a.y *ℤ q.d) q.y (s.b.y *ℤ q.d) on.upward;
}

end_round : (s : Segment) (q : RationalPoint) → IsEnd q s → IsEnd q (round s)
end_round s q = ⊎_elim (λ (h : IsAt s.a q). inr h) (λ (h : IsAt s.b q). inl h)

shared_round : (s t : Segment) (q : RationalPoint) → IsShared s t q → IsShared (round s) t q
shared_round s t q h = (on_round s q h.0, h.1)

only_round : (s t : Segment) (q : RationalPoint) → IsOnlyShared s t q → IsOnlyShared (round s) t q
only_round s t q h = (shared_round s t q h.0, λ p g. h.1 p (shared_round (round s) t p g))

pub relates_round : (r : Relation) (s t : Segment) → Relates r s t → Relates r (round s) t
relates_round Apart s t h = λ q g. h q (shared_round (round s) t q g)
relates_round TouchEnds s t (q, (only, e, f)) = (q, (only_round s t q only, end_round s q e, f))
relates_round Meet s t (q, (only, f)) = (q, (only_round s t q only, λ g. f (end_round (round s) q g)))
relates_round Overlap s t (p, (q, (h, k, f))) = (p, (q, (shared_round s t p h, shared_round s t q k, f)))

-- ---- and so have two segments that change places
pub relates_other : (r : Relation) (s t : Segment) → Relates r s t → Relates r t s
relates_other Apart s t h = λ q g. h q (g.1, g.0)
relates_other TouchEnds s t (q, (only, e, f)) = (q, (((only.0.1, only.0.0), λ p g. only.1 p (g.1, g.0)), f, e))
relates_other Meet s t (q, (only, f)) = (q, (((only.0.1, only.0.0), λ p g. only.1 p (g.1, g.0)), λ a b. f b a))
relates_other Overlap s t (p, (q, (h, k, f))) = (p, (q, ((h.1, h.0), (k.1, k.0), f)))

pub line_other : (s t : Segment) → AreInLine s t → AreInLine t s
line_other s t line = record { sa = line.ta; sb = line.tb; ta = line.sa; tb = line.sb }

pub line_round : (s t : Segment) → AreInLine s t → AreInLine (round s) t
line_round s t line = record {
  sa = line.sb;
  sb = line.sa;
  ta = area_round s.a s.b t.a ∙ none (area s.a s.b t.a) line.ta;
  tb = area_round s.a s.b t.b ∙ none (area s.a s.b t.b) line.tb;
}

-- From the signs of the four areas to the relation of two segments.
use Rattle.std.proofs.Common.{◌≡◌, ◌≢◌, refl, sym, ◌∙◌, arith, ℤ, pos, ◌-ℤ◌, ◌<ℤ◌, ◌≤ℤ◌, inl, inr, ⊎_elim}
use Rattle.plane.proofs.Ring.{signed}
use Rattle.plane.proofs.Signs.{order, cancel, times_one}
use Rattle.plane.proofs.Crossing.{crossing, areas, turn_is}
use Rattle.plane.proofs.Reaching.{reaching}
use Rattle.plane.proofs.Unique.{unique}
use Rattle.plane.proofs.Collinear.{area_start, area_end}
use Rattle.plane.specs.Relation.{AreInLine, AreOpposite, ReachAcross, IsShared, turn, IsEnd, IsProper, SameCoordinates, IsEndPoint, Relates}
use Rattle.topo_base.specs.Point.{Point}
use Rattle.topo_base.specs.RationalPoint.{RationalPoint, IsBetween, IsAt, rational}
use Rattle.plane.specs.Segment.{Segment}
use Rattle.plane.specs.RationalTests.{IsOn}
use Rattle.plane.specs.Orientation.{area}
use Rattle.topo_base.specs.declared.relation.Relation.TheVariants.{Apart, TouchEnds, Meet}

pub apart_relates : (s t : Segment) → IsProper s → IsProper t → (ReachAcross s t → ⊥) → Relates Apart s t
apart_relates s t ps pt far = λ q h. far (reaching s t q ps pt h)

-- parallel segments that reach across each other are on one line
no_turn_by : (p0 p1 r0 r1 : ℤ) → p1 -ℤ p0 ≡ r0 -ℤ r1 → r1 -ℤ r0 ≡ pos 0 → AreOpposite p0 p1 → AreOpposite r0 r1 → (p0 ≡ pos 0) × (p1 ≡ pos 0) × (r0 ≡ pos 0) × (r1 ≡ pos 0)
no_turn_by p0 p1 r0 r1 e f =
    ⊎_elim
    (λ (h : (p0 ≤ℤ pos 0) × (pos 0 ≤ℤ p1)).
    ⊎_elim
    (λ (g : (r0 ≤ℤ pos 0) × (pos 0 ≤ℤ r1)). omega (arith, signed))
    (λ (g : (pos 0 ≤ℤ r0) × (r1 ≤ℤ pos 0)). omega (arith, signed)))
    (λ (h : (pos 0 ≤ℤ p0) × (p1 ≤ℤ pos 0)).
    ⊎_elim
    (λ (g : (r0 ≤ℤ pos 0) × (pos 0 ≤ℤ r1)). omega (arith, signed))
    (λ (g : (pos 0 ≤ℤ r0) × (r1 ≤ℤ pos 0)). omega (arith, signed)))

pub in_line : (s t : Segment) → ReachAcross s t → turn s t ≡ pos 0 → AreInLine s t
in_line s t r e =
    let k = no_turn_by (area t.a t.b s.a) (area t.a t.b s.b) (area s.a s.b t.a) (area s.a s.b t.b) (areas s t) (turn_is s t ∙ e) r.0 r.1 in
    record { sa = k.0; sb = k.1; ta = k.2; tb = k.3 }

between_start : (a b : ℤ) → IsBetween a a b
between_start a b =
    ⊎_elim
    (λ (h : a <ℤ b). inl (omega (arith, signed)))
    (λ (h : b ≤ℤ a). inr (omega (arith, signed)))
    (order a b)

between_end : (a b : ℤ) → IsBetween a b b
between_end a b =
    ⊎_elim
    (λ (h : a <ℤ b). inl (omega (arith, signed)))
    (λ (h : b ≤ℤ a). inr (omega (arith, signed)))
    (order a b)

start_on : (s : Segment) (p : Point) → SameCoordinates p s.a → IsOn (rational p) s
start_on s p (e, f) = record {
  straight = rw (e, f, times_one s.a.x, times_one s.a.y) (area_start s.a s.b);
  across = rw (e, times_one s.a.x, times_one s.b.x) (between_start s.a.x s.b.x);
  upward = rw (f, times_one s.a.y, times_one s.b.y) (between_start s.a.y s.b.y);
}

finish_on : (s : Segment) (p : Point) → SameCoordinates p s.b → IsOn (rational p) s
finish_on s p (e, f) = record {
  straight = rw (e, f, times_one s.a.x, times_one s.a.y) (area_end s.a s.b);
  across = rw (e, times_one s.a.x, times_one s.b.x) (between_end s.a.x s.b.x);
  upward = rw (f, times_one s.a.y, times_one s.b.y) (between_end s.a.y s.b.y);
}

at_joined : (p r : Point) → SameCoordinates p r → IsAt r (rational p)
at_joined p r h = (h.0 ∙ sym (times_one r.x), h.1 ∙ sym (times_one r.y))

pub on_end : (s : Segment) (p : Point) → IsEndPoint p s → IsOn (rational p) s
on_end s p = ⊎_elim (λ (h : SameCoordinates p s.a). start_on s p h) (λ (h : SameCoordinates p s.b). finish_on s p h)

pub is_end : (s : Segment) (p : Point) → IsEndPoint p s → IsEnd (rational p) s
is_end s p = ⊎_elim (λ (h : SameCoordinates p s.a). inl (at_joined p s.a h)) (λ (h : SameCoordinates p s.b). inr (at_joined p s.b h))

pub touch_relates : (s t : Segment) (p : Point) → turn s t ≢ pos 0 → IsEndPoint p s → IsEndPoint p t → Relates TouchEnds s t
touch_relates s t p apart hs ht =
    let on : IsShared s t (rational p) = (on_end s p hs, on_end t p ht) in
    (rational p, ((on, λ q h. unique s t q (rational p) apart h on), is_end s p hs, is_end t p ht))

pub same_end : (q : RationalPoint) (p r : Point) → IsAt p q → IsAt r q → SameCoordinates p r
same_end q p r h k =
    let w = q.whole in
    let n : q.d ≢ pos 0 = omega (arith, signed) in
    (cancel p.x r.x q.d (sym h.0 ∙ k.0) n, cancel p.y r.y q.d (sym h.1 ∙ k.1) n)

pub joined : (p : Point) → SameCoordinates p p
joined p = (refl, refl)

end_at : (s : Segment) (q : RationalPoint) (p : Point) → IsAt p q → IsEnd q s → IsEndPoint p s
end_at s q p h = ⊎_elim (λ (g : IsAt s.a q). inl (same_end q p s.a h g)) (λ (g : IsAt s.b q). inr (same_end q p s.b h g))

pub meet_relates : (s t : Segment) → turn s t ≢ pos 0 → ReachAcross s t → ((p : Point) → IsEndPoint p s → IsEndPoint p t → ⊥) → Relates Meet s t
meet_relates s t apart r no_end =
    let c = crossing s t apart r in
    let q = c.0 in (
      q,
      (
        (c.1, λ p h. unique s t p q apart h c.1),
        λ e f.
            ⊎_elim
            (λ (g : IsAt s.a q). no_end s.a (inl (joined s.a)) (end_at t q s.a g f))
            (λ (g : IsAt s.b q). no_end s.b (inr (joined s.b)) (end_at t q s.b g f))
            e,
      ),
    )

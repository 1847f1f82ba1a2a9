-- Where two segments that are not parallel have a common point.
use Rattle.std.proofs.Common.{◌≡◌, ◌≢◌, arith, ℤ, pos, ◌+ℤ◌, ◌-ℤ◌, ◌*ℤ◌, ◌<ℤ◌, ◌≤ℤ◌, inl, inr, ⊎_elim}
use Rattle.std.specs.Prelude.{neg_ℤ}
use Rattle.plane.proofs.Ring.{multiplied, signed}
use Rattle.plane.proofs.Signs.{mul_not_negative, order}
use Rattle.topo_base.specs.RationalPoint.{RationalPoint, IsBetween}
use Rattle.plane.specs.Segment.{Segment}
use Rattle.plane.specs.RationalTests.{IsOn}
use Rattle.plane.specs.Relation.{AreOpposite, ReachAcross, IsShared, turn}
use Rattle.plane.specs.Orientation.{area}

-- the middle of a and b with weights u and v
abbrev mix : ℤ → ℤ → ℤ → ℤ → ℤ
mix a b u v = a *ℤ u +ℤ b *ℤ v

mix-between_up : (a b u v : ℤ) → pos 0 ≤ℤ u → pos 0 ≤ℤ v → a ≤ℤ b → ((a *ℤ (u +ℤ v)) ≤ℤ mix a b u v) × (mix a b u v ≤ℤ (b *ℤ (u +ℤ v)))
mix-between_up a b u v hu hv h =
    let d : pos 0 ≤ℤ (b -ℤ a) = omega (arith, signed) in
    let e = simp multiplied at (mul_not_negative (b -ℤ a) u d hu) in
    let f = simp multiplied at (mul_not_negative (b -ℤ a) v d hv) in
    simp multiplied (omega (arith, signed))

mix-between_down : (a b u v : ℤ) → pos 0 ≤ℤ u → pos 0 ≤ℤ v → b ≤ℤ a → ((b *ℤ (u +ℤ v)) ≤ℤ mix a b u v) × (mix a b u v ≤ℤ (a *ℤ (u +ℤ v)))
mix-between_down a b u v hu hv h =
    let d : pos 0 ≤ℤ (a -ℤ b) = omega (arith, signed) in
    let e = simp multiplied at (mul_not_negative (a -ℤ b) u d hu) in
    let f = simp multiplied at (mul_not_negative (a -ℤ b) v d hv) in
    simp multiplied (omega (arith, signed))

mix-between : (a b u v : ℤ) → pos 0 ≤ℤ u → pos 0 ≤ℤ v → IsBetween (a *ℤ (u +ℤ v)) (mix a b u v) (b *ℤ (u +ℤ v))
mix-between a b u v hu hv =
    ⊎_elim
    (λ (h : a <ℤ b). let k : a ≤ℤ b = omega (arith, signed) in inl (mix-between_up a b u v hu hv k))
    (λ (h : b ≤ℤ a). inr (mix-between_down a b u v hu hv h))
    (order a b)

mix-straight : (ax ay bx by u v : ℤ) →
    (bx -ℤ ax) *ℤ (mix ay by u v -ℤ ay *ℤ (u +ℤ v)) -ℤ (by -ℤ ay) *ℤ (mix ax bx u v -ℤ ax *ℤ (u +ℤ v)) ≡ pos 0
mix-straight ax ay bx by u v = simp multiplied (omega (arith, signed))

abbrev rational_point : ℤ → ℤ → (d : ℤ) → pos 0 <ℤ d → RationalPoint
rational_point x y d h = record { x = x; y = y; d = d; whole = h }

mix-on : (s : Segment) (u v : ℤ) (hu : pos 0 ≤ℤ u) (hv : pos 0 ≤ℤ v) (h : pos 0 <ℤ (u +ℤ v)) →
    IsOn (rational_point (mix s.a.x s.b.x u v) (mix s.a.y s.b.y u v) (u +ℤ v) h) s
mix-on s u v hu hv h = record {
  straight = mix-straight s.a.x s.a.y s.b.x s.b.y u v;
  across = mix-between s.a.x s.b.x u v hu hv;
  upward = mix-between s.a.y s.b.y u v hu hv;
}

-- the four areas and the two ways to name the crossing
pub areas : (s t : Segment) → area t.a t.b s.b -ℤ area t.a t.b s.a ≡ area s.a s.b t.a -ℤ area s.a s.b t.b
areas s t = simp multiplied (omega (arith, signed))

pub turn_is : (s t : Segment) → area s.a s.b t.b -ℤ area s.a s.b t.a ≡ turn s t
turn_is s t = simp multiplied (omega (arith, signed))

cramer_x : (s t : Segment) → s.a.x *ℤ area t.a t.b s.b -ℤ s.b.x *ℤ area t.a t.b s.a ≡ t.b.x *ℤ area s.a s.b t.a -ℤ t.a.x *ℤ area s.a s.b t.b
cramer_x s t = simp multiplied (omega (arith, signed))

cramer_y : (s t : Segment) → s.a.y *ℤ area t.a t.b s.b -ℤ s.b.y *ℤ area t.a t.b s.a ≡ t.b.y *ℤ area s.a s.b t.a -ℤ t.a.y *ℤ area s.a s.b t.b
cramer_y s t = simp multiplied (omega (arith, signed))

mix-on_at : (s : Segment) (u v : ℤ) (q : RationalPoint) → pos 0 ≤ℤ u → pos 0 ≤ℤ v →
    q.x ≡ mix s.a.x s.b.x u v → q.y ≡ mix s.a.y s.b.y u v → q.d ≡ u +ℤ v → IsOn q s
mix-on_at s u v q hu hv ex ey ed = record {
  straight = rw (ex, ey, ed) (mix-straight s.a.x s.a.y s.b.x s.b.y u v);
  across = rw (ex, ed) (mix-between s.a.x s.b.x u v hu hv);
  upward = rw (ey, ed) (mix-between s.a.y s.b.y u v hu hv);
}

-- one point that is a middle of the ends of both
meet : (s t : Segment) (u v u' v' : ℤ) → pos 0 ≤ℤ u → pos 0 ≤ℤ v → pos 0 ≤ℤ u' → pos 0 ≤ℤ v' → pos 0 <ℤ (u +ℤ v) →
    mix s.a.x s.b.x u v ≡ mix t.a.x t.b.x u' v' → mix s.a.y s.b.y u v ≡ mix t.a.y t.b.y u' v' → u +ℤ v ≡ u' +ℤ v' →
    (q : RationalPoint) × IsShared s t q
meet s t u v u' v' hu hv hu' hv' h ex ey ed =
    let q = rational_point (mix s.a.x s.b.x u v) (mix s.a.y s.b.y u v) (u +ℤ v) h in
    (q, (mix-on s u v hu hv h, mix-on_at t u' v' q hu' hv' ex ey ed))

crossing_by : (s t : Segment) (p0 p1 r0 r1 w : ℤ) → w ≢ pos 0 → p1 -ℤ p0 ≡ r0 -ℤ r1 → r1 -ℤ r0 ≡ w →
    s.a.x *ℤ p1 -ℤ s.b.x *ℤ p0 ≡ t.b.x *ℤ r0 -ℤ t.a.x *ℤ r1 → s.a.y *ℤ p1 -ℤ s.b.y *ℤ p0 ≡ t.b.y *ℤ r0 -ℤ t.a.y *ℤ r1 →
    AreOpposite p0 p1 → AreOpposite r0 r1 → (q : RationalPoint) × IsShared s t q
crossing_by s t p0 p1 r0 r1 w apart e k cx cy =
    let nx = simp multiplied at cx in
    let ny = simp multiplied at cy in
    ⊎_elim
    (λ (h : (p0 ≤ℤ pos 0) × (pos 0 ≤ℤ p1)).
    ⊎_elim
    (λ (g : (r0 ≤ℤ pos 0) × (pos 0 ≤ℤ r1)). absurd (omega (arith, signed)))
    (λ (g : (pos 0 ≤ℤ r0) × (r1 ≤ℤ pos 0)).
    meet s t p1 (neg_ℤ p0) (neg_ℤ r1) r0 (omega (arith, signed)) (omega (arith, signed)) (omega (arith, signed)) (omega (arith, signed)) (omega (arith, signed))
    (simp multiplied (omega (arith, signed)))
    (simp multiplied (omega (arith, signed)))
    (omega (arith, signed))))
    (λ (h : (pos 0 ≤ℤ p0) × (p1 ≤ℤ pos 0)).
    ⊎_elim
    (λ (g : (r0 ≤ℤ pos 0) × (pos 0 ≤ℤ r1)).
    meet s t (neg_ℤ p1) p0 r1 (neg_ℤ r0) (omega (arith, signed)) (omega (arith, signed)) (omega (arith, signed)) (omega (arith, signed)) (omega (arith, signed))
    (simp multiplied (omega (arith, signed)))
    (simp multiplied (omega (arith, signed)))
    (omega (arith, signed)))
    (λ (g : (pos 0 ≤ℤ r0) × (r1 ≤ℤ pos 0)). absurd (omega (arith, signed))))

pub crossing : (s t : Segment) → turn s t ≢ pos 0 → ReachAcross s t → (q : RationalPoint) × IsShared s t q
crossing s t apart r =
    let p0 = area t.a t.b s.a in
    let p1 = area t.a t.b s.b in
    let r0 = area s.a s.b t.a in
    let r1 = area s.a s.b t.b in
    let e = areas s t in
    let k = turn_is s t in
    let cx = cramer_x s t in
    let cy = cramer_y s t in
    crossing_by s t p0 p1 r0 r1 (turn s t) apart e k cx cy r.0 r.1

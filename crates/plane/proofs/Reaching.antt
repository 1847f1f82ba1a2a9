-- Two segments with a common point, that are not parallel, reach across each other.
use Rattle.std.proofs.Common.{◌≡◌, ◌≢◌, sym, ◌∙◌, arith, ℤ, pos, ◌+ℤ◌, ◌-ℤ◌, ◌*ℤ◌, ◌<ℤ◌, ◌≤ℤ◌, ◌⊎◌, inl, inr, ⊎_elim}
use Rattle.std.specs.Prelude.{neg_ℤ}
use Rattle.std.proofs.Math.IntN.{*ℤ-zero, zero-*ℤ}
use Rattle.plane.proofs.Ring.{multiplied, signed}
use Rattle.plane.proofs.Signs.{mul_not_negative, mul_positive, order}
use Rattle.topo_base.specs.RationalPoint.{RationalPoint, IsBetween}
use Rattle.plane.specs.Segment.{Segment}
use Rattle.plane.specs.RationalTests.{IsOn, area_at}
use Rattle.plane.specs.Relation.{AreOpposite, ReachAcross, IsShared, turn, IsProper}
use Rattle.plane.specs.Orientation.{area}

not_both : (p r u v : ℤ) → pos 0 <ℤ p → pos 0 <ℤ r → pos 0 ≤ℤ u → pos 0 ≤ℤ v → pos 0 <ℤ (u +ℤ v) → p *ℤ u +ℤ r *ℤ v ≡ pos 0 → ⊥
not_both p r u v hp hr hu hv h e =
    let kp : pos 0 ≤ℤ p = omega (arith, signed) in
    let kr : pos 0 ≤ℤ r = omega (arith, signed) in
    let a = mul_not_negative p u kp hu in
    let b = mul_not_negative r v kr hv in
    ⊎_elim
    (λ (g : pos 0 <ℤ u). let c = mul_positive p u hp g in omega (arith, signed))
    (λ (g : u ≤ℤ pos 0). let k : pos 0 <ℤ v = omega (arith, signed) in let c = mul_positive r v hr k in omega (arith, signed))
    (order (pos 0) u)

not_both_down : (p r u v : ℤ) → p <ℤ pos 0 → r <ℤ pos 0 → pos 0 ≤ℤ u → pos 0 ≤ℤ v → pos 0 <ℤ (u +ℤ v) → p *ℤ u +ℤ r *ℤ v ≡ pos 0 → ⊥
not_both_down p r u v hp hr hu hv h e =
    let e' : neg_ℤ p *ℤ u +ℤ neg_ℤ r *ℤ v ≡ pos 0 = simp multiplied (omega (arith, signed)) in
    not_both (neg_ℤ p) (neg_ℤ r) u v (omega (arith, signed)) (omega (arith, signed)) hu hv h e'

weighted : (p r u v : ℤ) → pos 0 ≤ℤ u → pos 0 ≤ℤ v → pos 0 <ℤ (u +ℤ v) → p *ℤ u +ℤ r *ℤ v ≡ pos 0 → AreOpposite p r
weighted p r u v hu hv h e =
    ⊎_elim
    (λ (hp : pos 0 <ℤ p).
    ⊎_elim
    (λ (hr : pos 0 <ℤ r). absurd (not_both p r u v hp hr hu hv h e))
    (λ (hr : r ≤ℤ pos 0). inr (omega (arith, signed), hr))
    (order (pos 0) r))
    (λ (hp : p ≤ℤ pos 0).
    ⊎_elim
    (λ (hr : r <ℤ pos 0).
    ⊎_elim
    (λ (gp : p <ℤ pos 0). absurd (not_both_down p r u v gp hr hu hv h e))
    (λ (gp : pos 0 ≤ℤ p). inr (gp, omega (arith, signed)))
    (order p (pos 0)))
    (λ (hr : pos 0 ≤ℤ r). inl (hp, hr))
    (order r (pos 0)))
    (order (pos 0) p)

-- u and v sum up to (b - a) d
spread : (a b q d : ℤ) → (b *ℤ d -ℤ q) +ℤ (q -ℤ a *ℤ d) ≡ (b -ℤ a) *ℤ d
spread a b q d = simp multiplied (omega (arith, signed))

up_case : (p r a b q d : ℤ) → pos 0 <ℤ d → a ≢ b → (a *ℤ d) ≤ℤ q → q ≤ℤ (b *ℤ d) → p *ℤ (b *ℤ d -ℤ q) +ℤ r *ℤ (q -ℤ a *ℤ d) ≡ pos 0 → AreOpposite p r
up_case p r a b q d hd apart h k e =
    let hu : pos 0 ≤ℤ (b *ℤ d -ℤ q) = omega (arith, signed) in
    let hv : pos 0 ≤ℤ (q -ℤ a *ℤ d) = omega (arith, signed) in
    ⊎_elim
    (λ (g : a <ℤ b).
    let w = mul_positive (b -ℤ a) d (omega (arith, signed)) hd in
    weighted p r _ _ hu hv (rw (spread a b q d) w) e)
    (λ (g : b ≤ℤ a).
    let g' : pos 0 <ℤ (a -ℤ b) = omega (arith, signed) in
    let w = simp multiplied at (mul_positive (a -ℤ b) d g' hd) in
    absurd (omega (arith, signed)))
    (order a b)

half_by : (p r a b q d : ℤ) → pos 0 <ℤ d → a ≢ b → IsBetween (a *ℤ d) q (b *ℤ d) → p *ℤ (b *ℤ d -ℤ q) +ℤ r *ℤ (q -ℤ a *ℤ d) ≡ pos 0 → AreOpposite p r
half_by p r a b q d hd apart m e =
    ⊎_elim
    (λ (h : ((a *ℤ d) ≤ℤ q) × (q ≤ℤ (b *ℤ d))). up_case p r a b q d hd apart h.0 h.1 e)
    (λ (h : ((b *ℤ d) ≤ℤ q) × (q ≤ℤ (a *ℤ d))).
    let e' : r *ℤ (a *ℤ d -ℤ q) +ℤ p *ℤ (q -ℤ b *ℤ d) ≡ pos 0 = (let k = simp multiplied at e in simp multiplied (omega (arith, signed))) in
    turned (up_case r p b a q d hd (λ f. apart (sym f)) h.0 h.1 e'))
    m
  where
    turned : AreOpposite r p → AreOpposite p r
    turned = ⊎_elim (λ (g : (r ≤ℤ pos 0) × (pos 0 ≤ℤ p)). inr (g.1, g.0)) (λ (g : (pos 0 ≤ℤ r) × (p ≤ℤ pos 0)). inl (g.1, g.0))

-- the same as `pull_x` on differences of points: u and w are the ways along s and t, z is the way from the start of t to that of s, and g from there to q
pull : (ux uy wx wy zx zy gx gy d : ℤ) →
    (wx *ℤ zy -ℤ wy *ℤ zx) *ℤ (ux *ℤ d -ℤ gx) +ℤ (wx *ℤ (zy +ℤ uy) -ℤ wy *ℤ (zx +ℤ ux)) *ℤ gx
    ≡ ux *ℤ (wx *ℤ (gy +ℤ zy *ℤ d) -ℤ wy *ℤ (gx +ℤ zx *ℤ d)) -ℤ wx *ℤ (ux *ℤ gy -ℤ uy *ℤ gx)
pull ux uy wx wy zx zy gx gy d = simp multiplied (omega (arith, signed))

pull' : (ux uy wx wy zx zy gx gy d : ℤ) →
    (wx *ℤ zy -ℤ wy *ℤ zx) *ℤ (uy *ℤ d -ℤ gy) +ℤ (wx *ℤ (zy +ℤ uy) -ℤ wy *ℤ (zx +ℤ ux)) *ℤ gy
    ≡ uy *ℤ (wx *ℤ (gy +ℤ zy *ℤ d) -ℤ wy *ℤ (gx +ℤ zx *ℤ d)) -ℤ wy *ℤ (ux *ℤ gy -ℤ uy *ℤ gx)
pull' ux uy wx wy zx zy gx gy d = simp multiplied (omega (arith, signed))

onward : (a b c : ℤ) → b -ℤ c ≡ (a -ℤ c) +ℤ (b -ℤ a)
onward a b c = omega (arith, signed)

short_of : (a b q d : ℤ) → b *ℤ d -ℤ q ≡ (b -ℤ a) *ℤ d -ℤ (q -ℤ a *ℤ d)
short_of a b q d = simp multiplied (omega (arith, signed))

from_other : (a c q d : ℤ) → q -ℤ c *ℤ d ≡ (q -ℤ a *ℤ d) +ℤ (a -ℤ c) *ℤ d
from_other a c q d = simp multiplied (omega (arith, signed))

pull_x : (s t : Segment) (q : RationalPoint) →
    area t.a t.b s.a *ℤ (s.b.x *ℤ q.d -ℤ q.x) +ℤ area t.a t.b s.b *ℤ (q.x -ℤ s.a.x *ℤ q.d)
    ≡ (s.b.x -ℤ s.a.x) *ℤ area_at t.a t.b q -ℤ (t.b.x -ℤ t.a.x) *ℤ area_at s.a s.b q
pull_x s t q =
    rw (short_of s.a.x s.b.x q.x q.d, onward s.a.x s.b.x t.a.x, onward s.a.y s.b.y t.a.y, from_other s.a.x t.a.x q.x q.d, from_other s.a.y t.a.y q.y q.d)
    (pull (s.b.x -ℤ s.a.x) (s.b.y -ℤ s.a.y) (t.b.x -ℤ t.a.x) (t.b.y -ℤ t.a.y) (s.a.x -ℤ t.a.x) (s.a.y -ℤ t.a.y) (q.x -ℤ s.a.x *ℤ q.d) (q.y -ℤ s.a.y *ℤ q.d) q.d)

pull_y : (s t : Segment) (q : RationalPoint) →
    area t.a t.b s.a *ℤ (s.b.y *ℤ q.d -ℤ q.y) +ℤ area t.a t.b s.b *ℤ (q.y -ℤ s.a.y *ℤ q.d)
    ≡ (s.b.y -ℤ s.a.y) *ℤ area_at t.a t.b q -ℤ (t.b.y -ℤ t.a.y) *ℤ area_at s.a s.b q
pull_y s t q =
    rw (short_of s.a.y s.b.y q.y q.d, onward s.a.x s.b.x t.a.x, onward s.a.y s.b.y t.a.y, from_other s.a.x t.a.x q.x q.d, from_other s.a.y t.a.y q.y q.d)
    (pull' (s.b.x -ℤ s.a.x) (s.b.y -ℤ s.a.y) (t.b.x -ℤ t.a.x) (t.b.y -ℤ t.a.y) (s.a.x -ℤ t.a.x) (s.a.y -ℤ t.a.y) (q.x -ℤ s.a.x *ℤ q.d) (q.y -ℤ s.a.y *ℤ q.d) q.d)

no_pull : (k l p r : ℤ) → p ≡ pos 0 → r ≡ pos 0 → k *ℤ p -ℤ l *ℤ r ≡ pos 0
no_pull k l p r e f = rw (e, f, *ℤ-zero k, *ℤ-zero l)

no_turn : (s t : Segment) → s.a.x ≡ s.b.x → s.a.y ≡ s.b.y → turn s t ≡ pos 0
no_turn s t e f =
    let k : s.b.x -ℤ s.a.x ≡ pos 0 = omega (arith, signed) in
    let l : s.b.y -ℤ s.a.y ≡ pos 0 = omega (arith, signed) in
    rw (k, l, zero-*ℤ (t.b.y -ℤ t.a.y), zero-*ℤ (t.b.x -ℤ t.a.x))

-- q is on the straight line through t: the ends of s are on opposite sides of it
half_in : (s t : Segment) (q : RationalPoint) → (s.a.x ≢ s.b.x) ⊎ (s.a.y ≢ s.b.y) → IsOn q s → area_at t.a t.b q ≡ pos 0 → AreOpposite (area t.a t.b s.a) (area t.a t.b s.b)
half_in s t q apart on e =
    let hd = q.whole in
    ⊎_elim
    (λ (h : s.a.x ≢ s.b.x). half_by (area t.a t.b s.a) (area t.a t.b s.b) s.a.x s.b.x q.x q.d hd h on.across
    (pull_x s t q ∙ no_pull (s.b.x -ℤ s.a.x) (t.b.x -ℤ t.a.x) (area_at t.a t.b q) (area_at s.a s.b q) e on.straight))
    (λ (h : s.a.y ≢ s.b.y). half_by (area t.a t.b s.a) (area t.a t.b s.b) s.a.y s.b.y q.y q.d hd h on.upward
    (pull_y s t q ∙ no_pull (s.b.y -ℤ s.a.y) (t.b.y -ℤ t.a.y) (area_at t.a t.b q) (area_at s.a s.b q) e on.straight))
    apart

pub apart_in : (s : Segment) → IsProper s → (s.a.x ≢ s.b.x) ⊎ (s.a.y ≢ s.b.y)
apart_in s proper =
    ⊎_elim
    (λ (h : s.a.x <ℤ s.b.x). inl (omega (arith, signed)))
    (λ (h : s.b.x ≤ℤ s.a.x).
    ⊎_elim
    (λ (g : s.b.x <ℤ s.a.x). inl (omega (arith, signed)))
    (λ (g : s.a.x ≤ℤ s.b.x). let e : s.a.x ≡ s.b.x = omega (arith, signed) in inr (proper e))
    (order s.b.x s.a.x))
    (order s.a.x s.b.x)

pub half : (s t : Segment) (q : RationalPoint) → IsProper s → IsOn q s → area_at t.a t.b q ≡ pos 0 → AreOpposite (area t.a t.b s.a) (area t.a t.b s.b)
half s t q proper on e = half_in s t q (apart_in s proper) on e

-- two segments with different ends and a common point reach across each other
pub reaching : (s t : Segment) (q : RationalPoint) → IsProper s → IsProper t → IsShared s t q → ReachAcross s t
reaching s t q proper proper' h = (half s t q proper h.0 h.1.straight, half t s q proper' h.1 h.0.straight)

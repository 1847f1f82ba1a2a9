-- Segments that are not parallel have at most one common point.
use Rattle.std.proofs.Common.{◌≡◌, ◌≢◌, ◌∙◌, arith, ℤ, pos, ◌-ℤ◌, ◌*ℤ◌}
use Rattle.std.proofs.Math.IntN.{*ℤ-zero}
use Rattle.plane.proofs.Ring.{multiplied, signed}
use Rattle.plane.proofs.Signs.{no_zero_divisor}
use Rattle.topo_base.specs.RationalPoint.{RationalPoint, SamePoint}
use Rattle.plane.specs.Segment.{Segment}
use Rattle.plane.specs.Relation.{IsShared, turn}
use Rattle.plane.specs.RationalTests.{area_at}

no_sum : (k l p r : ℤ) → p ≡ pos 0 → r ≡ pos 0 → k *ℤ p -ℤ l *ℤ r ≡ pos 0
no_sum k l p r e f = rw (e, f, *ℤ-zero k, *ℤ-zero l)

-- the cross product of a direction with the way from p to q
along : (ux uy ax ay px py d qx qy e : ℤ) →
    ux *ℤ (qy *ℤ d -ℤ py *ℤ e) -ℤ uy *ℤ (qx *ℤ d -ℤ px *ℤ e)
    ≡ d *ℤ (ux *ℤ (qy -ℤ ay *ℤ e) -ℤ uy *ℤ (qx -ℤ ax *ℤ e)) -ℤ e *ℤ (ux *ℤ (py -ℤ ay *ℤ d) -ℤ uy *ℤ (px -ℤ ax *ℤ d))
along ux uy ax ay px py d qx qy e = simp multiplied (omega (arith, signed))

solve_x : (ux uy wx wy x y : ℤ) → (ux *ℤ wy -ℤ uy *ℤ wx) *ℤ x ≡ wx *ℤ (ux *ℤ y -ℤ uy *ℤ x) -ℤ ux *ℤ (wx *ℤ y -ℤ wy *ℤ x)
solve_x ux uy wx wy x y = simp multiplied (omega (arith, signed))

solve_y : (ux uy wx wy x y : ℤ) → (ux *ℤ wy -ℤ uy *ℤ wx) *ℤ y ≡ wy *ℤ (ux *ℤ y -ℤ uy *ℤ x) -ℤ uy *ℤ (wx *ℤ y -ℤ wy *ℤ x)
solve_y ux uy wx wy x y = simp multiplied (omega (arith, signed))

pub on_line : (s : Segment) (p q : RationalPoint) → area_at s.a s.b p ≡ pos 0 → area_at s.a s.b q ≡ pos 0 →
    (s.b.x -ℤ s.a.x) *ℤ (q.y *ℤ p.d -ℤ p.y *ℤ q.d) -ℤ (s.b.y -ℤ s.a.y) *ℤ (q.x *ℤ p.d -ℤ p.x *ℤ q.d) ≡ pos 0
on_line s p q e f =
    along (s.b.x -ℤ s.a.x) (s.b.y -ℤ s.a.y) s.a.x s.a.y p.x p.y p.d q.x q.y q.d
    ∙ no_sum p.d q.d (area_at s.a s.b q) (area_at s.a s.b p) f e

level : (a b c d : ℤ) → a *ℤ b -ℤ c *ℤ d ≡ pos 0 → c *ℤ d ≡ a *ℤ b
level a b c d e = omega (arith, signed)

pub unique : (s t : Segment) (p q : RationalPoint) → turn s t ≢ pos 0 → IsShared s t p → IsShared s t q → SamePoint p q
unique s t p q apart hp hq =
    let x = q.x *ℤ p.d -ℤ p.x *ℤ q.d in
    let y = q.y *ℤ p.d -ℤ p.y *ℤ q.d in
    let ux = s.b.x -ℤ s.a.x in
    let uy = s.b.y -ℤ s.a.y in
    let wx = t.b.x -ℤ t.a.x in
    let wy = t.b.y -ℤ t.a.y in
    let e = on_line s p q hp.0.straight hq.0.straight in
    let f = on_line t p q hp.1.straight hq.1.straight in
    let kx = no_zero_divisor (turn s t) x (solve_x ux uy wx wy x y ∙ no_sum wx ux _ _ e f) apart in
    let ky = no_zero_divisor (turn s t) y (solve_y ux uy wx wy x y ∙ no_sum wy uy _ _ e f) apart in
    (level q.x p.d p.x q.d kx, level q.y p.d p.y q.d ky)

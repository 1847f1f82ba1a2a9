-- Two segments on one straight line that is not upright, each from left to right.
use Rattle.std.proofs.Common.{◌≡◌, arith, ℤ, pos, ◌-ℤ◌, ◌*ℤ◌, ◌<ℤ◌, ◌≤ℤ◌, inl, inr, ⊎_elim}
use Rattle.std.specs.Prelude.{neg_ℤ}
use Rattle.std.proofs.Math.IntN.{*ℤ-zero}
use Rattle.plane.proofs.Ring.{multiplied, signed}
use Rattle.plane.proofs.Signs.{mul_not_negative, mul_positive, order, no_zero_divisor, times_one}
use Rattle.plane.proofs.Unique.{on_line}
use Rattle.topo_base.specs.Point.{Point}
use Rattle.topo_base.specs.RationalPoint.{RationalPoint, IsBetween, SamePoint, rational}
use Rattle.plane.specs.Segment.{Segment}
use Rattle.plane.specs.RationalTests.{IsOn, area_at}
use Rattle.plane.specs.Relation.{IsShared}
use Rattle.plane.specs.Orientation.{area}

not_negative_factor : (a b : ℤ) → pos 0 <ℤ a → pos 0 ≤ℤ (a *ℤ b) → pos 0 ≤ℤ b
not_negative_factor a b ha h =
    ⊎_elim
    (λ (g : b <ℤ pos 0). let w = simp multiplied at (mul_positive a (neg_ℤ b) ha (omega (arith, signed))) in absurd (omega (arith, signed)))
    (λ (g : pos 0 ≤ℤ b). g)
    (order b (pos 0))

-- u and y are what x and v are, times one factor
follow_up : (u v x y : ℤ) → pos 0 <ℤ u → pos 0 ≤ℤ v → pos 0 ≤ℤ x → x ≤ℤ u → u *ℤ y ≡ v *ℤ x → (pos 0 ≤ℤ y) × (y ≤ℤ v)
follow_up u v x y hu hv hx hx' e =
    let a = mul_not_negative v x hv hx in
    let b = simp multiplied at (mul_not_negative v (u -ℤ x) hv (omega (arith, signed))) in
    let k : pos 0 ≤ℤ (u *ℤ (v -ℤ y)) = simp multiplied (omega (arith, signed)) in
    let l = not_negative_factor u (v -ℤ y) hu k in
    (not_negative_factor u y hu (omega (arith, signed)), omega (arith, signed))

follow_down : (u v x y : ℤ) → pos 0 <ℤ u → v ≤ℤ pos 0 → pos 0 ≤ℤ x → x ≤ℤ u → u *ℤ y ≡ v *ℤ x → (v ≤ℤ y) × (y ≤ℤ pos 0)
follow_down u v x y hu hv hx hx' e =
    let e' : u *ℤ neg_ℤ y ≡ neg_ℤ v *ℤ x = simp multiplied (omega (arith, signed)) in
    let k = follow_up u (neg_ℤ v) x (neg_ℤ y) hu (omega (arith, signed)) hx hx' e' in
    (omega (arith, signed), omega (arith, signed))

follow : (ax ay bx by px py : ℤ) → ax <ℤ bx → ax ≤ℤ px → px ≤ℤ bx → (bx -ℤ ax) *ℤ (py -ℤ ay) -ℤ (by -ℤ ay) *ℤ (px -ℤ ax) ≡ pos 0 → IsBetween ay py by
follow ax ay bx by px py h k l e =
    let u : pos 0 <ℤ (bx -ℤ ax) = omega (arith, signed) in
    let x : pos 0 ≤ℤ (px -ℤ ax) = omega (arith, signed) in
    let x' : (px -ℤ ax) ≤ℤ (bx -ℤ ax) = omega (arith, signed) in
    let e' : (bx -ℤ ax) *ℤ (py -ℤ ay) ≡ (by -ℤ ay) *ℤ (px -ℤ ax) = omega (arith, signed) in
    ⊎_elim
    (λ (g : ay <ℤ by). let f = follow_up (bx -ℤ ax) (by -ℤ ay) (px -ℤ ax) (py -ℤ ay) u (omega (arith, signed)) x x' e' in inl (omega (arith, signed)))
    (λ (g : by ≤ℤ ay). let f = follow_down (bx -ℤ ax) (by -ℤ ay) (px -ℤ ax) (py -ℤ ay) u (omega (arith, signed)) x x' e' in inr (omega (arith, signed)))
    (order ay by)

-- a point of the line between the ends of s is on s
pub end_on : (s : Segment) (p : Point) → s.a.x <ℤ s.b.x → s.a.x ≤ℤ p.x → p.x ≤ℤ s.b.x → area s.a s.b p ≡ pos 0 → IsOn (rational p) s
end_on s p h k l e = record {
  straight = rw (times_one s.a.y, times_one s.a.x) e;
  across = rw (times_one s.a.x, times_one s.b.x) (inl (k, l));
  upward = rw (times_one s.a.y, times_one s.b.y) (follow s.a.x s.a.y s.b.x s.b.y p.x p.y h k l e);
}

-- two points of the line with one x have one y
pub same_y : (s : Segment) (p q : Point) → s.a.x <ℤ s.b.x → area s.a s.b p ≡ pos 0 → area s.a s.b q ≡ pos 0 → p.x ≡ q.x → p.y ≡ q.y
same_y s p q h e f g =
    let z : (s.b.x -ℤ s.a.x) *ℤ (p.y -ℤ q.y) ≡ pos 0 = same_y_by (s.b.x -ℤ s.a.x) (s.b.y -ℤ s.a.y) s.a.x s.a.y p.x p.y q.x q.y e f g in
    let k = no_zero_divisor (s.b.x -ℤ s.a.x) (p.y -ℤ q.y) z (omega (arith, signed)) in
    omega (arith, signed)
  where
    same_y_by : (ux uy ax ay px py qx qy : ℤ) → ux *ℤ (py -ℤ ay) -ℤ uy *ℤ (px -ℤ ax) ≡ pos 0 → ux *ℤ (qy -ℤ ay) -ℤ uy *ℤ (qx -ℤ ax) ≡ pos 0 → px ≡ qx → ux *ℤ (py -ℤ qy) ≡ pos 0
    same_y_by ux uy ax ay px py qx qy e f g =
        let m = simp multiplied at e in
        let n = simp multiplied at (rw (← g) at f) in
        simp multiplied (omega (arith, signed))

-- two points of the line with one x are the same
pub same_rational : (s : Segment) (p q : RationalPoint) → s.a.x <ℤ s.b.x → area_at s.a s.b p ≡ pos 0 → area_at s.a s.b q ≡ pos 0 → p.x *ℤ q.d ≡ q.x *ℤ p.d → SamePoint p q
same_rational s p q h e f g =
    let k = on_line s p q e f in
    let z : q.x *ℤ p.d -ℤ p.x *ℤ q.d ≡ pos 0 = omega (arith, signed) in
    let m : (s.b.x -ℤ s.a.x) *ℤ (q.y *ℤ p.d -ℤ p.y *ℤ q.d) ≡ pos 0 = no_rest (s.b.x -ℤ s.a.x) (q.y *ℤ p.d -ℤ p.y *ℤ q.d) (s.b.y -ℤ s.a.y) (rw z at k) in
    let n = no_zero_divisor (s.b.x -ℤ s.a.x) (q.y *ℤ p.d -ℤ p.y *ℤ q.d) m (omega (arith, signed)) in
    (g, omega (arith, signed))
  where
    no_rest : (a b c : ℤ) → a *ℤ b -ℤ c *ℤ pos 0 ≡ pos 0 → a *ℤ b ≡ pos 0
    no_rest a b c e = let f = *ℤ-zero c in omega (arith, signed)

crowded : (a b x d : ℤ) → pos 0 <ℤ d → a <ℤ b → (b *ℤ d) ≤ℤ x → x ≤ℤ (a *ℤ d) → ⊥
crowded a b x d hd h k l =
    let w = simp multiplied at (mul_positive (b -ℤ a) d (omega (arith, signed)) hd) in
    omega (arith, signed)

pub in_span : (s : Segment) (q : RationalPoint) → s.a.x <ℤ s.b.x → IsOn q s → ((s.a.x *ℤ q.d) ≤ℤ q.x) × (q.x ≤ℤ (s.b.x *ℤ q.d))
in_span s q h on =
    ⊎_elim
    (λ (g : ((s.a.x *ℤ q.d) ≤ℤ q.x) × (q.x ≤ℤ (s.b.x *ℤ q.d))). g)
    (λ (g : ((s.b.x *ℤ q.d) ≤ℤ q.x) × (q.x ≤ℤ (s.a.x *ℤ q.d))). absurd (crowded s.a.x s.b.x q.x q.d q.whole h g.0 g.1))
    on.across

pub line_apart : (s t : Segment) (q : RationalPoint) → s.a.x <ℤ s.b.x → t.a.x <ℤ t.b.x → s.b.x <ℤ t.a.x → IsShared s t q → ⊥
line_apart s t q hs ht h on =
    let i = in_span s q hs on.0 in
    let j = in_span t q ht on.1 in
    crowded s.b.x t.a.x q.x q.d q.whole h j.0 i.1

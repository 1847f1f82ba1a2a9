-- A point on a segment divides it: the points of the two parts are those of the whole.
use Rattle.std.proofs.Common.{◌≡◌, ◌≢◌, sym, ◌∙◌, ap, arith, ℤ, pos, ◌-ℤ◌, ◌*ℤ◌, ◌<ℤ◌, ◌≤ℤ◌, ◌⊎◌, inl, inr, ⊎_elim}
use Rattle.std.specs.Prelude.{neg_ℤ}
use Rattle.topo_base.specs.Point.{Point}
use Rattle.topo_base.specs.RationalPoint.{RationalPoint, rational, IsBetween}
use Rattle.plane.specs.Segment.{Segment}
use Rattle.plane.specs.RationalTests.{IsOn, area_at}
use Rattle.plane.specs.Relation.{IsProper}
use Rattle.plane.proofs.Ring.{multiplied, signed, mul_comm}
use Rattle.plane.proofs.Signs.{mul_le, mul_not_negative, mul_positive, no_zero_divisor, order}
use Rattle.plane.proofs.Points.{point_straight, point_across, point_upward}
use Rattle.plane.proofs.Reaching.{apart_in}
use Rattle.plane.proofs.Collinear.{on_round}

-- ---- what is parallel to one direction
parallel : (ux uy vx vy wx wy : ℤ) → (ux ≢ pos 0) ⊎ (uy ≢ pos 0) → ux *ℤ vy ≡ uy *ℤ vx → ux *ℤ wy ≡ uy *ℤ wx → vx *ℤ wy -ℤ vy *ℤ wx ≡ pos 0
parallel ux uy vx vy wx wy apart e f =
    ⊎_elim
    (λ (h : ux ≢ pos 0). no_zero_divisor ux (vx *ℤ wy -ℤ vy *ℤ wx) by_x h)
    (λ (h : uy ≢ pos 0). no_zero_divisor uy (vx *ℤ wy -ℤ vy *ℤ wx) by_y h)
    apart
  where
    by_x : ux *ℤ (vx *ℤ wy -ℤ vy *ℤ wx) ≡ pos 0
    by_x =
        let k = simp multiplied at (ap (λ z. vx *ℤ z) f) in
        let l = simp multiplied at (ap (λ z. wx *ℤ z) e) in
        simp multiplied (omega (arith, signed))

    by_y : uy *ℤ (vx *ℤ wy -ℤ vy *ℤ wx) ≡ pos 0
    by_y =
        let k = simp multiplied at (ap (λ z. vy *ℤ z) f) in
        let l = simp multiplied at (ap (λ z. wy *ℤ z) e) in
        simp multiplied (omega (arith, signed))

-- ---- between, by a product
square_not_negative : (a : ℤ) → pos 0 ≤ℤ (a *ℤ a)
square_not_negative a =
    ⊎_elim
    (λ (h : a <ℤ pos 0). let k = simp multiplied at (mul_not_negative (neg_ℤ a) (neg_ℤ a) (omega (arith, signed)) (omega (arith, signed))) in omega (arith, signed))
    (λ (h : pos 0 ≤ℤ a). mul_not_negative a a h h)
    (order a (pos 0))

square_positive : (a : ℤ) → a ≢ pos 0 → pos 0 <ℤ (a *ℤ a)
square_positive a apart =
    let s = square_not_negative a in
    ⊎_elim
    (λ (h : pos 0 <ℤ (a *ℤ a)). h)
    (λ (h : (a *ℤ a) ≤ℤ pos 0). let e : a *ℤ a ≡ pos 0 = omega (arith, signed) in absurd (apart (no_zero_divisor a a e apart)))
    (order (pos 0) (a *ℤ a))

factor_not_negative : (a b : ℤ) → pos 0 <ℤ a → pos 0 ≤ℤ (a *ℤ b) → pos 0 ≤ℤ b
factor_not_negative a b ha h =
    ⊎_elim
    (λ (g : b <ℤ pos 0). let w = simp multiplied at (mul_positive a (neg_ℤ b) ha (omega (arith, signed))) in absurd (omega (arith, signed)))
    (λ (g : pos 0 ≤ℤ b). g)
    (order b (pos 0))

flipped : (a m b : ℤ) → (a -ℤ m) *ℤ (m -ℤ b) ≡ (m -ℤ a) *ℤ (b -ℤ m)
flipped a m b = simp multiplied (omega (arith, signed))

between_product : (a m b : ℤ) → IsBetween a m b → pos 0 ≤ℤ ((m -ℤ a) *ℤ (b -ℤ m))
between_product a m b =
    ⊎_elim
    (λ (h : (a ≤ℤ m) × (m ≤ℤ b)). mul_not_negative (m -ℤ a) (b -ℤ m) (omega (arith, signed)) (omega (arith, signed)))
    (λ (h : (b ≤ℤ m) × (m ≤ℤ a)). rw (← flipped a m b) (mul_not_negative (a -ℤ m) (m -ℤ b) (omega (arith, signed)) (omega (arith, signed))))

signs : (x y : ℤ) → pos 0 ≤ℤ (x *ℤ y) → ((pos 0 ≤ℤ x) × (pos 0 ≤ℤ y)) ⊎ ((x ≤ℤ pos 0) × (y ≤ℤ pos 0))
signs x y h =
    ⊎_elim
    (λ (hx : x <ℤ pos 0).
    ⊎_elim
    (λ (hy : pos 0 <ℤ y). let w = simp multiplied at (mul_positive (neg_ℤ x) y (omega (arith, signed)) hy) in absurd (omega (arith, signed)))
    (λ (hy : y ≤ℤ pos 0). inr (omega (arith, signed), hy))
    (order (pos 0) y))
    (λ (hx : pos 0 ≤ℤ x).
    ⊎_elim
    (λ (hy : y <ℤ pos 0).
    ⊎_elim
    (λ (gx : pos 0 <ℤ x). let w = simp multiplied at (mul_positive x (neg_ℤ y) gx (omega (arith, signed))) in absurd (omega (arith, signed)))
    (λ (gx : x ≤ℤ pos 0). inr (gx, omega (arith, signed)))
    (order (pos 0) x))
    (λ (hy : pos 0 ≤ℤ y). inl (hx, hy))
    (order y (pos 0)))
    (order x (pos 0))

product_between : (a m b : ℤ) → pos 0 ≤ℤ ((m -ℤ a) *ℤ (b -ℤ m)) → IsBetween a m b
product_between a m b h =
    ⊎_elim
    (λ (g : (pos 0 ≤ℤ (m -ℤ a)) × (pos 0 ≤ℤ (b -ℤ m))). inl (omega (arith, signed), omega (arith, signed)))
    (λ (g : ((m -ℤ a) ≤ℤ pos 0) × ((b -ℤ m) ≤ℤ pos 0)). inr (omega (arith, signed), omega (arith, signed)))
    (signs (m -ℤ a) (b -ℤ m) h)

regrouped : (u y z : ℤ) → (u *ℤ y) *ℤ (u *ℤ z) ≡ (u *ℤ u) *ℤ (y *ℤ z)
regrouped u y z = simp multiplied

-- two ways along one direction, of one sign in x, are of one sign in y
one_sign : (ux uy x1 x2 y1 y2 : ℤ) → ux ≢ pos 0 → ux *ℤ y1 ≡ uy *ℤ x1 → ux *ℤ y2 ≡ uy *ℤ x2 → pos 0 ≤ℤ (x1 *ℤ x2) → pos 0 ≤ℤ (y1 *ℤ y2)
one_sign ux uy x1 x2 y1 y2 apart e f h =
    let same : (ux *ℤ ux) *ℤ (y1 *ℤ y2) ≡ (uy *ℤ uy) *ℤ (x1 *ℤ x2) = sym (regrouped ux y1 y2) ∙ cc (e, f) ∙ regrouped uy x1 x2 in
    let k = mul_not_negative (uy *ℤ uy) (x1 *ℤ x2) (square_not_negative uy) h in
    factor_not_negative (ux *ℤ ux) (y1 *ℤ y2) (square_positive ux apart) (rw same k)

carried : (ux uy a q p a' q' p' : ℤ) → ux ≢ pos 0 → ux *ℤ (q' -ℤ a') ≡ uy *ℤ (q -ℤ a) → ux *ℤ (p' -ℤ q') ≡ uy *ℤ (p -ℤ q) → IsBetween a q p → IsBetween a' q' p'
carried ux uy a q p a' q' p' apart e f h =
    product_between a' q' p' (one_sign ux uy (q -ℤ a) (p -ℤ q) (q' -ℤ a') (p' -ℤ q') apart e f (between_product a q p h))

-- ---- on one axis
scaled : (a p b d : ℤ) → pos 0 <ℤ d → IsBetween a p b → IsBetween (a *ℤ d) (p *ℤ d) (b *ℤ d)
scaled a p b d hd =
    let d' : pos 0 ≤ℤ d = omega (arith, signed) in
    ⊎_elim
    (λ (h : (a ≤ℤ p) × (p ≤ℤ b)). inl (mul_le a p d h.0 d', mul_le p b d h.1 d'))
    (λ (h : (b ≤ℤ p) × (p ≤ℤ a)). inr (mul_le b p d h.0 d', mul_le p a d h.1 d'))

divided : (a p b q : ℤ) → IsBetween a p b → IsBetween a q b → IsBetween a q p ⊎ IsBetween p q b
divided a p b q hp hq =
    ⊎_elim
    (λ (h : (a ≤ℤ p) × (p ≤ℤ b)).
    ⊎_elim
    (λ (g : (a ≤ℤ q) × (q ≤ℤ b)). ⊎_elim (λ (l : q <ℤ p). inl (inl (g.0, omega (arith, signed)))) (λ (l : p ≤ℤ q). inr (inl (l, g.1))) (order q p))
    (λ (g : (b ≤ℤ q) × (q ≤ℤ a)). inl (inl (omega (arith, signed), omega (arith, signed))))
    hq)
    (λ (h : (b ≤ℤ p) × (p ≤ℤ a)).
    ⊎_elim
    (λ (g : (a ≤ℤ q) × (q ≤ℤ b)). inl (inl (omega (arith, signed), omega (arith, signed))))
    (λ (g : (b ≤ℤ q) × (q ≤ℤ a)). ⊎_elim (λ (l : q <ℤ p). inr (inr (g.0, omega (arith, signed)))) (λ (l : p ≤ℤ q). inl (inr (l, g.1))) (order q p))
    hq)
    hp

longer : (a p b q : ℤ) → IsBetween a p b → IsBetween a q p → IsBetween a q b
longer a p b q hp hq =
    ⊎_elim
    (λ (h : (a ≤ℤ p) × (p ≤ℤ b)).
    ⊎_elim
    (λ (g : (a ≤ℤ q) × (q ≤ℤ p)). inl (g.0, omega (arith, signed)))
    (λ (g : (p ≤ℤ q) × (q ≤ℤ a)). inl (omega (arith, signed), omega (arith, signed)))
    hq)
    (λ (h : (b ≤ℤ p) × (p ≤ℤ a)).
    ⊎_elim
    (λ (g : (a ≤ℤ q) × (q ≤ℤ p)). inr (omega (arith, signed), omega (arith, signed)))
    (λ (g : (p ≤ℤ q) × (q ≤ℤ a)). inr (omega (arith, signed), g.1))
    hq)
    hp

-- ---- ways from p to q, from q to p and to b, along the direction u
level : (m n : ℤ) → m -ℤ n ≡ pos 0 → m ≡ n
level m n e = omega (arith, signed)

to_p : (ux uy ax ay px py qx qy d : ℤ) → ux *ℤ (py -ℤ ay) ≡ uy *ℤ (px -ℤ ax) → ux *ℤ (qy -ℤ ay *ℤ d) ≡ uy *ℤ (qx -ℤ ax *ℤ d) → ux *ℤ (py *ℤ d -ℤ qy) ≡ uy *ℤ (px *ℤ d -ℤ qx)
to_p ux uy ax ay px py qx qy d e f =
    let k = simp multiplied at (ap (λ z. z *ℤ d) e) in
    let l = simp multiplied at f in
    simp multiplied (omega (arith, signed))

from_p : (ux uy ax ay px py qx qy d : ℤ) → ux *ℤ (py -ℤ ay) ≡ uy *ℤ (px -ℤ ax) → ux *ℤ (qy -ℤ ay *ℤ d) ≡ uy *ℤ (qx -ℤ ax *ℤ d) → ux *ℤ (qy -ℤ py *ℤ d) ≡ uy *ℤ (qx -ℤ px *ℤ d)
from_p ux uy ax ay px py qx qy d e f =
    let k = simp multiplied at (ap (λ z. z *ℤ d) e) in
    let l = simp multiplied at f in
    simp multiplied (omega (arith, signed))

to_b : (ax ay bx by qx qy d : ℤ) → (bx -ℤ ax) *ℤ (qy -ℤ ay *ℤ d) ≡ (by -ℤ ay) *ℤ (qx -ℤ ax *ℤ d) → (bx -ℤ ax) *ℤ (by *ℤ d -ℤ qy) ≡ (by -ℤ ay) *ℤ (bx *ℤ d -ℤ qx)
to_b ax ay bx by qx qy d f = let l = simp multiplied at f in simp multiplied (omega (arith, signed))

p_to_b : (ax ay bx by px py : ℤ) → (bx -ℤ ax) *ℤ (py -ℤ ay) ≡ (by -ℤ ay) *ℤ (px -ℤ ax) → (bx -ℤ ax) *ℤ (by -ℤ py) ≡ (by -ℤ ay) *ℤ (bx -ℤ px)
p_to_b ax ay bx by px py e = let l = simp multiplied at e in simp multiplied (omega (arith, signed))

not_one : (a b : ℤ) → a ≢ b → b -ℤ a ≢ pos 0
not_one a b h e = h (omega (arith, signed))

direction_apart : (a b : Point) → IsProper (record { a = a; b = b }) → (b.x -ℤ a.x ≢ pos 0) ⊎ (b.y -ℤ a.y ≢ pos 0)
direction_apart a b proper =
    ⊎_elim
    (λ (h : a.x ≢ b.x). inl (not_one a.x b.x h))
    (λ (h : a.y ≢ b.y). inr (not_one a.y b.y h))
    (apart_in (record { a = a; b = b }) proper)

-- a point of the whole is on one of the parts
pub part_on : (a b p : Point) (q : RationalPoint) → IsProper (record { a = a; b = b }) → IsOn (rational p) (record { a = a; b = b })
    → IsOn q (record { a = a; b = b }) → IsOn q (record { a = a; b = p }) ⊎ IsOn q (record { a = p; b = b })
part_on a b p q proper hp hq =
    let s : Segment = record { a = a; b = b } in
    let ux = b.x -ℤ a.x in
    let uy = b.y -ℤ a.y in
    let apart = direction_apart a b proper in
    let e : ux *ℤ (p.y -ℤ a.y) ≡ uy *ℤ (p.x -ℤ a.x) = level (ux *ℤ (p.y -ℤ a.y)) (uy *ℤ (p.x -ℤ a.x)) (point_straight s p hp) in
    let f : ux *ℤ (q.y -ℤ a.y *ℤ q.d) ≡ uy *ℤ (q.x -ℤ a.x *ℤ q.d) = level (ux *ℤ (q.y -ℤ a.y *ℤ q.d)) (uy *ℤ (q.x -ℤ a.x *ℤ q.d)) hq.straight in
    let back = to_p ux uy a.x a.y p.x p.y q.x q.y q.d e f in
    let on = from_p ux uy a.x a.y p.x p.y q.x q.y q.d e f in
    let end = to_b a.x a.y b.x b.y q.x q.y q.d f in
    let first : area_at a p q ≡ pos 0 = parallel ux uy (p.x -ℤ a.x) (p.y -ℤ a.y) (q.x -ℤ a.x *ℤ q.d) (q.y -ℤ a.y *ℤ q.d) apart e f in
    let second : area_at p b q ≡ pos 0 =
    parallel ux uy (b.x -ℤ p.x) (b.y -ℤ p.y) (q.x -ℤ p.x *ℤ q.d) (q.y -ℤ p.y *ℤ q.d) apart (p_to_b a.x a.y b.x b.y p.x p.y e) on
    in
    ⊎_elim
    (λ (h : ux ≢ pos 0).
    ⊎_elim
    (λ (g : IsBetween (a.x *ℤ q.d) q.x (p.x *ℤ q.d)).
    inl (record { straight = first; across = g; upward = carried ux uy (a.x *ℤ q.d) q.x (p.x *ℤ q.d) (a.y *ℤ q.d) q.y (p.y *ℤ q.d) h f back g }))
    (λ (g : IsBetween (p.x *ℤ q.d) q.x (b.x *ℤ q.d)).
    inr (record { straight = second; across = g; upward = carried ux uy (p.x *ℤ q.d) q.x (b.x *ℤ q.d) (p.y *ℤ q.d) q.y (b.y *ℤ q.d) h on end g }))
    (divided (a.x *ℤ q.d) (p.x *ℤ q.d) (b.x *ℤ q.d) q.x (scaled a.x p.x b.x q.d q.whole (point_across s p hp)) hq.across))
    (λ (h : uy ≢ pos 0).
    ⊎_elim
    (λ (g : IsBetween (a.y *ℤ q.d) q.y (p.y *ℤ q.d)).
    inl (record { straight = first; across = carried uy ux (a.y *ℤ q.d) q.y (p.y *ℤ q.d) (a.x *ℤ q.d) q.x (p.x *ℤ q.d) h (sym f) (sym back) g; upward = g }))
    (λ (g : IsBetween (p.y *ℤ q.d) q.y (b.y *ℤ q.d)).
    inr (record { straight = second; across = carried uy ux (p.y *ℤ q.d) q.y (b.y *ℤ q.d) (p.x *ℤ q.d) q.x (b.x *ℤ q.d) h (sym on) (sym end) g; upward = g }))
    (divided (a.y *ℤ q.d) (p.y *ℤ q.d) (b.y *ℤ q.d) q.y (scaled a.y p.y b.y q.d q.whole (point_upward s p hp)) hq.upward))
    apart

-- a point of the first part is on the whole
pub first_on : (a b p : Point) (q : RationalPoint) → IsProper (record { a = a; b = p }) → IsOn (rational p) (record { a = a; b = b })
    → IsOn q (record { a = a; b = p }) → IsOn q (record { a = a; b = b })
first_on a b p q proper hp hq =
    let s : Segment = record { a = a; b = b } in
    let vx = p.x -ℤ a.x in
    let vy = p.y -ℤ a.y in
    let e : (b.x -ℤ a.x) *ℤ vy ≡ (b.y -ℤ a.y) *ℤ vx = level ((b.x -ℤ a.x) *ℤ vy) ((b.y -ℤ a.y) *ℤ vx) (point_straight s p hp) in
    let f : vx *ℤ (q.y -ℤ a.y *ℤ q.d) ≡ vy *ℤ (q.x -ℤ a.x *ℤ q.d) = level (vx *ℤ (q.y -ℤ a.y *ℤ q.d)) (vy *ℤ (q.x -ℤ a.x *ℤ q.d)) hq.straight in
    record {
      straight = parallel vx vy (b.x -ℤ a.x) (b.y -ℤ a.y) (q.x -ℤ a.x *ℤ q.d) (q.y -ℤ a.y *ℤ q.d) (direction_apart a p proper) (turned (b.x -ℤ a.x) (b.y -ℤ a.y) vx vy e) f;
      across = longer (a.x *ℤ q.d) (p.x *ℤ q.d) (b.x *ℤ q.d) q.x (scaled a.x p.x b.x q.d q.whole (point_across s p hp)) hq.across;
      upward = longer (a.y *ℤ q.d) (p.y *ℤ q.d) (b.y *ℤ q.d) q.y (scaled a.y p.y b.y q.d q.whole (point_upward s p hp)) hq.upward;
    }
  where
    turned : (ux uy wx wy : ℤ) → ux *ℤ wy ≡ uy *ℤ wx → wx *ℤ uy ≡ wy *ℤ ux
    turned ux uy wx wy e = mul_comm wx uy ∙ sym e ∙ mul_comm ux wy

-- and so is a point of the second
pub second_on : (a b p : Point) (q : RationalPoint) → IsProper (record { a = p; b = b }) → IsOn (rational p) (record { a = a; b = b })
    → IsOn q (record { a = p; b = b }) → IsOn q (record { a = a; b = b })
second_on a b p q proper hp hq =
    let other : IsProper (record { a = b; b = p }) = λ e f. proper (sym e) (sym f) in
    on_round (record { a = b; b = a }) q
    (first_on b a p q other (on_round (record { a = a; b = b }) (rational p) hp) (on_round (record { a = p; b = b }) q hq))

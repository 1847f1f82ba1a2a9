-- A point of a segment divides it into two parts.
use Rattle.std.proofs.Common.{◌≡◌, ◌≢◌, refl, ap, arith, ℤ, pos, ◌-ℤ◌, ◌*ℤ◌, ◌<ℤ◌, ◌≤ℤ◌, ◌⊎◌, inl, inr, ⊎_elim}
use Rattle.std.proofs.Math.IntN.{*ℤ-zero}
use Rattle.topo_base.specs.Point.{Point}
use Rattle.topo_base.specs.RationalPoint.{RationalPoint, rational, IsAt, IsBetween}
use Rattle.plane.specs.Segment.{Segment}
use Rattle.plane.specs.RationalTests.{IsOn, area_at}
use Rattle.plane.specs.Relation.{IsProper}
use Rattle.plane.proofs.Ring.{multiplied, signed}
use Rattle.plane.proofs.Signs.{mul_le, no_zero_divisor, order}
use Rattle.plane.proofs.Points.{point_straight, point_across, point_upward}
use Rattle.plane.proofs.Collinear.{round, on_round}
use Rattle.plane.proofs.TouchTests.{IsPoint, point_or_proper}
use Rattle.plane.proofs.Middle.{equal_or_not}

abbrev pub segment : Point → Point → Segment
segment a b = record { a = a; b = b }

-- u, v and w are parallel, and u is not zero
along_x : (ux uy vx vy wx wy : ℤ) → ux *ℤ wy ≡ uy *ℤ wx → vx *ℤ uy ≡ vy *ℤ ux → ux *ℤ (vx *ℤ wy -ℤ vy *ℤ wx) ≡ pos 0
along_x ux uy vx vy wx wy e f =
    let g = simp multiplied at (ap (λ k. vx *ℤ k) e) in
    let h = simp multiplied at (ap (λ k. k *ℤ wx) f) in
    simp multiplied (omega (arith, signed))

along_y : (ux uy vx vy wx wy : ℤ) → ux *ℤ wy ≡ uy *ℤ wx → vx *ℤ uy ≡ vy *ℤ ux → uy *ℤ (vx *ℤ wy -ℤ vy *ℤ wx) ≡ pos 0
along_y ux uy vx vy wx wy e f =
    let g = simp multiplied at (ap (λ k. vy *ℤ k) e) in
    let h = simp multiplied at (ap (λ k. k *ℤ wy) f) in
    simp multiplied (omega (arith, signed))

nothing : (vx vy wx wy : ℤ) → wx ≡ pos 0 → wy ≡ pos 0 → vx *ℤ wy -ℤ vy *ℤ wx ≡ pos 0
nothing vx vy wx wy e f = rw (e, f, *ℤ-zero vx, *ℤ-zero vy) refl

along : (ux uy vx vy wx wy : ℤ) → (ux ≢ pos 0) ⊎ (uy ≢ pos 0) → ux *ℤ wy ≡ uy *ℤ wx → vx *ℤ uy ≡ vy *ℤ ux → vx *ℤ wy -ℤ vy *ℤ wx ≡ pos 0
along ux uy vx vy wx wy some e f =
    ⊎_elim
    (λ (h : ux ≢ pos 0). no_zero_divisor ux (vx *ℤ wy -ℤ vy *ℤ wx) (along_x ux uy vx vy wx wy e f) h)
    (λ (h : uy ≢ pos 0). no_zero_divisor uy (vx *ℤ wy -ℤ vy *ℤ wx) (along_y ux uy vx vy wx wy e f) h)
    some

-- between a and m, which is between a and b
between_part : (a m b d x : ℤ) → pos 0 <ℤ d → IsBetween a m b → IsBetween (a *ℤ d) x (m *ℤ d) → IsBetween (a *ℤ d) x (b *ℤ d)
between_part a m b d x hd h k =
    ⊎_elim
    (λ (g : (a ≤ℤ m) × (m ≤ℤ b)).
    let lo = mul_le a m d g.0 (omega (arith, signed)) in
    let hi = mul_le m b d g.1 (omega (arith, signed)) in
    ⊎_elim
    (λ (l : ((a *ℤ d) ≤ℤ x) × (x ≤ℤ (m *ℤ d))). inl (l.0, omega (arith, signed)))
    (λ (l : ((m *ℤ d) ≤ℤ x) × (x ≤ℤ (a *ℤ d))). inl (omega (arith, signed), omega (arith, signed)))
    k)
    (λ (g : (b ≤ℤ m) × (m ≤ℤ a)).
    let lo = mul_le b m d g.0 (omega (arith, signed)) in
    let hi = mul_le m a d g.1 (omega (arith, signed)) in
    ⊎_elim
    (λ (l : ((a *ℤ d) ≤ℤ x) × (x ≤ℤ (m *ℤ d))). inr (omega (arith, signed), omega (arith, signed)))
    (λ (l : ((m *ℤ d) ≤ℤ x) × (x ≤ℤ (a *ℤ d))). inr (omega (arith, signed), l.1))
    k)
    h

-- between a and m, and between m and b
between_both : (a m b d x : ℤ) → pos 0 <ℤ d → IsBetween a m b → IsBetween (a *ℤ d) x (m *ℤ d) → IsBetween (m *ℤ d) x (b *ℤ d) → x ≡ m *ℤ d
between_both a m b d x hd h k l =
    ⊎_elim
    (λ (g : (a ≤ℤ m) × (m ≤ℤ b)). up (a *ℤ d) (m *ℤ d) (b *ℤ d) x (mul_le a m d g.0 (omega (arith, signed))) (mul_le m b d g.1 (omega (arith, signed))) k l)
    (λ (g : (b ≤ℤ m) × (m ≤ℤ a)). down (a *ℤ d) (m *ℤ d) (b *ℤ d) x (mul_le b m d g.0 (omega (arith, signed))) (mul_le m a d g.1 (omega (arith, signed))) k l)
    h
  where
    up : (a m b x : ℤ) → a ≤ℤ m → m ≤ℤ b → IsBetween a x m → IsBetween m x b → x ≡ m
    up a m b x h k f g =
        ⊎_elim
        (λ (i : (a ≤ℤ x) × (x ≤ℤ m)). ⊎_elim (λ (j : (m ≤ℤ x) × (x ≤ℤ b)). omega (arith, signed)) (λ (j : (b ≤ℤ x) × (x ≤ℤ m)). omega (arith, signed)) g)
        (λ (i : (m ≤ℤ x) × (x ≤ℤ a)). omega (arith, signed))
        f

    down : (a m b x : ℤ) → b ≤ℤ m → m ≤ℤ a → IsBetween a x m → IsBetween m x b → x ≡ m
    down a m b x h k f g =
        ⊎_elim
        (λ (i : (a ≤ℤ x) × (x ≤ℤ m)). omega (arith, signed))
        (λ (i : (m ≤ℤ x) × (x ≤ℤ a)). ⊎_elim (λ (j : (m ≤ℤ x) × (x ≤ℤ b)). omega (arith, signed)) (λ (j : (b ≤ℤ x) × (x ≤ℤ m)). omega (arith, signed)) g)
        f

squeezed : (a x d : ℤ) → IsBetween (a *ℤ d) x (a *ℤ d) → x -ℤ a *ℤ d ≡ pos 0
squeezed a x d = ⊎_elim (λ (h : ((a *ℤ d) ≤ℤ x) × (x ≤ℤ (a *ℤ d))). omega (arith, signed)) (λ (h : ((a *ℤ d) ≤ℤ x) × (x ≤ℤ (a *ℤ d))). omega (arith, signed))

part_straight : (a b p : Point) (q : RationalPoint) → IsOn (rational p) (segment a b) → IsOn q (segment a p) → area_at a b q ≡ pos 0
part_straight a b p q on h =
    let flat = point_straight (segment a b) p on in
    let straight = h.straight in
    let e : (p.x -ℤ a.x) *ℤ (q.y -ℤ a.y *ℤ q.d) ≡ (p.y -ℤ a.y) *ℤ (q.x -ℤ a.x *ℤ q.d) = omega (arith, signed) in
    let f : (b.x -ℤ a.x) *ℤ (p.y -ℤ a.y) ≡ (b.y -ℤ a.y) *ℤ (p.x -ℤ a.x) = omega (arith, signed) in
    ⊎_elim
    (λ (same : IsPoint (segment a p)).
    nothing (b.x -ℤ a.x) (b.y -ℤ a.y) (q.x -ℤ a.x *ℤ q.d) (q.y -ℤ a.y *ℤ q.d)
    (squeezed a.x q.x q.d (rw (← same.0) at h.across)) (squeezed a.y q.y q.d (rw (← same.1) at h.upward)))
    (λ (proper : IsProper (segment a p)).
    along (p.x -ℤ a.x) (p.y -ℤ a.y) (b.x -ℤ a.x) (b.y -ℤ a.y) (q.x -ℤ a.x *ℤ q.d) (q.y -ℤ a.y *ℤ q.d) (some a.x a.y p.x p.y proper) e f)
    (point_or_proper (segment a p))
  where
    some : (ax ay px py : ℤ) → (ax ≡ px → ay ≢ py) → ((px -ℤ ax) ≢ pos 0) ⊎ ((py -ℤ ay) ≢ pos 0)
    some ax ay px py h =
        ⊎_elim
        (λ (e : ax ≡ px). let k = h e in inr (omega (arith, signed)))
        (λ (e : ax ≢ px). inl (omega (arith, signed)))
        (equal_or_not ax px)

-- a part is in the segment
pub in_first : (a b p : Point) (q : RationalPoint) → IsOn (rational p) (segment a b) → IsOn q (segment a p) → IsOn q (segment a b)
in_first a b p q on h = record {
  straight = part_straight a b p q on h;
  across = between_part a.x p.x b.x q.d q.x q.whole (point_across (segment a b) p on) h.across;
  upward = between_part a.y p.y b.y q.d q.y q.whole (point_upward (segment a b) p on) h.upward;
}

pub in_second : (a b p : Point) (q : RationalPoint) → IsOn (rational p) (segment a b) → IsOn q (segment p b) → IsOn q (segment a b)
in_second a b p q on h = on_round (segment b a) q (in_first b a p q (on_round (segment a b) (rational p) on) (on_round (segment p b) q h))

-- the parts have p in common alone
pub in_both : (a b p : Point) (q : RationalPoint) → IsOn (rational p) (segment a b) → IsOn q (segment a p) → IsOn q (segment p b) → IsAt p q
in_both a b p q on h k = (
  between_both a.x p.x b.x q.d q.x q.whole (point_across (segment a b) p on) h.across k.across,
  between_both a.y p.y b.y q.d q.y q.whole (point_upward (segment a b) p on) h.upward k.upward,
)

-- an end is on the segment
between_start : (a b d x : ℤ) → pos 0 <ℤ d → x ≡ a *ℤ d → IsBetween (a *ℤ d) x (b *ℤ d)
between_start a b d x hd is =
    ⊎_elim
    (λ (h : a <ℤ b). let k = mul_le a b d (omega (arith, signed)) (omega (arith, signed)) in inl (omega (arith, signed), omega (arith, signed)))
    (λ (h : b ≤ℤ a). let k = mul_le b a d h (omega (arith, signed)) in inr (omega (arith, signed), omega (arith, signed)))
    (order a b)

pub start_on : (s : Segment) (q : RationalPoint) → IsAt s.a q → IsOn q s
start_on s q h = record {
  straight = nothing (s.b.x -ℤ s.a.x) (s.b.y -ℤ s.a.y) (q.x -ℤ s.a.x *ℤ q.d) (q.y -ℤ s.a.y *ℤ q.d) (none_left q.x (s.a.x *ℤ q.d) h.0) (none_left q.y (s.a.y *ℤ q.d) h.1);
  across = between_start s.a.x s.b.x q.d q.x q.whole h.0;
  upward = between_start s.a.y s.b.y q.d q.y q.whole h.1;
}
  where
    none_left : (x y : ℤ) → x ≡ y → x -ℤ y ≡ pos 0
    none_left x y e = omega (arith, signed)

pub end_on : (s : Segment) (q : RationalPoint) → IsAt s.b q → IsOn q s
end_on s q h = on_round (round s) q (start_on (round s) q h)

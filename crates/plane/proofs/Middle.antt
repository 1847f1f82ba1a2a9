-- Three different points where a segment, or two segments, have two.
use Rattle.std.proofs.Common.{◌≡◌, ◌≢◌, sym, ◌∙◌, arith, ℤ, pos, ◌+ℤ◌, ◌-ℤ◌, ◌*ℤ◌, ◌<ℤ◌, ◌≤ℤ◌, ◌⊎◌, inl, inr, ⊎_elim}
use Rattle.std.proofs.Math.IntN.{*ℤ-zero}
use Rattle.topo_base.specs.Point.{Point}
use Rattle.topo_base.specs.RationalPoint.{RationalPoint, rational, IsAt, SamePoint, IsBetween}
use Rattle.plane.specs.Segment.{Segment}
use Rattle.plane.specs.Orientation.{area}
use Rattle.plane.specs.RationalTests.{IsOn, area_at}
use Rattle.plane.specs.Relation.{IsShared, HaveMore}
use Rattle.plane.proofs.Ring.{multiplied, signed}
use Rattle.plane.proofs.Signs.{mul_le, mul_positive, order, cancel, no_zero_divisor}
use Rattle.plane.proofs.Points.{point_on}

-- c is above 0, and can be divided out
pub cancel_le : (a b c : ℤ) → pos 0 <ℤ c → (a *ℤ c) ≤ℤ (b *ℤ c) → a ≤ℤ b
cancel_le a b c hc h =
    ⊎_elim
    (λ (g : b <ℤ a). let w = simp multiplied at (mul_positive (a -ℤ b) c (omega (arith, signed)) hc) in absurd (omega (arith, signed)))
    (λ (g : a ≤ℤ b). g)
    (order b a)

cancel_between : (a m b d : ℤ) → pos 0 <ℤ d → IsBetween (a *ℤ d) (m *ℤ d) (b *ℤ d) → IsBetween a m b
cancel_between a m b d hd =
    ⊎_elim
    (λ (h : ((a *ℤ d) ≤ℤ (m *ℤ d)) × ((m *ℤ d) ≤ℤ (b *ℤ d))). inl (cancel_le a m d hd h.0, cancel_le m b d hd h.1))
    (λ (h : ((b *ℤ d) ≤ℤ (m *ℤ d)) × ((m *ℤ d) ≤ℤ (a *ℤ d))). inr (cancel_le b m d hd h.0, cancel_le m a d hd h.1))

area_times : (ax ay bx by px py d : ℤ) →
    (bx -ℤ ax) *ℤ (py *ℤ d -ℤ ay *ℤ d) -ℤ (by -ℤ ay) *ℤ (px *ℤ d -ℤ ax *ℤ d)
    ≡ d *ℤ ((bx -ℤ ax) *ℤ (py -ℤ ay) -ℤ (by -ℤ ay) *ℤ (px -ℤ ax))
area_times ax ay bx by px py d = simp multiplied (omega (arith, signed))

pub not_zero : (d : ℤ) → pos 0 <ℤ d → d ≢ pos 0
not_zero d h = omega (arith, signed)

-- a grid point at a point of a segment is on the segment
pub on_at : (p : Point) (q : RationalPoint) (s : Segment) → IsAt p q → IsOn q s → IsOn (rational p) s
on_at p q s (ex, ey) on =
    point_on s p
    (no_zero_divisor q.d (area s.a s.b p) (sym (area_times s.a.x s.a.y s.b.x s.b.y p.x p.y q.d) ∙ rw (ex, ey) at on.straight) (not_zero q.d q.whole))
    (cancel_between s.a.x p.x s.b.x q.d q.whole (rw ex at on.across))
    (cancel_between s.a.y p.y s.b.y q.d q.whole (rw ey at on.upward))

same_by : (x d y e b : ℤ) → x ≡ b *ℤ d → y ≡ b *ℤ e → x *ℤ e ≡ y *ℤ d
same_by x d y e b h k = rw (h, k) (turned b d e)
  where
    turned : (b d e : ℤ) → (b *ℤ d) *ℤ e ≡ (b *ℤ e) *ℤ d
    turned b d e = simp multiplied

-- two points at one grid point are one
pub same_at : (p : Point) (u v : RationalPoint) → IsAt p u → IsAt p v → SamePoint u v
same_at p u v h k = (same_by u.x u.d v.x v.d p.x h.0 k.0, same_by u.y u.d v.y v.d p.y h.1 k.1)

at_by : (x d z e b : ℤ) → x *ℤ e ≡ z *ℤ d → z ≡ b *ℤ e → pos 0 <ℤ e → x ≡ b *ℤ d
at_by x d z e b h k he = cancel x (b *ℤ d) e (h ∙ turned z d e b k) (not_zero e he)
  where
    turned : (z d e b : ℤ) → z ≡ b *ℤ e → z *ℤ d ≡ (b *ℤ d) *ℤ e
    turned z d e b k = rw k (simp multiplied)

-- what is the same as a point at p is at p
pub at_same : (p : Point) (u v : RationalPoint) → SamePoint u v → IsAt p v → IsAt p u
at_same p u v h k = (at_by u.x u.d v.x v.d p.x h.0 k.0 v.whole, at_by u.y u.d v.y v.d p.y h.1 k.1 v.whole)

pub same_other : (u v : RationalPoint) → SamePoint u v → SamePoint v u
same_other u v h = (sym h.0, sym h.1)

-- whether two numbers are one, and two points
pub equal_or_not : (a b : ℤ) → (a ≡ b) ⊎ (a ≢ b)
equal_or_not a b =
    ⊎_elim
    (λ (h : a <ℤ b). inr (omega (arith, signed)))
    (λ (h : b ≤ℤ a). ⊎_elim (λ (g : b <ℤ a). inr (omega (arith, signed))) (λ (g : a ≤ℤ b). inl (omega (arith, signed))) (order b a))
    (order a b)

both_or_not : (a b c d : ℤ) → ((a ≡ b) × (c ≡ d)) ⊎ ((a ≡ b) × (c ≡ d) → ⊥)
both_or_not a b c d =
    ⊎_elim
    (λ (h : a ≡ b). ⊎_elim (λ (g : c ≡ d). inl (h, g)) (λ (g : c ≢ d). inr (λ k. g k.1)) (equal_or_not c d))
    (λ (h : a ≢ b). inr (λ k. h k.0))
    (equal_or_not a b)

pub at_or_not : (p : Point) (q : RationalPoint) → IsAt p q ⊎ (IsAt p q → ⊥)
at_or_not p q = both_or_not q.x (p.x *ℤ q.d) q.y (p.y *ℤ q.d)

pub same_or_not : (u v : RationalPoint) → SamePoint u v ⊎ (SamePoint u v → ⊥)
same_or_not u v = both_or_not (u.x *ℤ v.d) (v.x *ℤ u.d) (u.y *ℤ v.d) (v.y *ℤ u.d)

-- ---- the middle of two points
twice_whole : (d e : ℤ) → pos 0 <ℤ d → pos 0 <ℤ e → pos 0 <ℤ (d *ℤ e +ℤ d *ℤ e)
twice_whole d e h k = let w = mul_positive d e h k in omega (arith, signed)

abbrev middle : RationalPoint → RationalPoint → RationalPoint
middle u v = record {
  x = u.x *ℤ v.d +ℤ v.x *ℤ u.d;
  y = u.y *ℤ v.d +ℤ v.y *ℤ u.d;
  d = u.d *ℤ v.d +ℤ u.d *ℤ v.d;
  whole = twice_whole u.d v.d u.whole v.whole;
}

area_middle : (ux uy ax ay px py d qx qy e : ℤ) →
    ux *ℤ ((py *ℤ e +ℤ qy *ℤ d) -ℤ ay *ℤ (d *ℤ e +ℤ d *ℤ e)) -ℤ uy *ℤ ((px *ℤ e +ℤ qx *ℤ d) -ℤ ax *ℤ (d *ℤ e +ℤ d *ℤ e))
    ≡ e *ℤ (ux *ℤ (py -ℤ ay *ℤ d) -ℤ uy *ℤ (px -ℤ ax *ℤ d)) +ℤ d *ℤ (ux *ℤ (qy -ℤ ay *ℤ e) -ℤ uy *ℤ (qx -ℤ ax *ℤ e))
area_middle ux uy ax ay px py d qx qy e = simp multiplied (omega (arith, signed))

no_sum : (k l p r : ℤ) → p ≡ pos 0 → r ≡ pos 0 → k *ℤ p +ℤ l *ℤ r ≡ pos 0
no_sum k l p r e f = rw (e, f, *ℤ-zero k, *ℤ-zero l)

-- between a and b, where a is at most b
pub upright_between : (a b x d : ℤ) → pos 0 <ℤ d → a ≤ℤ b → IsBetween (a *ℤ d) x (b *ℤ d) → ((a *ℤ d) ≤ℤ x) × (x ≤ℤ (b *ℤ d))
upright_between a b x d hd h m =
    let k : pos 0 ≤ℤ d = omega (arith, signed) in
    let w : (a *ℤ d) ≤ℤ (b *ℤ d) = mul_le a b d h k in
    ⊎_elim
    (λ (g : ((a *ℤ d) ≤ℤ x) × (x ≤ℤ (b *ℤ d))). g)
    (λ (g : ((b *ℤ d) ≤ℤ x) × (x ≤ℤ (a *ℤ d))). (omega (arith, signed), omega (arith, signed)))
    m

sum_above : (a x d y e : ℤ) → pos 0 <ℤ d → pos 0 <ℤ e → (a *ℤ d) ≤ℤ x → (a *ℤ e) ≤ℤ y → (a *ℤ (d *ℤ e +ℤ d *ℤ e)) ≤ℤ (x *ℤ e +ℤ y *ℤ d)
sum_above a x d y e hd he h k =
    let d' : pos 0 ≤ℤ d = omega (arith, signed) in
    let e' : pos 0 ≤ℤ e = omega (arith, signed) in
    let f = simp multiplied at (mul_le (a *ℤ d) x e h e') in
    let g = simp multiplied at (mul_le (a *ℤ e) y d k d') in
    simp multiplied (omega (arith, signed))

sum_below : (a x d y e : ℤ) → pos 0 <ℤ d → pos 0 <ℤ e → x ≤ℤ (a *ℤ d) → y ≤ℤ (a *ℤ e) → (x *ℤ e +ℤ y *ℤ d) ≤ℤ (a *ℤ (d *ℤ e +ℤ d *ℤ e))
sum_below a x d y e hd he h k =
    let d' : pos 0 ≤ℤ d = omega (arith, signed) in
    let e' : pos 0 ≤ℤ e = omega (arith, signed) in
    let f = simp multiplied at (mul_le x (a *ℤ d) e h e') in
    let g = simp multiplied at (mul_le y (a *ℤ e) d k d') in
    simp multiplied (omega (arith, signed))

turned_between : (a m b : ℤ) → IsBetween a m b → IsBetween b m a
turned_between a m b = ⊎_elim (λ (h : (a ≤ℤ m) × (m ≤ℤ b)). inr h) (λ (h : (b ≤ℤ m) × (m ≤ℤ a)). inl h)

between_middle : (a b x d y e : ℤ) → pos 0 <ℤ d → pos 0 <ℤ e → IsBetween (a *ℤ d) x (b *ℤ d) → IsBetween (a *ℤ e) y (b *ℤ e) →
    IsBetween (a *ℤ (d *ℤ e +ℤ d *ℤ e)) (x *ℤ e +ℤ y *ℤ d) (b *ℤ (d *ℤ e +ℤ d *ℤ e))
between_middle a b x d y e hd he h k =
    ⊎_elim
    (λ (g : a <ℤ b).
    let g' : a ≤ℤ b = omega (arith, signed) in
    let m = upright_between a b x d hd g' h in
    let n = upright_between a b y e he g' k in
    inl (sum_above a x d y e hd he m.0 n.0, sum_below b x d y e hd he m.1 n.1))
    (λ (g : b ≤ℤ a).
    let m = upright_between b a x d hd g (turned_between (a *ℤ d) x (b *ℤ d) h) in
    let n = upright_between b a y e he g (turned_between (a *ℤ e) y (b *ℤ e) k) in
    inr (sum_above b x d y e hd he m.0 n.0, sum_below a x d y e hd he m.1 n.1))
    (order a b)

on_middle : (s : Segment) (u v : RationalPoint) → IsOn u s → IsOn v s → IsOn (middle u v) s
on_middle s u v hu hv = record {
  straight = area_middle (s.b.x -ℤ s.a.x) (s.b.y -ℤ s.a.y) s.a.x s.a.y u.x u.y u.d v.x v.y v.d ∙ no_sum v.d u.d (area_at s.a s.b u) (area_at s.a s.b v) hu.straight hv.straight;
  across = between_middle s.a.x s.b.x u.x u.d v.x v.d u.whole v.whole hu.across hv.across;
  upward = between_middle s.a.y s.b.y u.y u.d v.y v.d u.whole v.whole hu.upward hv.upward;
}

-- where the one end of a middle is at p, and the middle too, so is the other end
second_at : (b x d y e : ℤ) → pos 0 <ℤ d → x ≡ b *ℤ d → x *ℤ e +ℤ y *ℤ d ≡ b *ℤ (d *ℤ e +ℤ d *ℤ e) → y ≡ b *ℤ e
second_at b x d y e hd h k =
    let k' = rw h at k in
    cancel y (b *ℤ e) d (halved b d y e k') (not_zero d hd)
  where
    halved : (b d y e : ℤ) → (b *ℤ d) *ℤ e +ℤ y *ℤ d ≡ b *ℤ (d *ℤ e +ℤ d *ℤ e) → y *ℤ d ≡ (b *ℤ e) *ℤ d
    halved b d y e k = let m = simp multiplied at k in simp multiplied (omega (arith, signed))

first_at : (b x d y e : ℤ) → pos 0 <ℤ e → y ≡ b *ℤ e → x *ℤ e +ℤ y *ℤ d ≡ b *ℤ (d *ℤ e +ℤ d *ℤ e) → x ≡ b *ℤ d
first_at b x d y e he h k =
    let k' = rw h at k in
    cancel x (b *ℤ d) e (halved b d x e k') (not_zero e he)
  where
    halved : (b d x e : ℤ) → x *ℤ e +ℤ (b *ℤ e) *ℤ d ≡ b *ℤ (d *ℤ e +ℤ d *ℤ e) → x *ℤ e ≡ (b *ℤ d) *ℤ e
    halved b d x e k = let m = simp multiplied at k in simp multiplied (omega (arith, signed))

middle_second : (p : Point) (u v : RationalPoint) → IsAt p u → IsAt p (middle u v) → IsAt p v
middle_second p u v h k = (second_at p.x u.x u.d v.x v.d u.whole h.0 k.0, second_at p.y u.y u.d v.y v.d u.whole h.1 k.1)

middle_first : (p : Point) (u v : RationalPoint) → IsAt p v → IsAt p (middle u v) → IsAt p u
middle_first p u v h k = (first_at p.x u.x u.d v.x v.d v.whole h.0 k.0, first_at p.y u.y u.d v.y v.d v.whole h.1 k.1)

-- a common point that is neither p nor q
abbrev pub HasOther : Segment → Segment → Point → Point → Type 0
HasOther s t p q = (r : RationalPoint) × (IsShared s t r × (IsAt p r → ⊥) × (IsAt q r → ⊥))

with_middle : (s t : Segment) (p q : Point) (u v : RationalPoint) → IsShared s t u → IsShared s t v → (SamePoint u v → ⊥) → IsAt p u → IsAt q v → HasOther s t p q
with_middle s t p q u v hu hv apart h k = (
  middle u v,
  (
    (on_middle s u v hu.0 hv.0, on_middle t u v hu.1 hv.1),
    λ m. apart (same_at p u v h (middle_second p u v h m)),
    λ m. apart (same_at q u v (middle_first q u v k m) k),
  ),
)

turned_other : (s t : Segment) (p q : Point) → HasOther s t q p → HasOther s t p q
turned_other s t p q (r, (on, f, g)) = (r, (on, g, f))

-- two segments with two common points have a third
pub another : (s t : Segment) (p q : Point) → HaveMore s t → HasOther s t p q
another s t p q (u, (v, (hu, hv, apart))) =
    ⊎_elim
    (λ (h : IsAt p u). second_p h)
    (λ (h : IsAt p u → ⊥). ⊎_elim (λ (g : IsAt q u). second_q g) (λ (g : IsAt q u → ⊥). (u, (hu, h, g))) (at_or_not q u))
    (at_or_not p u)
  where
    second_p : IsAt p u → HasOther s t p q
    second_p h =
        ⊎_elim
        (λ (g : IsAt q v). with_middle s t p q u v hu hv apart h g)
        (λ (g : IsAt q v → ⊥). (v, (hv, λ m. apart (same_at p u v h m), g)))
        (at_or_not q v)

    second_q : IsAt q u → HasOther s t p q
    second_q h =
        ⊎_elim
        (λ (g : IsAt p v). turned_other s t p q (with_middle s t q p u v hu hv apart h g))
        (λ (g : IsAt p v → ⊥). (v, (hv, g, λ m. apart (same_at q u v h m))))
        (at_or_not p v)

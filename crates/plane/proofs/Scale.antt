-- The plane made k times as large.
use Rattle.std.proofs.Common.{◌≡◌, ◌≢◌, refl, sym, ◌∙◌, ap, subst, arith, ℤ, pos, ◌-ℤ◌, ◌*ℤ◌, ◌<ℤ◌, ◌≤ℤ◌, inl, inr, ⊎_elim, Bool, not, ◌&&◌, List, [], ◌∷◌, map}
use Rattle.std.specs.Int.RustNames.{int_lt}
use Rattle.std.proofs.Math.IntN.{*ℤ-zero, zero-*ℤ}
use Rattle.plane.proofs.Diff.{diff-same}
use Rattle.plane.proofs.Ring.{multiplied, signed, mul_comm}
use Rattle.plane.proofs.Wide.{summed}
use Rattle.plane.proofs.Signs.{mul_positive, order, no_zero_divisor, mul_le}
use Rattle.plane.proofs.Probe.{test_same}
use Rattle.plane.proofs.Chain.{ClearOf, same_parity}
use Rattle.plane.proofs.Upright.{upright_parity}
use Rattle.plane.proofs.Collinear.{on_round}
use Rattle.topo_base.specs.Point.{Point}
use Rattle.topo_base.specs.RationalPoint.{RationalPoint, IsBetween}
use Rattle.plane.specs.Segment.{Segment}
use Rattle.plane.specs.RationalTests.{IsOn, area_at}
use Rattle.plane.specs.Relation.{AreApart}
use Rattle.plane.specs.Crossings.{over, over_at, larger, larger_segment, larger_spot, back, crosses, crosses_at, odd_crossings, odd_at, last_of, way, WayClear}
use Rattle.plane.specs.Parity.{xor}

area_larger : (s : Segment) (k : ℤ) (x y d : ℤ) →
    ((k *ℤ s.b.x) -ℤ (k *ℤ s.a.x)) *ℤ (y -ℤ (k *ℤ s.a.y) *ℤ d) -ℤ ((k *ℤ s.b.y) -ℤ (k *ℤ s.a.y)) *ℤ (x -ℤ (k *ℤ s.a.x) *ℤ d)
    ≡ k *ℤ ((s.b.x -ℤ s.a.x) *ℤ (y -ℤ s.a.y *ℤ (k *ℤ d)) -ℤ (s.b.y -ℤ s.a.y) *ℤ (x -ℤ s.a.x *ℤ (k *ℤ d)))
area_larger s k x y d = simp multiplied (simp summed (diff-same _ _ _ _ (omega arith)))

area_times : (s : Segment) (k x y d : ℤ) →
    (s.b.x -ℤ s.a.x) *ℤ (y *ℤ k -ℤ s.a.y *ℤ (k *ℤ d)) -ℤ (s.b.y -ℤ s.a.y) *ℤ (x *ℤ k -ℤ s.a.x *ℤ (k *ℤ d))
    ≡ k *ℤ ((s.b.x -ℤ s.a.x) *ℤ (y -ℤ s.a.y *ℤ d) -ℤ (s.b.y -ℤ s.a.y) *ℤ (x -ℤ s.a.x *ℤ d))
area_times s k x y d = simp multiplied (simp summed (diff-same _ _ _ _ (omega arith)))

swing : (k a d : ℤ) → (k *ℤ a) *ℤ d ≡ a *ℤ (k *ℤ d)
swing k a d = simp multiplied

between_larger : (k a x b d : ℤ) → IsBetween ((k *ℤ a) *ℤ d) x ((k *ℤ b) *ℤ d) → IsBetween (a *ℤ (k *ℤ d)) x (b *ℤ (k *ℤ d))
between_larger k a x b d h = rw (swing k a d, swing k b d) at h

swing_right : (k a d : ℤ) → (a *ℤ d) *ℤ k ≡ a *ℤ (k *ℤ d)
swing_right k a d = simp multiplied

between_times : (k a x b d : ℤ) → pos 0 <ℤ k → IsBetween (a *ℤ d) x (b *ℤ d) → IsBetween (a *ℤ (k *ℤ d)) (x *ℤ k) (b *ℤ (k *ℤ d))
between_times k a x b d hk h =
    let hk' : pos 0 ≤ℤ k = omega (arith, signed) in
    rw (← (swing_right k a d), ← (swing_right k b d))
    (⊎_elim
    (λ (g : ((a *ℤ d) ≤ℤ x) × (x ≤ℤ (b *ℤ d))). inl (mul_le (a *ℤ d) x k g.0 hk', mul_le x (b *ℤ d) k g.1 hk'))
    (λ (g : ((b *ℤ d) ≤ℤ x) × (x ≤ℤ (a *ℤ d))). inr (mul_le (b *ℤ d) x k g.0 hk', mul_le x (a *ℤ d) k g.1 hk'))
    h)

-- the point of the plane as it was
abbrev pub smaller_spot : (k : ℤ) → pos 0 <ℤ k → RationalPoint → RationalPoint
smaller_spot k h r = record { x = r.x; y = r.y; d = k *ℤ r.d; whole = mul_positive k r.d h r.whole }

not_zero : (k : ℤ) → pos 0 <ℤ k → k ≢ pos 0
not_zero k h = omega (arith, signed)

pub on_smaller : (k : ℤ) (h : pos 0 <ℤ k) (s : Segment) (r : RationalPoint) → IsOn r (larger_segment k s) → IsOn (smaller_spot k h r) s
on_smaller k h s r on = record {
  straight = no_zero_divisor k (area_at s.a s.b (smaller_spot k h r)) (sym (area_larger s k r.x r.y r.d) ∙ on.straight) (not_zero k h);
  across = between_larger k s.a.x r.x s.b.x r.d on.across;
  upward = between_larger k s.a.y r.y s.b.y r.d on.upward;
}

times_zero : (k z : ℤ) → z ≡ pos 0 → k *ℤ z ≡ pos 0
times_zero k z e = rw (e, *ℤ-zero k)

on_larger : (k : ℤ) (h : pos 0 <ℤ k) (t : Segment) (r : RationalPoint) → IsOn r t → IsOn (larger_spot k (smaller_spot k h r)) t
on_larger k h t r on = record {
  straight = area_times t k r.x r.y r.d ∙ times_zero k (area_at t.a t.b r) on.straight;
  across = between_times k t.a.x r.x t.b.x r.d h on.across;
  upward = between_times k t.a.y r.y t.b.y r.d h on.upward;
}

pub clear_larger : (k : ℤ) → pos 0 <ℤ k → (s t : Segment) → ((r : RationalPoint) → IsOn r s → IsOn (larger_spot k r) t → ⊥) → AreApart (larger_segment k s) t
clear_larger k h s t clear = λ r on. clear (smaller_spot k h r) (on_smaller k h s r on.0) (on_larger k h t r on.1)

-- a test is the same with both sides c times as large
test_times : (x y w c : ℤ) → pos 0 <ℤ c → w ≡ y *ℤ c → int_lt (x *ℤ c) w ≡ int_lt x y
test_times x y w c h e =
    let h' : pos 0 ≤ℤ c = omega (arith, signed) in
    test_same (x *ℤ c) w x y
    (λ f g. let k = mul_le y x c g h' in omega (arith, signed))
    (λ f g. let k = simp multiplied at (mul_positive (y -ℤ x) c (omega (arith, signed)) h) in omega (arith, signed))

times_out : (d c a : ℤ) → (d *ℤ c) *ℤ a ≡ (a *ℤ d) *ℤ c
times_out d c a = simp multiplied

area_spot : (s : Segment) (x y d c : ℤ) →
    ((d *ℤ c) *ℤ s.b.x -ℤ (d *ℤ c) *ℤ s.a.x) *ℤ (y *ℤ c -ℤ (d *ℤ c) *ℤ s.a.y) -ℤ ((d *ℤ c) *ℤ s.b.y -ℤ (d *ℤ c) *ℤ s.a.y) *ℤ (x *ℤ c -ℤ (d *ℤ c) *ℤ s.a.x)
    ≡ ((s.b.x -ℤ s.a.x) *ℤ (y -ℤ s.a.y *ℤ d) -ℤ (s.b.y -ℤ s.a.y) *ℤ (x -ℤ s.a.x *ℤ d)) *ℤ ((d *ℤ c) *ℤ c)
area_spot s x y d c = simp multiplied (simp summed (diff-same _ _ _ _ (omega arith)))

zero_out : (m : ℤ) → pos 0 ≡ pos 0 *ℤ m
zero_out m = sym (zero-*ℤ m)

abbrev pub times_point : RationalPoint → ℤ → Point
times_point p c = record { x = p.x *ℤ c; y = p.y *ℤ c }

over_larger : (c : ℤ) → pos 0 <ℤ c → (s : Segment) (p : RationalPoint) → over (larger_segment (p.d *ℤ c) s) (times_point p c) ≡ over_at s p
over_larger c h s p =
    let m : pos 0 <ℤ ((p.d *ℤ c) *ℤ c) = mul_positive (p.d *ℤ c) c (mul_positive p.d c p.whole h) h in
    three _ _ _ _ _ _
    (test_times p.x (s.a.x *ℤ p.d) ((p.d *ℤ c) *ℤ s.a.x) c h (times_out p.d c s.a.x))
    (test_times p.x (s.b.x *ℤ p.d) ((p.d *ℤ c) *ℤ s.b.x) c h (times_out p.d c s.b.x))
    (ap (λ z. int_lt z (pos 0)) (area_spot s p.x p.y p.d c) ∙ test_times (area_at s.a s.b p) (pos 0) (pos 0) ((p.d *ℤ c) *ℤ c) m (zero_out ((p.d *ℤ c) *ℤ c)))
  where
    three : (x y u x' y' u' : Bool) → x ≡ x' → y ≡ y' → u ≡ u' → not x && y && u ≡ not x' && y' && u'
    three x y u x' y' u' e f g = cc

pub crosses_larger : (c : ℤ) → pos 0 <ℤ c → (s : Segment) (p : RationalPoint) → crosses (larger_segment (p.d *ℤ c) s) (times_point p c) ≡ crosses_at s p
crosses_larger c h s p = ap (λ z. xor z (over (larger_segment (p.d *ℤ c) (back s)) (times_point p c))) (over_larger c h s p) ∙ ap (λ z. xor (over_at s p) z) (over_larger c h (back s) p)

odd_larger : (c : ℤ) → pos 0 <ℤ c → (v : Point) (ws : List Point) (p : RationalPoint) →
    odd_crossings (larger (p.d *ℤ c) v) (map (larger (p.d *ℤ c)) ws) (times_point p c) ≡ odd_at v ws p
odd_larger c h v [] p = refl
odd_larger c h v (w ∷ ws) p =
    ap (λ z. xor z (odd_crossings (larger (p.d *ℤ c) w) (map (larger (p.d *ℤ c)) ws) (times_point p c))) (crosses_larger c h (record { a = v; b = w }) p)
    ∙ ap (λ z. xor (crosses_at (record { a = v; b = w }) p) z) (odd_larger c h w ws p)

last_larger : (k : ℤ) (v : Point) (ws : List Point) → last_of (larger k v) (map (larger k) ws) ≡ larger k (last_of v ws)
last_larger k v [] = refl
last_larger k v (w ∷ ws) = last_larger k w ws

way_larger : (p q : RationalPoint) (v : Point) (ws : List Point) → WayClear p q v ws → ClearOf (way p q) (larger (p.d *ℤ q.d) v) (map (larger (p.d *ℤ q.d)) ws)
way_larger p q v [] c = tt
way_larger p q v (w ∷ ws) c =
    (clear_larger (p.d *ℤ q.d) (mul_positive p.d q.d p.whole q.whole) (record { a = v; b = w }) (way p q) c.0, way_larger p q w ws c.1)

carried : (p q : RationalPoint) (v : Point) (ws : List Point) →
    odd_crossings (larger (p.d *ℤ q.d) v) (map (larger (p.d *ℤ q.d)) ws) (way p q).a ≡ odd_crossings (larger (p.d *ℤ q.d) v) (map (larger (p.d *ℤ q.d)) ws) (way p q).b →
    odd_at v ws p ≡ odd_at v ws q
carried p q v ws e =
    let f = odd_larger q.d q.whole v ws p in
    let g = odd_larger p.d p.whole v ws q in
    sym f ∙ e ∙ ap (λ m. odd_crossings (larger m v) (map (larger m) ws) (times_point q p.d)) (mul_comm p.d q.d) ∙ g

parity_right : (p q : RationalPoint) (v : Point) (ws : List Point) → (p.x *ℤ q.d) <ℤ (q.x *ℤ p.d) → last_of v ws ≡ v → WayClear p q v ws → odd_at v ws p ≡ odd_at v ws q
parity_right p q v ws h closed clear =
    let k = p.d *ℤ q.d in
    carried p q v ws (same_parity (way p q) (larger k v) (map (larger k) ws) h (last_larger k v ws ∙ ap (larger k) closed) (way_larger p q v ws clear))

way_turned : (p q : RationalPoint) (v : Point) (ws : List Point) → WayClear p q v ws → WayClear q p v ws
way_turned p q v [] c = tt
way_turned p q v (w ∷ ws) c =
    (λ r h g. c.0 r h (on_round (way q p) (larger_spot (p.d *ℤ q.d) r) (subst (λ k. IsOn (larger_spot k r) (way q p)) (mul_comm q.d p.d) g)), way_turned p q w ws c.1)

-- two points with a way between them that meets no segment of the closed chain: the parity of the segments above them is one
pub parity_at : (p q : RationalPoint) (v : Point) (ws : List Point) → last_of v ws ≡ v → WayClear p q v ws → odd_at v ws p ≡ odd_at v ws q
parity_at p q v ws closed clear =
    ⊎_elim
    (λ (h : (p.x *ℤ q.d) <ℤ (q.x *ℤ p.d)). parity_right p q v ws h closed clear)
    (λ (h : (q.x *ℤ p.d) ≤ℤ (p.x *ℤ q.d)).
    ⊎_elim
    (λ (g : (q.x *ℤ p.d) <ℤ (p.x *ℤ q.d)). sym (parity_right q p v ws g closed (way_turned p q v ws clear)))
    (λ (g : (p.x *ℤ q.d) ≤ℤ (q.x *ℤ p.d)).
    let e : p.x *ℤ q.d ≡ q.x *ℤ p.d = omega (arith, signed) in
    carried p q v ws (upright_parity (way p q) (larger (p.d *ℤ q.d) v) (map (larger (p.d *ℤ q.d)) ws) e (way_larger p q v ws clear)))
    (order (q.x *ℤ p.d) (p.x *ℤ q.d)))
    (order (p.x *ℤ q.d) (q.x *ℤ p.d))

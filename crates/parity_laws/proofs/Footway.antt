-- The way from the start of a step to the foot on it, and what the foot sees.
use Rattle.std.proofs.Common.{◌≡◌, ◌≢◌, refl, sym, ◌∙◌, ap, subst, arith, ℤ, pos, ◌-ℤ◌, ◌*ℤ◌, ◌+ℤ◌, ◌<ℤ◌, ◌≤ℤ◌, ◌⊎◌, inl, inr, ⊎_elim, Bool, true, false, List, [], ◌∷◌, map}
use Rattle.std.proofs.Math.IntN.{*ℤ-zero}
use Rattle.plane.proofs.Ring.{multiplied, signed, mul_comm}
use Rattle.plane.proofs.Signs.{order, mul_positive, mul_le, no_zero_divisor, cancel, times_one}
use Rattle.plane.proofs.Points.{point_upward}
use Rattle.plane.proofs.Unique.{unique}
use Rattle.plane.proofs.Scale.{on_smaller, smaller_spot}
use Rattle.plane.proofs.LineLemmas.{end_on as on_between}
use Rattle.topo_base.specs.Point.{Point}
use Rattle.plane.specs.Segment.{Segment}
use Rattle.topo_base.specs.RationalPoint.{RationalPoint, IsBetween, rational}
use Rattle.plane.specs.RationalTests.{IsOn, area_at}
use Rattle.plane.specs.Relation.{AreApart, turn}
use Rattle.plane.specs.Orientation.{area}
use Rattle.plane.specs.Crossings.{back, larger, larger_segment}
use Rattle.plane.specs.Parity.{xor}
use Rattle.plane.specs.Direction.{cross}
use Rattle.parity_laws.specs.Steps.{Each, Even, direction, above, turned, times, left}
use Rattle.parity_laws.specs.Ways.{Onward, Tied, MeetsAtEnds, Fork}
use Rattle.parity_laws.specs.Walks.{NotAt}
use Rattle.parity_laws.specs.Rings.{In, Within}
use Rattle.parity_laws.proofs.Sums.{odd_each, equal, summing}
use Rattle.parity_laws.proofs.Tests.{area_turned, same_half, zero_neg, area_cycle}
use Rattle.parity_laws.proofs.Gap.{seg, gap, Gap, passed_to, start_gap}
use Rattle.parity_laws.proofs.Across.{start_on, end_on, clear_gap, back_gap, gaps}
use Rattle.parity_laws.proofs.Walking.{not_turned, no_times}
use Rattle.parity_laws.proofs.Cutting.{Along, turned_along}
use Rattle.parity_laws.proofs.Scaling.{left_larger, even_larger, larger_is, times_minus, mul_less}
use Rattle.parity_laws.proofs.Viewing.{width, height, area_height}
use Rattle.parity_laws.proofs.Ringwise.{each_in}
use Rattle.parity_laws.proofs.Footing.{right_yes, right_no, Foot, foot, wide, times_lt, times_le, passes, below_self}

-- no step begins at the foot
not_foot : (T : List Segment) (v : Point) (d t : Segment) → Foot T v d → In t T → larger (width d) t.a ≢ foot v d
not_foot T v d t f i e =
    let k = wide d v f.low.isover in
    let ex = cancel_k (width d) t.a.x v.x k (ap (λ (p : Point). p.x) e) in
    let a = f.inner in
    let b = f.low.isover.to in
    let dd : d.a.x <ℤ d.b.x = omega (arith, signed) in
    let z : area d.a d.b t.a ≡ pos 0 = area_height d t.a ∙ on_it (width d *ℤ t.a.y) (height t.a.x d) (ap (λ (p : Point). p.y) e ∙ ap (λ x. height x d) (sym ex)) in
    ⊎_elim
    (λ (c : AreApart t d). c (rational t.a) (start_on t, on_between d t.a dd (omega (arith, signed)) (omega (arith, signed)) z))
    (λ (g : MeetsAtEnds d t ⊎ MeetsAtEnds d (back t)).
    ⊎_elim
    (λ (m : MeetsAtEnds d t).
    ⊎_elim
    (λ (q : (t.a ≡ d.a) × (t.b ≡ d.b)). let x = ap (λ (p : Point). p.x) q.0 in omega (arith, signed))
    (λ (q : Fork d t ⊎ Fork (back d) t).
    ⊎_elim
    (λ (r : Fork d t). let x = ap (λ (p : Point). p.x) r.start in omega (arith, signed))
    (λ (r : Fork (back d) t). let x = ap (λ (p : Point). p.x) r.start in omega (arith, signed))
    q)
    m)
    (λ (m : MeetsAtEnds d (back t)).
    ⊎_elim
    (λ (q : (t.b ≡ d.a) × (t.a ≡ d.b)). let x = ap (λ (p : Point). p.x) q.1 in omega (arith, signed))
    (λ (q : Fork d (back t) ⊎ Fork (back d) (back t)).
    ⊎_elim
    (λ (r : Fork d (back t)).
    let x = ap (λ (p : Point). p.x) r.start in
    same_half (direction (back t)) (direction d) true (right_yes (back t) (omega (arith, signed))) (right_yes d dd)
    (subst (λ w. cross (direction (seg w t.a)) (direction d) ≡ pos 0) (sym r.start) (zero_neg (area d.a t.a d.b) (area d.a d.b t.a) (area_turned d.a t.a d.b) z)) r.apart)
    (λ (r : Fork (back d) (back t)).
    let x = ap (λ (p : Point). p.x) r.start in
    same_half (direction (back t)) (direction (back d)) false (right_no (back t) (omega (arith, signed))) (right_no (back d) dd)
    (subst (λ w. cross (direction (seg w t.a)) (direction (back d)) ≡ pos 0) (sym r.start) (sym (area_cycle d.a d.b t.a) ∙ z)) r.apart)
    q)
    m)
    g)
    (each_in (Tied d) T (f.plain.tied d f.low.there) t i)
  where
    cancel_k : (k x y : ℤ) → pos 0 <ℤ k → k *ℤ x ≡ k *ℤ y → x ≡ y
    cancel_k k x y h e = cancel x y k (mul_comm x k ∙ e ∙ mul_comm k y) (λ z. omega (arith, signed))

    on_it : (x y : ℤ) → x ≡ y → x -ℤ y ≡ pos 0
    on_it x y e = omega (arith, signed)

-- between two numbers, and so between wider ones
pub between_chain : (a y m b d : ℤ) → pos 0 <ℤ d → IsBetween (a *ℤ d) y (m *ℤ d) → IsBetween a m b → IsBetween (a *ℤ d) y (b *ℤ d)
between_chain a y m b d h f g =
    let h' : pos 0 ≤ℤ d = omega (arith, signed) in
    ⊎_elim
    (λ (q : (a ≤ℤ m) × (m ≤ℤ b)).
    let am = mul_le a m d q.0 h' in
    let mb = mul_le m b d q.1 h' in
    ⊎_elim
    (λ (r : ((a *ℤ d) ≤ℤ y) × (y ≤ℤ (m *ℤ d))). let r1 = r.1 in inl (r.0, omega (arith, signed)))
    (λ (r : ((m *ℤ d) ≤ℤ y) × (y ≤ℤ (a *ℤ d))). let r0 = r.0 in let r1 = r.1 in inl (omega (arith, signed), omega (arith, signed)))
    f)
    (λ (q : (b ≤ℤ m) × (m ≤ℤ a)).
    let ma = mul_le m a d q.1 h' in
    let bm = mul_le b m d q.0 h' in
    ⊎_elim
    (λ (r : ((a *ℤ d) ≤ℤ y) × (y ≤ℤ (m *ℤ d))). let r0 = r.0 in let r1 = r.1 in inr (omega (arith, signed), omega (arith, signed)))
    (λ (r : ((m *ℤ d) ≤ℤ y) × (y ≤ℤ (a *ℤ d))). let r0 = r.0 in inr (omega (arith, signed), r.1))
    f)
    g

-- a rational point of the way from the start of d to the foot is on d
on_part : (T : List Segment) (v : Point) (d : Segment) (r : RationalPoint) → Foot T v d → IsOn r (seg (larger (width d) d.a) (foot v d)) → IsOn r (larger_segment (width d) d)
on_part T v d r f on =
    let k = wide d v f.low.isover in
    let a = f.inner in
    let b = f.low.isover.to in
    let on_d = passes v d d k f.low.isover (below_self v d) in
    record {
      straight = no_zero_divisor (v.x -ℤ d.a.x) (area_at (larger (width d) d.a) (larger (width d) d.b) r) (lines ∙ ap (λ z. width d *ℤ z) on.straight ∙ *ℤ-zero (width d)) (not_zero d.a.x v.x a);
      across = between_chain (width d *ℤ d.a.x) r.x (width d *ℤ v.x) (width d *ℤ d.b.x) r.d r.whole on.across (inl (times_le (width d) d.a.x v.x k (omega (arith, signed)), times_le (width d) v.x d.b.x k (omega (arith, signed))));
      upward = between_chain (width d *ℤ d.a.y) r.y (height v.x d) (width d *ℤ d.b.y) r.d r.whole on.upward (point_upward (larger_segment (width d) d) (foot v d) on_d);
    }
  where
    not_zero : (x y : ℤ) → x <ℤ y → y -ℤ x ≢ pos 0
    not_zero x y h = λ e. omega (arith, signed)

    lines : (v.x -ℤ d.a.x) *ℤ area_at (larger (width d) d.a) (larger (width d) d.b) r ≡ width d *ℤ area_at (larger (width d) d.a) (foot v d) r
    lines =
        by_parts (v.x -ℤ d.a.x) (width d) (d.b.y -ℤ d.a.y) ((width d *ℤ d.b.x) -ℤ (width d *ℤ d.a.x)) ((width d *ℤ d.b.y) -ℤ (width d *ℤ d.a.y)) ((width d *ℤ v.x) -ℤ (width d *ℤ d.a.x)) (height v.x d -ℤ (width d *ℤ d.a.y))
        (r.y -ℤ (width d *ℤ d.a.y) *ℤ r.d) (r.x -ℤ (width d *ℤ d.a.x) *ℤ r.d)
        (times_minus (width d) d.b.x d.a.x) (times_minus (width d) d.b.y d.a.y) (times_minus (width d) v.x d.a.x) (rise d.a.y (width d) (d.b.y -ℤ d.a.y) (v.x -ℤ d.a.x))
      where
        rise : (y k e x : ℤ) → (y *ℤ k +ℤ e *ℤ x) -ℤ (k *ℤ y) ≡ e *ℤ x
        rise y k e x = let c = mul_comm y k in omega (arith, signed)

        by_parts : (X k e p q p' q' A B : ℤ) → p ≡ k *ℤ k → q ≡ k *ℤ e → p' ≡ k *ℤ X → q' ≡ e *ℤ X → X *ℤ (p *ℤ A -ℤ q *ℤ B) ≡ k *ℤ (p' *ℤ A -ℤ q' *ℤ B)
        by_parts X k e p q p' q' A B ep eq ep' eq' = rw (ep, eq, ep', eq') (plain X k e A B)
          where
            plain : (X k e A B : ℤ) → X *ℤ ((k *ℤ k) *ℤ A -ℤ (k *ℤ e) *ℤ B) ≡ k *ℤ ((k *ℤ X) *ℤ A -ℤ (e *ℤ X) *ℤ B)
            plain X k e A B = simp multiplied

-- such a rational point is left of the end of d
part_left : (T : List Segment) (v : Point) (d : Segment) (r : RationalPoint) → Foot T v d → IsOn r (seg (larger (width d) d.a) (foot v d)) → r.x <ℤ ((width d *ℤ d.b.x) *ℤ r.d)
part_left T v d r f on =
    let k = wide d v f.low.isover in
    let a = times_lt (width d) d.a.x v.x k f.inner in
    let b = times_lt (width d) v.x d.b.x k f.low.isover.to in
    let b' = mul_less (width d *ℤ v.x) (width d *ℤ d.b.x) r.d b r.whole in
    let a' = mul_less (width d *ℤ d.a.x) (width d *ℤ d.b.x) r.d (omega (arith, signed)) r.whole in
    ⊎_elim
    (λ (q : (((width d *ℤ d.a.x) *ℤ r.d) ≤ℤ r.x) × (r.x ≤ℤ ((width d *ℤ v.x) *ℤ r.d))). let q1 = q.1 in omega (arith, signed))
    (λ (q : (((width d *ℤ v.x) *ℤ r.d) ≤ℤ r.x) × (r.x ≤ℤ ((width d *ℤ d.a.x) *ℤ r.d))). let q1 = q.1 in omega (arith, signed))
    on.across

-- a step that leaves the end of d has no rational point with that way
fork_clear : (T : List Segment) (v : Point) (d t : Segment) → Foot T v d → Fork (back d) t → AreApart (larger_segment (width d) t) (seg (larger (width d) d.a) (foot v d))
fork_clear T v d t f fork r on =
    let k = wide d v f.low.isover in
    let q = smaller_spot (width d) k r in
    let on_t = on_smaller (width d) k t r on.0 in
    let on_s = on_smaller (width d) k d r (on_part T v d r f on.1) in
    let left : r.x <ℤ (d.b.x *ℤ (width d *ℤ r.d)) = subst (λ z. r.x <ℤ z) (swing (width d) d.b.x r.d) (part_left T v d r f on.1) in
    let wide_d : pos 0 <ℤ (width d *ℤ r.d) = mul_positive (width d) r.d k r.whole in
    let a = f.inner in
    let b = f.low.isover.to in
    let at_end : IsOn (rational d.b) t = subst (λ p. IsOn (rational p) t) fork.start (start_on t) in
    let differ : turn d t ≢ pos 0 → ⊥ = λ n. let same_place = unique d t q (rational d.b) n (on_s, on_t) (end_on d, at_end) in apart_x r.x d.b.x (width d *ℤ r.d) left same_place.0 in
    let turns : turn d t ≡ pos 0 = zero_by (turn d t) differ in
    let ta : t.a.x ≡ d.b.x = ap (λ (p : Point). p.x) fork.start in
    same_half (direction t) (direction (back d)) false
    (right_no t (to_left t.a.x t.b.x r.x (width d *ℤ r.d) wide_d on_t.across (subst (λ z. r.x <ℤ (z *ℤ (width d *ℤ r.d))) (sym ta) left)))
    (right_no (back d) (omega (arith, signed)))
    (crossing_turn (t.b.x -ℤ t.a.x) (t.b.y -ℤ t.a.y) d.a.x d.a.y d.b.x d.b.y ∙ turns)
    fork.apart
  where
    swing : (k b d : ℤ) → (k *ℤ b) *ℤ d ≡ b *ℤ (k *ℤ d)
    swing k b d = simp multiplied

    apart_x : (x b d : ℤ) → x <ℤ (b *ℤ d) → x *ℤ pos 1 ≡ b *ℤ d → ⊥
    apart_x x b d h e = let f = times_one x in omega (arith, signed)

    zero_by : (z : ℤ) → (z ≢ pos 0 → ⊥) → z ≡ pos 0
    zero_by z n =
        ⊎_elim
        (λ (h : z <ℤ pos 0). absurd (n (λ e. omega (arith, signed))))
        (λ (h : pos 0 ≤ℤ z). ⊎_elim (λ (g : pos 0 <ℤ z). absurd (n (λ e. omega (arith, signed)))) (λ (g : z ≤ℤ pos 0). omega (arith, signed)) (order (pos 0) z))
        (order z (pos 0))

    to_left : (a b x d : ℤ) → pos 0 <ℤ d → IsBetween (a *ℤ d) x (b *ℤ d) → x <ℤ (a *ℤ d) → b <ℤ a
    to_left a b x d h g l =
        ⊎_elim
        (λ (q : b <ℤ a). q)
        (λ (q : a ≤ℤ b).
        let m = mul_le a b d q (omega (arith, signed)) in
        absurd (⊎_elim
        (λ (c : ((a *ℤ d) ≤ℤ x) × (x ≤ℤ (b *ℤ d))). let c0 = c.0 in omega (arith, signed))
        (λ (c : ((b *ℤ d) ≤ℤ x) × (x ≤ℤ (a *ℤ d))). let c0 = c.0 in omega (arith, signed))
        g))
        (order b a)

    crossing_turn : (tx ty ax ay bx by : ℤ) → tx *ℤ (ay -ℤ by) -ℤ ty *ℤ (ax -ℤ bx) ≡ (bx -ℤ ax) *ℤ ty -ℤ (by -ℤ ay) *ℤ tx
    crossing_turn tx ty ax ay bx by = simp multiplied (omega (arith, signed))

-- ---- each step adds as much at the start of d as at the foot
foot_meets : (T : List Segment) (v : Point) (d t : Segment) → Foot T v d → In t T → MeetsAtEnds d t → Gap (seg (larger (width d) d.a) (foot v d)) (larger_segment (width d) t)
foot_meets T v d t f i m =
    let k = wide d v f.low.isover in
    let lt1 = times_lt (width d) d.a.x v.x k f.inner in
    let onward : Onward (larger (width d) d.a) (foot v d) = record { along = omega (arith, signed); down = λ z. absurd (omega (arith, signed)) } in
    let differ : larger (width d) d.a ≢ foot v d = λ e. let x = ap (λ (p : Point). p.x) e in omega (arith, signed) in
    let ends : larger (width d) t.b ≢ foot v d = not_foot T v d (back t) f (f.plain.both t i) in
    ⊎_elim
    (λ (q : (t.a ≡ d.a) × (t.b ≡ d.b)).
    from (sym q.0) (start_gap (larger (width d) d.a) (foot v d) (larger (width d) t.b) onward differ
    (λ e. f.plain.proper t i (q.0 ∙ sym (larger_is (width d) t.b d.a k e))) ends))
    (λ (q : Fork d t ⊎ Fork (back d) t).
    ⊎_elim
    (λ (c : Fork d t). from (sym c.start) (start_gap (larger (width d) d.a) (foot v d) (larger (width d) t.b) onward differ (λ e. c.not_start (larger_is (width d) t.b d.a k e)) ends))
    (λ (c : Fork (back d) t). clear_gap (larger_segment (width d) t) (seg (larger (width d) d.a) (foot v d)) (fork_clear T v d t f c) onward.along)
    q)
    m
  where
    from : d.a ≡ t.a → Gap (seg (larger (width d) d.a) (foot v d)) (seg (larger (width d) d.a) (larger (width d) t.b)) → Gap (seg (larger (width d) d.a) (foot v d)) (larger_segment (width d) t)
    from e g = subst (λ p. Gap (seg (larger (width d) d.a) (foot v d)) (seg (larger (width d) p) (larger (width d) t.b))) e g

foot_gap : (T : List Segment) (v : Point) (d t : Segment) → Foot T v d → In t T → Gap (seg (larger (width d) d.a) (foot v d)) (larger_segment (width d) t)
foot_gap T v d t f i =
    let k = wide d v f.low.isover in
    let s : Segment = seg (larger (width d) d.a) (foot v d) in
    let along = times_lt (width d) d.a.x v.x k f.inner in
    ⊎_elim
    (λ (c : AreApart t d).
    clear_gap (larger_segment (width d) t) s (λ r on. c (smaller_spot (width d) k r) (on_smaller (width d) k t r on.0, on_smaller (width d) k d r (on_part T v d r f on.1))) (omega (arith, signed)))
    (λ (g : MeetsAtEnds d t ⊎ MeetsAtEnds d (back t)).
    ⊎_elim
    (λ (m : MeetsAtEnds d t). foot_meets T v d t f i m)
    (λ (m : MeetsAtEnds d (back t)). back_gap s (larger_segment (width d) t) (foot_meets T v d (back t) f (f.plain.both t i) m))
    g)
    (each_in (Tied d) T (f.plain.tied d f.low.there) t i)

mapped : (P : Segment → Type 0) (k : ℤ) (X : List Segment) → ((t : Segment) → In t X → P (larger_segment k t)) → Each P (map (larger_segment k) X)
mapped P k [] h = tt
mapped P k (t ∷ X) h = (h t (inl refl), mapped P k X (λ s i. h s (inr i)))

-- left of d is what the foot sees
pub left_foot : (T X : List Segment) (v : Point) (d : Segment) → Foot T v d → Even X → Within X T → left X d ≡ above (map (larger_segment (width d)) X) (foot v d)
left_foot T X v d f even w =
    let k = wide d v f.low.isover in
    let Y : List Segment = map (larger_segment (width d)) X in
    let s : Segment = seg (larger (width d) d.a) (foot v d) in
    let e = odd_each (gap s) (λ t. xor (passed_to s t.a) (passed_to s t.b)) Y (mapped (Gap s) (width d) X (λ t i. foot_gap T v d t f (w t i))) in
    let off : Each (NotAt (foot v d)) Y = mapped (NotAt (foot v d)) (width d) X (λ t i. (not_foot T v d t f (w t i), not_foot T v d (back t) f (f.plain.both t (w t i)))) in
    sym (left_larger (width d) X d k)
    ∙ ap (xor (above Y (larger (width d) d.a))) (turned_along Y (larger (width d) d.a) (direction (larger_segment (width d) d)) (direction s) way)
    ∙ last (above Y s.a) (above Y s.b) (turned Y s.a (direction s)) (turned Y s.b (direction (back s))) (times Y s) (sym (gaps s Y) ∙ e ∙ even_larger (width d) X even (passed_to s))
    (not_turned Y s.b (direction (back s)) off) (no_times Y s off)
  where
    way : Along (direction (larger_segment (width d) d)) (direction (seg (larger (width d) d.a) (foot v d)))
    way =
        record {
          k = v.x -ℤ d.a.x;
          l = width d;
          k_positive = minus_positive d.a.x v.x f.inner;
          l_positive = wide d v f.low.isover;
          x = across (v.x -ℤ d.a.x) (width d) d.b.x d.a.x v.x refl refl;
          y = upward (v.x -ℤ d.a.x) (width d) d.a.y d.b.y;
        }
      where
        minus_positive : (x y : ℤ) → x <ℤ y → pos 0 <ℤ (y -ℤ x)
        minus_positive x y h = omega (arith, signed)

        across : (X k b a x : ℤ) → k ≡ b -ℤ a → X ≡ x -ℤ a → X *ℤ ((k *ℤ b) -ℤ (k *ℤ a)) ≡ k *ℤ ((k *ℤ x) -ℤ (k *ℤ a))
        across X k b a x e g =
            ap (λ z. X *ℤ z) (times_minus k b a ∙ ap (λ z. k *ℤ z) (sym e)) ∙ swap X k ∙ ap (λ z. k *ℤ z) (ap (λ z. k *ℤ z) g ∙ sym (times_minus k x a))
          where
            swap : (X k : ℤ) → X *ℤ (k *ℤ k) ≡ k *ℤ (k *ℤ X)
            swap X k = simp multiplied

        upward : (X k a b : ℤ) → X *ℤ ((k *ℤ b) -ℤ (k *ℤ a)) ≡ k *ℤ ((a *ℤ k +ℤ (b -ℤ a) *ℤ X) -ℤ (k *ℤ a))
        upward X k a b = simp multiplied (omega (arith, signed))

    last : (a b c e m : Bool) → xor (xor a b) (xor (xor c e) m) ≡ false → e ≡ false → m ≡ false → xor a c ≡ b
    last a b c e m h f g = equal (xor a c) b (sums a b c ∙ (subst (λ z. xor (xor a b) (xor (xor c false) z) ≡ false) g (subst (λ z. xor (xor a b) (xor (xor c z) m) ≡ false) f h)))
      where
        sums : (a b c : Bool) → xor (xor a c) b ≡ xor (xor a b) (xor (xor c false) false)
        sums a b c = simp summing

-- The same where both points are rational points: one that sees a step has above it what the step has on its left.
use Rattle.std.proofs.Common.{◌≡◌, ◌≢◌, refl, sym, ◌∙◌, ap, subst, arith, ℤ, pos, ◌-ℤ◌, ◌*ℤ◌, ◌<ℤ◌, ◌≤ℤ◌, inl, inr, ⊎_elim, List, map}
use Rattle.std.proofs.Math.IntN.{*ℤ-zero}
use Rattle.plane.proofs.Diff.{diff-same}
use Rattle.plane.proofs.Wide.{summed}
use Rattle.plane.proofs.Ring.{multiplied, signed, mul_comm}
use Rattle.plane.proofs.Signs.{mul_positive, mul_le, no_zero_divisor, cancel, times_one}
use Rattle.plane.proofs.Scale.{on_smaller, smaller_spot, clear_larger, times_point}
use Rattle.topo_base.specs.Point.{Point}
use Rattle.plane.specs.Segment.{Segment}
use Rattle.topo_base.specs.RationalPoint.{RationalPoint, IsBetween, rational, SamePoint}
use Rattle.plane.specs.RationalTests.{IsOn, area_at}
use Rattle.plane.specs.Relation.{AreApart}
use Rattle.plane.specs.Orientation.{area}
use Rattle.plane.specs.Crossings.{back, larger, larger_segment, way}
use Rattle.plane.proofs.Middle.{not_zero, cancel_le, same_other}
use Rattle.parity_laws.specs.Steps.{Even, above, above_at, left}
use Rattle.parity_laws.specs.Walks.{NotAt}
use Rattle.parity_laws.specs.Rings.{In, Within, Drawn, SeesLeft, SeesLeftAt}
use Rattle.parity_laws.specs.Cuts.{Inner}
use Rattle.parity_laws.proofs.Across.{start_on, end_on}
use Rattle.parity_laws.proofs.Scaling.{left_larger, even_larger}
use Rattle.parity_laws.proofs.Larger.{drawn_larger, in_larger, from_larger, within_larger, above_rational}
use Rattle.parity_laws.proofs.Nearby.{near_left}

le_same : (a a' b b' : ℤ) → a ≡ a' → b ≡ b' → a ≤ℤ b → a' ≤ℤ b'
le_same a a' b b' e f h = omega (arith, signed)

same_between : (a x b y p q : ℤ) → pos 0 <ℤ p → pos 0 <ℤ q → x *ℤ q ≡ y *ℤ p → IsBetween (a *ℤ p) x (b *ℤ p) → IsBetween (a *ℤ q) y (b *ℤ q)
same_between a x b y p q hp hq e f =
    ⊎_elim
    (λ (g : ((a *ℤ p) ≤ℤ x) × (x ≤ℤ (b *ℤ p))). inl (one a x y g.0 e, two b x y g.1 e))
    (λ (g : ((b *ℤ p) ≤ℤ x) × (x ≤ℤ (a *ℤ p))). inr (one b x y g.0 e, two a x y g.1 e))
    f
  where
    turn : (c p q : ℤ) → (c *ℤ p) *ℤ q ≡ (c *ℤ q) *ℤ p
    turn c p q = simp multiplied

    one : (c x y : ℤ) → (c *ℤ p) ≤ℤ x → x *ℤ q ≡ y *ℤ p → (c *ℤ q) ≤ℤ y
    one c x y g e = let m = mul_le (c *ℤ p) x q g (omega (arith, signed)) in let t = turn c p q in cancel_le (c *ℤ q) y p hp (le_same ((c *ℤ p) *ℤ q) ((c *ℤ q) *ℤ p) (x *ℤ q) (y *ℤ p) t e m)

    two : (c x y : ℤ) → x ≤ℤ (c *ℤ p) → x *ℤ q ≡ y *ℤ p → y ≤ℤ (c *ℤ q)
    two c x y g e = let m = mul_le x (c *ℤ p) q g (omega (arith, signed)) in let t = turn c p q in cancel_le y (c *ℤ q) p hp (le_same (x *ℤ q) (y *ℤ p) ((c *ℤ p) *ℤ q) ((c *ℤ q) *ℤ p) e t m)

pub on_same : (t : Segment) (p q : RationalPoint) → SamePoint p q → IsOn p t → IsOn q t
on_same t p q e on = record {
  straight = no_zero_divisor p.d (area_at t.a t.b q) (plain (t.b.x -ℤ t.a.x) (t.b.y -ℤ t.a.y) t.a.x t.a.y p.x p.y p.d q.x q.y q.d e.0 e.1 ∙ ap (λ z. q.d *ℤ z) on.straight ∙ *ℤ-zero q.d) (not_zero p.d p.whole);
  across = same_between t.a.x p.x t.b.x q.x p.d q.d p.whole q.whole e.0 on.across;
  upward = same_between t.a.y p.y t.b.y q.y p.d q.d p.whole q.whole e.1 on.upward;
}
  where
    plain : (ux uy ax ay px py pd qx qy qd : ℤ) → px *ℤ qd ≡ qx *ℤ pd → py *ℤ qd ≡ qy *ℤ pd →
        pd *ℤ (ux *ℤ (qy -ℤ ay *ℤ qd) -ℤ uy *ℤ (qx -ℤ ax *ℤ qd)) ≡ qd *ℤ (ux *ℤ (py -ℤ ay *ℤ pd) -ℤ uy *ℤ (px -ℤ ax *ℤ pd))
    plain ux uy ax ay px py pd qx qy qd e f =
        let g = simp multiplied at (ap (λ z. ux *ℤ z) f) in
        let h = simp multiplied at (ap (λ z. uy *ℤ z) e) in
        simp multiplied (omega (arith, signed))

-- a rational point in a larger plane
area_times : (a b : Point) (x y d c : ℤ) →
    ((d *ℤ c) *ℤ b.x -ℤ (d *ℤ c) *ℤ a.x) *ℤ (y *ℤ c -ℤ (d *ℤ c) *ℤ a.y) -ℤ ((d *ℤ c) *ℤ b.y -ℤ (d *ℤ c) *ℤ a.y) *ℤ (x *ℤ c -ℤ (d *ℤ c) *ℤ a.x)
    ≡ ((d *ℤ c) *ℤ c) *ℤ ((b.x -ℤ a.x) *ℤ (y -ℤ a.y *ℤ d) -ℤ (b.y -ℤ a.y) *ℤ (x -ℤ a.x *ℤ d))
area_times a b x y d c = simp multiplied (simp summed (diff-same _ _ _ _ (omega arith)))

same_of_larger : (c : ℤ) (m : RationalPoint) (p : Point) → pos 0 <ℤ c → times_point m c ≡ larger (m.d *ℤ c) p → SamePoint m (rational p)
same_of_larger c m p h e = (one m.x p.x m.d (ap (λ (z : Point). z.x) e), one m.y p.y m.d (ap (λ (z : Point). z.y) e))
  where
    one : (x y d : ℤ) → x *ℤ c ≡ (d *ℤ c) *ℤ y → x *ℤ pos 1 ≡ y *ℤ d
    one x y d e = times_one x ∙ cancel x (y *ℤ d) c (e ∙ turn d c y) (not_zero c h)
      where
        turn : (d c y : ℤ) → (d *ℤ c) *ℤ y ≡ (y *ℤ d) *ℤ c
        turn d c y = simp multiplied

between_times : (a x b d c : ℤ) → pos 0 <ℤ c → IsBetween (a *ℤ d) x (b *ℤ d) → IsBetween ((d *ℤ c) *ℤ a) (x *ℤ c) ((d *ℤ c) *ℤ b)
between_times a x b d c h f =
    subst (λ z. IsBetween z (x *ℤ c) ((d *ℤ c) *ℤ b)) (turn a d c) (subst (λ z. IsBetween ((a *ℤ d) *ℤ c) (x *ℤ c) z) (turn b d c)
    (⊎_elim
    (λ (g : ((a *ℤ d) ≤ℤ x) × (x ≤ℤ (b *ℤ d))). inl (mul_le (a *ℤ d) x c g.0 (omega (arith, signed)), mul_le x (b *ℤ d) c g.1 (omega (arith, signed))))
    (λ (g : ((b *ℤ d) ≤ℤ x) × (x ≤ℤ (a *ℤ d))). inr (mul_le (b *ℤ d) x c g.0 (omega (arith, signed)), mul_le x (a *ℤ d) c g.1 (omega (arith, signed))))
    f))
  where
    turn : (a d c : ℤ) → (a *ℤ d) *ℤ c ≡ (d *ℤ c) *ℤ a
    turn a d c = simp multiplied

pub inner_larger : (c : ℤ) (d : Segment) (m : RationalPoint) → pos 0 <ℤ c → IsOn m d → (SamePoint m (rational d.a) → ⊥) → (SamePoint m (rational d.b) → ⊥) → Inner (times_point m c) (larger_segment (m.d *ℤ c) d)
inner_larger c d m h on na nb = record {
  straight = area_times d.a d.b m.x m.y m.d c ∙ ap (λ z. ((m.d *ℤ c) *ℤ c) *ℤ z) on.straight ∙ *ℤ-zero ((m.d *ℤ c) *ℤ c);
  across = between_times d.a.x m.x d.b.x m.d c h on.across;
  upward = between_times d.a.y m.y d.b.y m.d c h on.upward;
  not_start = λ e. na (same_of_larger c m d.a h e);
  not_end = λ e. nb (same_of_larger c m d.b h e);
}

-- the rational point in the larger plane, back in the plane
as_it_was : (c k : ℤ) (h : pos 0 <ℤ k) (m : RationalPoint) → k ≡ m.d *ℤ c → SamePoint (smaller_spot k h (rational (times_point m c))) m
as_it_was c k h m e = (one m.x, one m.y)
  where
    one : (x : ℤ) → (x *ℤ c) *ℤ m.d ≡ x *ℤ (k *ℤ pos 1)
    one x = turn x c m.d ∙ ap (λ z. x *ℤ z) (sym e ∙ sym (times_one k))
      where
        turn : (x c d : ℤ) → (x *ℤ c) *ℤ d ≡ x *ℤ (d *ℤ c)
        turn x c d = simp multiplied

sees_larger : (T : List Segment) (d : Segment) (m q : RationalPoint) → Drawn T → SeesLeftAt T d m q →
    SeesLeft (map (larger_segment (m.d *ℤ q.d)) T) (larger_segment (m.d *ℤ q.d) d) (times_point m q.d) (times_point q m.d)
sees_larger T d m q drawn s = record {
  plain = (drawn_larger k T h drawn).plain;
  there = in_larger k d T s.there;
  inner = inner_larger q.d d m q.whole s.inside s.not_start s.not_end;
  alone = λ u i on.
      let r = from_larger k u T i in
      let on' = on_smaller k h r.0 (rational (times_point m q.d)) (subst (λ z. IsOn (rational (times_point m q.d)) z) r.1.1 on) in
      ⊎_elim
      (λ (e : r.0 ≡ d). inl (r.1.1 ∙ ap (larger_segment k) e))
      (λ (e : r.0 ≡ back d). inr (r.1.1 ∙ ap (larger_segment k) e))
      (s.alone r.0 r.1.0 (on_same r.0 (smaller_spot k h (rational (times_point m q.d))) m (as_it_was q.d k h m refl) on'));
  clear = λ u i n nb.
      let r = from_larger k u T i in
      subst (λ z. AreApart z (way m q)) (sym r.1.1)
      (clear_larger k h r.0 (way m q) (λ p on_t on_way.
      ⊎_elim
      (λ (e : r.0 ≡ d). n (r.1.1 ∙ ap (larger_segment k) e))
      (λ (e : r.0 ≡ back d). nb (r.1.1 ∙ ap (larger_segment k) e))
      (s.alone r.0 r.1.0 (on_same r.0 p m (s.sees r.0 r.1.0 p on_t on_way) on_t))));
  off = λ u i. let r = from_larger k u T i in subst (NotAt (times_point q m.d)) (sym r.1.1) (not_end r.0 r.0.a r.1.0 (start_on r.0), not_end r.0 r.0.b r.1.0 (end_on r.0));
  is_left = subst (λ z. pos 0 <ℤ area (larger z d.a) (larger z d.b) (times_point q m.d)) (mul_comm q.d m.d)
      (subst (λ z. pos 0 <ℤ z) (sym (area_times d.a d.b q.x q.y q.d m.d)) (mul_positive ((q.d *ℤ m.d) *ℤ m.d) (area_at d.a d.b q) (mul_positive (q.d *ℤ m.d) m.d (mul_positive q.d m.d q.whole m.whole) m.whole) s.is_left));
}
  where
    k : ℤ
    k = m.d *ℤ q.d

    h : pos 0 <ℤ (m.d *ℤ q.d)
    h = mul_positive m.d q.d m.whole q.whole

    not_end : (t : Segment) (p : Point) → In t T → IsOn (rational p) t → larger (m.d *ℤ q.d) p ≢ times_point q m.d
    not_end t p i on e = s.off t i (on_same t (rational p) q (same_other q (rational p) (same_of_larger m.d q p m.whole (sym (ap (λ z. larger z p) (mul_comm q.d m.d) ∙ e)))) on)

-- q sees d from the left: the parity above q is that left of d
pub near_left_at : (T : List Segment) (X : List Segment) (d : Segment) (m q : RationalPoint) → Drawn T → SeesLeftAt T d m q → Even X → Within X T → left X d ≡ above_at X q
near_left_at T X d m q drawn s even w =
    sym (left_larger (m.d *ℤ q.d) X d (mul_positive m.d q.d m.whole q.whole))
    ∙ near_left (map (larger_segment (m.d *ℤ q.d)) T) (map (larger_segment (m.d *ℤ q.d)) X) (larger_segment (m.d *ℤ q.d) d) (times_point m q.d) (times_point q m.d) (sees_larger T d m q drawn s) (even_larger (m.d *ℤ q.d) X even) (within_larger (m.d *ℤ q.d) X T w)
    ∙ ap (λ k. above (map (larger_segment k) X) (times_point q m.d)) (mul_comm m.d q.d)
    ∙ above_rational m.d X q m.whole

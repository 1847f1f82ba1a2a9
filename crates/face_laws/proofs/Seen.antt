-- What sees the inside of a segment from its left.
use Rattle.std.proofs.Common.{◌≡◌, sym, ◌∙◌, ap, arith, ℤ, pos, ◌-ℤ◌, ◌*ℤ◌, ◌<ℤ◌, ◌≤ℤ◌, ◌⊎◌, inl, inr, ⊎_elim}
use Rattle.std.specs.Prelude.{neg_ℤ, reverse}
use Rattle.std.specs.List.{Contains}
use Rattle.std.proofs.Math.IntN.{zero-*ℤ}
use Rattle.topo_base.specs.Point.{Point}
use Rattle.topo_base.specs.RationalPoint.{RationalPoint, rational, IsAt, SamePoint, IsBetween}
use Rattle.plane.proofs.Diff.{diff-same}
use Rattle.plane.proofs.Ring.{multiplied, signed}
use Rattle.plane.proofs.Wide.{summed}
use Rattle.plane.proofs.Signs.{order, no_zero_divisor, times_one}
use Rattle.plane.specs.Segment.{Segment}
use Rattle.plane.specs.Line.{segments_of}
use Rattle.drawing.specs.Drawing.{Drawing, Edge}
use Rattle.drawing.specs.Faced.{Sees, IsInside}
use Rattle.plane.specs.RationalTests.{IsOn, IsOnWay, IsLeftOf, area_at}
use Rattle.drawing.specs.DrawnPoints.{IsOnEdge}
use Rattle.plane.specs.Relation.{AreApart}
use Rattle.plane.proofs.Collinear.{on_round}
use Rattle.plane.specs.Crossings.{back, way, larger_spot}
use Rattle.plane.proofs.LineTurns.{reverse_on}
use Rattle.parity_laws.specs.Ways.{Tied, MeetsAtEnds, Fork}
use Rattle.parity_laws.specs.Rings.{In, Plain, SeesLeftAt}
use Rattle.parity_laws.proofs.Forks.{fork_only}
use Rattle.parity_laws.proofs.Ringwise.{each_in}
use Rattle.face_laws.specs.Walked.{steps_of}
use Rattle.face_laws.proofs.StepsOf.{IsOfEdge, step_edge}
use Rattle.face_laws.proofs.Lists.{in_contains}
use Rattle.plane.proofs.Middle.{same_or_not}

-- ---- the way in the larger plane is the way, from either end
way_times : (x y p r q s d e k : ℤ) →
    d *ℤ ((p *ℤ e -ℤ q *ℤ d) *ℤ (y *ℤ e -ℤ s *ℤ k) -ℤ (r *ℤ e -ℤ s *ℤ d) *ℤ (x *ℤ e -ℤ q *ℤ k))
    ≡ neg_ℤ ((q *ℤ d -ℤ p *ℤ e) *ℤ (y *ℤ (d *ℤ e) -ℤ (r *ℤ e) *ℤ k) -ℤ (s *ℤ d -ℤ r *ℤ e) *ℤ (x *ℤ (d *ℤ e) -ℤ (p *ℤ e) *ℤ k))
way_times x y p r q s d e k = simp multiplied (simp summed (diff-same _ _ _ _ (omega arith)))

swung : (a b m n p q : ℤ) → a ≡ p → b ≡ q → m ≡ n → IsBetween a m b → IsBetween q n p
swung a b m n p q ea eb em h =
    ⊎_elim
    (λ (g : (a ≤ℤ m) × (m ≤ℤ b)). let g0 = g.0 in let g1 = g.1 in inr (omega (arith, signed), omega (arith, signed)))
    (λ (g : (b ≤ℤ m) × (m ≤ℤ a)). let g0 = g.0 in let g1 = g.1 in inl (omega (arith, signed), omega (arith, signed)))
    h

back_on_way : (m q r : RationalPoint) → IsOn (larger_spot (m.d *ℤ q.d) r) (way m q) → IsOnWay r q m
back_on_way m q r on = record {
  straight = equal
      (no_zero_divisor m.d ((m.x *ℤ q.d -ℤ q.x *ℤ m.d) *ℤ (r.y *ℤ q.d -ℤ q.y *ℤ r.d) -ℤ (m.y *ℤ q.d -ℤ q.y *ℤ m.d) *ℤ (r.x *ℤ q.d -ℤ q.x *ℤ r.d))
      (way_times r.x r.y m.x m.y q.x q.y m.d q.d r.d ∙ ap neg_ℤ on.straight)
      (some m.d m.whole));
  across = swung _ _ _ _ _ _ (moved m.x q.d r.d) (moved_on q.x m.d r.d) (ap (λ z. r.x *ℤ z) (turned m.d q.d)) on.across;
  upward = swung _ _ _ _ _ _ (moved m.y q.d r.d) (moved_on q.y m.d r.d) (ap (λ z. r.y *ℤ z) (turned m.d q.d)) on.upward;
}
  where
    equal : {x y : ℤ} → x -ℤ y ≡ pos 0 → x ≡ y
    equal e = omega (arith, signed)

    some : (d : ℤ) → pos 0 <ℤ d → d ≡ pos 0 → ⊥
    some d h e = omega (arith, signed)

    moved : (a e k : ℤ) → (a *ℤ e) *ℤ k ≡ a *ℤ (e *ℤ k)
    moved a e k = simp multiplied

    moved_on : (a d k : ℤ) → (a *ℤ d) *ℤ k ≡ a *ℤ (k *ℤ d)
    moved_on a d k = simp multiplied

    turned : (d e : ℤ) → d *ℤ e ≡ e *ℤ d
    turned d e = simp multiplied

-- the point that looks is on the way itself
own_way : (q m : RationalPoint) → IsOnWay q q m
own_way q m = record {
  straight = both (m.x *ℤ q.d -ℤ q.x *ℤ m.d) (m.y *ℤ q.d -ℤ q.y *ℤ m.d) q.x q.y q.d;
  across = first (q.x *ℤ (q.d *ℤ m.d)) (m.x *ℤ (q.d *ℤ q.d));
  upward = first (q.y *ℤ (q.d *ℤ m.d)) (m.y *ℤ (q.d *ℤ q.d));
}
  where
    none : (a b : ℤ) → a *ℤ (b -ℤ b) ≡ pos 0
    none a b = simp multiplied (omega (arith, signed))

    both : (a b x y d : ℤ) → a *ℤ (y *ℤ d -ℤ y *ℤ d) ≡ b *ℤ (x *ℤ d -ℤ x *ℤ d)
    both a b x y d = none a (y *ℤ d) ∙ sym (none b (x *ℤ d))

    first : (a b : ℤ) → IsBetween a a b
    first a b = ⊎_elim (λ (h : a <ℤ b). inl (omega (arith, signed), omega (arith, signed))) (λ (h : b ≤ℤ a). inr (h, omega (arith, signed))) (order a b)

-- ---- rational points
pub is_at : (p : Point) (m : RationalPoint) → SamePoint m (rational p) → IsAt p m
is_at p m h = (sym (times_one m.x) ∙ h.0, sym (times_one m.y) ∙ h.1)

-- a point strictly left of a segment is none on it
left_is_off : (s : Segment) (q m : RationalPoint) → IsLeftOf q s → IsOn m s → SamePoint q m → ⊥
left_is_off s q m left on same =
    let zero = no_zero_divisor m.d (area_at s.a s.b q) (scaled ∙ ap (λ z. z *ℤ q.d) on.straight ∙ none q.d) (λ e. let w = m.whole in omega (arith, signed)) in
    let h : pos 0 <ℤ area_at s.a s.b q = left in
    omega (arith, signed)
  where
    times : (dx dy ax ay x y d e : ℤ) → e *ℤ (dx *ℤ (y -ℤ ay *ℤ d) -ℤ dy *ℤ (x -ℤ ax *ℤ d)) ≡ dx *ℤ (y *ℤ e -ℤ ay *ℤ (d *ℤ e)) -ℤ dy *ℤ (x *ℤ e -ℤ ax *ℤ (d *ℤ e))
    times dx dy ax ay x y d e = simp multiplied (simp summed (diff-same _ _ _ _ (omega arith)))

    swap : (d e : ℤ) → d *ℤ e ≡ e *ℤ d
    swap d e = simp multiplied

    none : (d : ℤ) → pos 0 *ℤ d ≡ pos 0
    none d = zero-*ℤ d

    scaled : m.d *ℤ area_at s.a s.b q ≡ area_at s.a s.b m *ℤ q.d
    scaled =
        times (s.b.x -ℤ s.a.x) (s.b.y -ℤ s.a.y) s.a.x s.a.y q.x q.y q.d m.d
        ∙ (λ i. (s.b.x -ℤ s.a.x) *ℤ (same.1 i -ℤ s.a.y *ℤ swap q.d m.d i) -ℤ (s.b.y -ℤ s.a.y) *ℤ (same.0 i -ℤ s.a.x *ℤ swap q.d m.d i))
        ∙ sym (times (s.b.x -ℤ s.a.x) (s.b.y -ℤ s.a.y) s.a.x s.a.y m.x m.y m.d q.d)
        ∙ swap q.d (area_at s.a s.b m)

-- ---- what a step of a drawing is seen from
pub alone_on : (S : Drawing) (d t : Segment) (m : RationalPoint) → Plain (steps_of S) → In d (steps_of S) → In t (steps_of S) → IsInside m d → IsOn m t → (t ≡ d) ⊎ (t ≡ back d)
alone_on S d t m plain i j inside on =
    ⊎_elim
    (λ (h : AreApart t d). absurd (h m (on, inside.on)))
    (λ (h : MeetsAtEnds d t ⊎ MeetsAtEnds d (back t)).
    ⊎_elim
    (λ (k : MeetsAtEnds d t). ⊎_elim (λ (e : t ≡ d). inl e) (λ (no : ⊥). absurd no) (meeting t on k))
    (λ (k : MeetsAtEnds d (back t)). ⊎_elim (λ (e : back t ≡ d). inr (ap back e)) (λ (no : ⊥). absurd no) (meeting (back t) (on_round t m on) k))
    h)
    (each_in (Tied d) (steps_of S) (plain.tied d i) t j)
  where
    meeting : (u : Segment) → IsOn m u → MeetsAtEnds d u → (u ≡ d) ⊎ ⊥
    meeting u on k =
        ⊎_elim
        (λ (e : (u.a ≡ d.a) × (u.b ≡ d.b)). inl (λ i. record { a = e.0 i; b = e.1 i }))
        (λ (g : Fork d u ⊎ Fork (back d) u).
        ⊎_elim
        (λ (f : Fork d u). inr (inside.not_first (is_at d.a m (fork_only d u m f inside.on on))))
        (λ (f : Fork (back d) u). inr (inside.not_last (is_at d.b m (fork_only (back d) u m f (on_round d m inside.on) on))))
        g)
        k

on_edge : (e : Edge) (t : Segment) (r : RationalPoint) → IsOfEdge e t → IsOn r t → IsOnEdge r e
on_edge e t r step on =
    ⊎_elim
    (λ (c : Contains (segments_of e.geom) t). (t, (c, on)))
    (λ (c : Contains (segments_of (reverse e.geom)) t). reverse_on e.geom r (t, (c, on)))
    step

pub sees_left : (S : Drawing) (d : Segment) (m q : RationalPoint) → Plain (steps_of S) → In d (steps_of S) → IsInside m d → IsLeftOf q d → Sees S q m → SeesLeftAt (steps_of S) d m q
sees_left S d m q plain i inside left sees = record {
  there = i;
  inside = inside.on;
  not_start = λ h. inside.not_first (is_at d.a m h);
  not_end = λ h. inside.not_last (is_at d.b m h);
  alone = λ t j on. alone_on S d t m plain i j inside on;
  sees = λ t j r on way. ⊎_elim (λ (same : SamePoint r m). same) (λ (not : SamePoint r m → ⊥). absurd (off t r j on (back_on_way m q r way) not)) (same_or_not r m);
  off = λ t j on. off t q j on (own_way q m) (left_is_off d q m left inside.on);
  is_left = left;
}
  where
    off : (t : Segment) (r : RationalPoint) → In t (steps_of S) → IsOn r t → IsOnWay r q m → (SamePoint r m → ⊥) → ⊥
    off t r j on way not = let e = step_edge S.edges t (in_contains t (steps_of S) j) in (sees r way not).0 e.0 e.1.0 (on_edge e.0 t r e.1.1 on)

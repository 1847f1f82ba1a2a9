-- Each step of a drawing is seen from its left: a point of it that is none of the grid, from a point near enough.
use Rattle.std.proofs.Common.{◌≡◌, ℕ, ◌+◌, sym, ◌∙◌, ap, subst, arith, ℤ, pos, ◌+ℤ◌, ◌-ℤ◌, ◌*ℤ◌, ◌<ℤ◌, ◌≤ℤ◌, inl, ⊎_elim, suc}
use Rattle.std.proofs.Math.IntN.{*ℤ-zero}
use Rattle.topo_base.specs.RationalPoint.{RationalPoint, IsAt, IsBetween, SamePoint}
use Rattle.topo_base.specs.declared.rows.NodeRow.{NodeRow}
use Rattle.plane.specs.Crossings.{back}
use Rattle.plane.specs.Direction.{direction_to}
use Rattle.plane.specs.RationalTests.{IsOn, IsOnWay, IsLeftOf, area_at}
use Rattle.plane.specs.Segment.{Segment}
use Rattle.plane.proofs.Collinear.{on_round}
use Rattle.plane.proofs.Directions.{length_positive}
use Rattle.plane.proofs.Ring.{multiplied, signed}
use Rattle.drawing.specs.Drawing.{Drawing}
use Rattle.drawing.specs.Faced.{IsInside, Sees}
use Rattle.parity_laws.specs.Rings.{In, Plain}
use Rattle.face_laws.specs.Walked.{steps_of}
use Rattle.face_laws.proofs.LineSteps.{not_zero}
use Rattle.face_laws.proofs.Lists.{contains_in}
use Rattle.face_laws.proofs.Seen.{alone_on}
use Rattle.face_laws.proofs.StepsOf.{forward_in}
use Rattle.covered_laws.proofs.Weights.{level, only_at_end}
use Rattle.covered_laws.proofs.Near.{near, level_near, square_near, area_level, all_missed, off_grid}

pub record HasView (S : Drawing) (s : Segment) : Type 0 where
  pub seen : RationalPoint
  pub from : RationalPoint
  pub inside : IsInside seen s
  pub is_left : IsLeftOf from s
  pub sees : Sees S from seen

-- ---- a node is a segment without length
abbrev spot : NodeRow → Segment
spot n = record { a = n.geom; b = n.geom }

on_spot : (n : NodeRow) (r : RationalPoint) → IsAt n.geom r → IsOn r (spot n)
on_spot n r at = record {
  straight = none n.geom.x n.geom.y r.x r.y r.d;
  across = inl (same (n.geom.x *ℤ r.d) r.x at.0, same r.x (n.geom.x *ℤ r.d) (sym at.0));
  upward = inl (same (n.geom.y *ℤ r.d) r.y at.1, same r.y (n.geom.y *ℤ r.d) (sym at.1));
}
  where
    none : (x y u v d : ℤ) → (x -ℤ x) *ℤ (v -ℤ y *ℤ d) -ℤ (y -ℤ y) *ℤ (u -ℤ x *ℤ d) ≡ pos 0
    none x y u v d = simp multiplied (omega (arith, signed))

    same : (a b : ℤ) → b ≡ a → a ≤ℤ b
    same a b e = omega (arith, signed)

at_spot : (n : NodeRow) (m : RationalPoint) → IsOn m (spot n) → IsAt n.geom m
at_spot n m on = (one (n.geom.x *ℤ m.d) m.x on.across, one (n.geom.y *ℤ m.d) m.y on.upward)
  where
    one : (a x : ℤ) → IsBetween a x a → x ≡ a
    one a x = ⊎_elim (λ (h : (a ≤ℤ x) × (x ≤ℤ a)). let h0 = h.0 in let h1 = h.1 in omega (arith, signed)) (λ (h : (a ≤ℤ x) × (x ≤ℤ a)). let h0 = h.0 in let h1 = h.1 in omega (arith, signed))

-- ---- a point near m, on the left of s
left_near : (s : Segment) (m : RationalPoint) (k : ℕ) → area_at s.a s.b m ≡ pos 0 → pos 0 <ℤ ((s.a.y -ℤ s.b.y) *ℤ (s.a.y -ℤ s.b.y) +ℤ (s.b.x -ℤ s.a.x) *ℤ (s.b.x -ℤ s.a.x)) →
    IsLeftOf (near m (s.a.y -ℤ s.b.y) (s.b.x -ℤ s.a.x) k) s
left_near s m k on some =
    let q = near m (s.a.y -ℤ s.b.y) (s.b.x -ℤ s.a.x) k in
    let w = (s.b.y -ℤ s.a.y) *ℤ s.a.x -ℤ (s.b.x -ℤ s.a.x) *ℤ s.a.y in
    subst (λ z. pos 0 <ℤ z)
    (sym (area_level s.a.x s.a.y s.b.x s.b.y q.x q.y q.d ∙ level_near (s.a.y -ℤ s.b.y) (s.b.x -ℤ s.a.x) w m (s.a.y -ℤ s.b.y) (s.b.x -ℤ s.a.x) k))
    (added (pos (suc k)) (level (s.a.y -ℤ s.b.y) (s.b.x -ℤ s.a.x) w m) _ (sym (area_level s.a.x s.a.y s.b.x s.b.y m.x m.y m.d) ∙ on) some)
  where
    added : (c l z : ℤ) → l ≡ pos 0 → pos 0 <ℤ z → pos 0 <ℤ (c *ℤ l +ℤ z)
    added c l z e h = let f = ap (λ x. c *ℤ x) e ∙ *ℤ-zero c in omega (arith, signed)

-- what is on the way to m, and on s, is m
only_seen : (s : Segment) (m r : RationalPoint) (k : ℕ) → area_at s.a s.b m ≡ pos 0 → pos 0 <ℤ ((s.a.y -ℤ s.b.y) *ℤ (s.a.y -ℤ s.b.y) +ℤ (s.b.x -ℤ s.a.x) *ℤ (s.b.x -ℤ s.a.x)) →
    IsOnWay r (near m (s.a.y -ℤ s.b.y) (s.b.x -ℤ s.a.x) k) m → IsOn r s → SamePoint r m
only_seen s m r k on some way on_r =
    let q = near m (s.a.y -ℤ s.b.y) (s.b.x -ℤ s.a.x) k in
    let w = (s.b.y -ℤ s.a.y) *ℤ s.a.x -ℤ (s.b.x -ℤ s.a.x) *ℤ s.a.y in
    only_at_end r q m (s.a.y -ℤ s.b.y) (s.b.x -ℤ s.a.x) w (square_near m (s.a.y -ℤ s.b.y) (s.b.x -ℤ s.a.x) k some) way
    (subst (λ z. pos 0 <ℤ z) (area_level s.a.x s.a.y s.b.x s.b.y q.x q.y q.d) (left_near s m k on some))
    (sym (area_level s.a.x s.a.y s.b.x s.b.y m.x m.y m.d) ∙ on)
    (sym (area_level s.a.x s.a.y s.b.x s.b.y r.x r.y r.d) ∙ on_r.straight)

pub has_view : (S : Drawing) (s : Segment) → Plain (steps_of S) → In s (steps_of S) → HasView S s
has_view S s plain i =
    let (m, inner) = off_grid s (plain.proper s i) in
    let dx = s.a.y -ℤ s.b.y in
    let dy = s.b.x -ℤ s.a.x in
    let inside : IsInside m s = record { on = inner.on; not_first = inner.off s.a; not_last = inner.off s.b } in
    let (b, steps) = all_missed (λ (t : Segment). t) (steps_of S) m dx dy some in
    let (c, spots) = all_missed spot S.nodes m dx dy some in
    let k = b + c in
    record {
      seen = m;
      from = near m dx dy k;
      inside = inside;
      is_left = left_near s m k inner.on.straight some;
      sees = λ r way other. (
        λ e there (t, (c, on)).
            let j = forward_in S.edges e t there c in
            steps k (omega arith) t j
            (λ on_m. other (only_seen s m r k inner.on.straight some way
            (⊎_elim
            (λ (same : t ≡ s). subst (IsOn r) same on)
            (λ (same : t ≡ back s). on_round (back s) r (subst (IsOn r) same on))
            (alone_on S s t m plain i (contains_in t (steps_of S) j) inside on_m))))
            r way on,
        λ n there at. spots k (omega arith) n there (λ on_m. inner.off n.geom (at_spot n m on_m)) r way (on_spot n r at),
      );
    }
  where
    some : pos 0 <ℤ ((s.a.y -ℤ s.b.y) *ℤ (s.a.y -ℤ s.b.y) +ℤ (s.b.x -ℤ s.a.x) *ℤ (s.b.x -ℤ s.a.x))
    some = subst (λ z. pos 0 <ℤ z) (turned s.a.x s.a.y s.b.x s.b.y) (length_positive (direction_to s.a s.b) (not_zero s (plain.proper s i)))
      where
        turned : (ax ay bx by : ℤ) → (bx -ℤ ax) *ℤ (bx -ℤ ax) +ℤ (by -ℤ ay) *ℤ (by -ℤ ay) ≡ (ay -ℤ by) *ℤ (ay -ℤ by) +ℤ (bx -ℤ ax) *ℤ (bx -ℤ ax)
        turned ax ay bx by = simp multiplied (omega (arith, signed))

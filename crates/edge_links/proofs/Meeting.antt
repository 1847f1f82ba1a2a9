-- Two segments from one point in one direction have more than that point in common.
use Rattle.std.proofs.Common.{◌≡◌, sym, ◌∙◌, ap, arith, ℤ, pos, ◌-ℤ◌, ◌*ℤ◌, ◌<ℤ◌, ◌≤ℤ◌, ◌⊎◌, inl, inr, ⊎_elim}
use Rattle.std.specs.Prelude.{neg_ℤ}
use Rattle.std.proofs.Math.IntN.{zero-*ℤ}
use Rattle.topo_base.specs.Point.{Point}
use Rattle.topo_base.specs.RationalPoint.{rational, IsAt, SamePoint, IsBetween}
use Rattle.plane.specs.Direction.{direction_to, OneDirection, IsNotZero, cross}
use Rattle.plane.specs.Relation.{HaveMore}
use Rattle.plane.specs.RationalTests.{IsOn}
use Rattle.plane.proofs.Directions.{multiple_of_one, one_turned}
use Rattle.plane.proofs.Middle.{cancel_le}
use Rattle.plane.proofs.Points.{point_on}
use Rattle.plane.proofs.Ring.{signed, mul_comm, neg_mul}
use Rattle.plane.proofs.SegmentParts.{segment, start_on, end_on}
use Rattle.plane.proofs.Signs.{mul_le, mul_not_negative, order, times_one}

-- x k is y m, where k is at most m: y is no longer than x
shorter : (x y k m : ℤ) → pos 0 ≤ℤ x → pos 0 <ℤ k → k ≤ℤ m → k *ℤ x ≡ m *ℤ y → (pos 0 ≤ℤ y) × (y ≤ℤ x)
shorter x y k m hx hk le e =
    let hm : pos 0 <ℤ m = omega (arith, signed) in
    let hk' : pos 0 ≤ℤ k = omega (arith, signed) in
    let same : y *ℤ m ≡ k *ℤ x = mul_comm y m ∙ sym e in
    let above = mul_not_negative k x hk' hx in
    let most : (k *ℤ x) ≤ℤ (m *ℤ x) = mul_le k m x le hx in
    let turn : x *ℤ m ≡ m *ℤ x = mul_comm x m in
    let none : pos 0 *ℤ m ≡ pos 0 = zero-*ℤ m in (
      cancel_le (pos 0) y m hm (omega (arith, signed)),
      cancel_le y x m hm (omega (arith, signed)),
    )

between_of : (p a b k m : ℤ) → pos 0 <ℤ k → k ≤ℤ m → k *ℤ (a -ℤ p) ≡ m *ℤ (b -ℤ p) → IsBetween p b a
between_of p a b k m hk le e =
    ⊎_elim
    (λ (h : p ≤ℤ a). let s = shorter (a -ℤ p) (b -ℤ p) k m (omega (arith, signed)) hk le e in let low = s.0 in let high = s.1 in inl (omega (arith, signed), omega (arith, signed)))
    (λ (h : a <ℤ p).
    let e' : k *ℤ neg_ℤ (a -ℤ p) ≡ m *ℤ neg_ℤ (b -ℤ p) = turned k (a -ℤ p) ∙ ap neg_ℤ e ∙ sym (turned m (b -ℤ p)) in
    let s = shorter (neg_ℤ (a -ℤ p)) (neg_ℤ (b -ℤ p)) k m (omega (arith, signed)) hk le e' in
    let low = s.0 in
    let high = s.1 in
    inr (omega (arith, signed), omega (arith, signed)))
    (sides p a)
  where
    turned : (k x : ℤ) → k *ℤ neg_ℤ x ≡ neg_ℤ (k *ℤ x)
    turned k x = mul_comm k (neg_ℤ x) ∙ neg_mul x k ∙ ap neg_ℤ (mul_comm x k)

    sides : (p a : ℤ) → (p ≤ℤ a) ⊎ (a <ℤ p)
    sides p a = ⊎_elim (λ (h : a <ℤ p). inr h) (λ (h : p ≤ℤ a). inl h) (order a p)

-- b is on the way from p to a
near_on : (p a b : Point) (k m : ℤ) → pos 0 <ℤ k → k ≤ℤ m → cross (direction_to p a) (direction_to p b) ≡ pos 0 → k *ℤ (a.x -ℤ p.x) ≡ m *ℤ (b.x -ℤ p.x) → k *ℤ (a.y -ℤ p.y) ≡ m *ℤ (b.y -ℤ p.y) → IsOn (rational b) (segment p a)
near_on p a b k m hk le straight ex ey = point_on (segment p a) b straight (between_of p.x a.x b.x k m hk le ex) (between_of p.y a.y b.y k m hk le ey)

at_own : (p : Point) → IsAt p (rational p)
at_own p = (sym (times_one p.x), sym (times_one p.y))

differ_as_points : (p b : Point) → IsNotZero (direction_to p b) → SamePoint (rational p) (rational b) → ⊥
differ_as_points p b some same =
    let ex : p.x ≡ b.x = sym (times_one p.x) ∙ same.0 ∙ times_one b.x in
    let ey : p.y ≡ b.y = sym (times_one p.y) ∙ same.1 ∙ times_one b.y in
    some (omega (arith, signed)) (omega (arith, signed))

pub have_more : (p a b : Point) → IsNotZero (direction_to p a) → IsNotZero (direction_to p b) → OneDirection (direction_to p a) (direction_to p b) → HaveMore (segment p a) (segment p b)
have_more p a b ha hb one =
    let w = multiple_of_one (direction_to p a) (direction_to p b) one in
    let start_a = start_on (segment p a) (rational p) (at_own p) in
    let start_b = start_on (segment p b) (rational p) (at_own p) in
    ⊎_elim
    (λ (h : w.1 <ℤ w.0).
    let le : w.1 ≤ℤ w.0 = weak w.1 w.0 h in
    (rational p, (rational a, ((start_a, start_b), (end_on (segment p a) (rational a) (at_own a), near_on p b a w.1 w.0 w.2.1 le (one_turned (direction_to p a) (direction_to p b) one).straight (sym w.2.2) (sym w.2.3)), differ_as_points p a ha))))
    (λ (h : w.0 ≤ℤ w.1).
    (rational p, (rational b, ((start_a, start_b), (near_on p a b w.0 w.1 w.2.0 h one.straight w.2.2 w.2.3, end_on (segment p b) (rational b) (at_own b)), differ_as_points p b hb))))
    (order w.1 w.0)
  where
    weak : (a b : ℤ) → a <ℤ b → a ≤ℤ b
    weak a b h = omega (arith, signed)

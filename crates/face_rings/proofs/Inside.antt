-- Two segments that leave a point in one direction have a point inside both.
use Rattle.std.proofs.Common.{◌≡◌, ◌≢◌, refl, sym, subst, arith, ℤ, pos, ◌+ℤ◌, ◌-ℤ◌, ◌*ℤ◌, ◌<ℤ◌, ◌≤ℤ◌, inl, inr, ⊎_elim}
use Rattle.std.proofs.Math.IntN.{zero-*ℤ}
use Rattle.topo_base.specs.Point.{Point}
use Rattle.topo_base.specs.RationalPoint.{RationalPoint, IsAt, IsBetween}
use Rattle.plane.specs.Direction.{Direction, direction_to, dot, IsNotZero, OneDirection}
use Rattle.plane.specs.RationalTests.{IsOn}
use Rattle.plane.proofs.Ring.{multiplied, signed}
use Rattle.plane.proofs.Signs.{mul_not_negative, mul_positive, no_zero_divisor, order, times_one}
use Rattle.plane.proofs.SegmentParts.{segment}
use Rattle.plane.proofs.Directions.{multiple_of_one}

-- ---- directions that are not zero
pub first_not_zero : (u v : Direction) → OneDirection u v → IsNotZero u
first_not_zero u v one e f =
    let g : dot u v ≡ pos 0 = rw (e, f, zero-*ℤ v.dx, zero-*ℤ v.dy) refl in
    let ahead = one.ahead in
    omega (arith, signed)

-- ---- n of d parts of the way from p to a
abbrev along : ℤ → ℤ → ℤ → ℤ → ℤ
along p a n d = p *ℤ d +ℤ n *ℤ (a -ℤ p)

along_between : (p a n d : ℤ) → pos 0 ≤ℤ n → n ≤ℤ d → IsBetween (p *ℤ d) (along p a n d) (a *ℤ d)
along_between p a n d low high =
    let rest : pos 0 ≤ℤ (d -ℤ n) = omega (arith, signed) in
    ⊎_elim
    (λ (h : p <ℤ a).
    let up : pos 0 ≤ℤ (a -ℤ p) = omega (arith, signed) in
    let one = simp multiplied at (mul_not_negative n (a -ℤ p) low up) in
    let two = simp multiplied at (mul_not_negative (d -ℤ n) (a -ℤ p) rest up) in
    inl (simp multiplied (omega (arith, signed)), simp multiplied (omega (arith, signed))))
    (λ (h : a ≤ℤ p).
    let down : pos 0 ≤ℤ (p -ℤ a) = omega (arith, signed) in
    let one = simp multiplied at (mul_not_negative n (p -ℤ a) low down) in
    let two = simp multiplied at (mul_not_negative (d -ℤ n) (p -ℤ a) rest down) in
    inr (simp multiplied (omega (arith, signed)), simp multiplied (omega (arith, signed))))
    (order p a)

along_straight : (px py ax ay n d : ℤ) → (ax -ℤ px) *ℤ (along py ay n d -ℤ py *ℤ d) -ℤ (ay -ℤ py) *ℤ (along px ax n d -ℤ px *ℤ d) ≡ pos 0
along_straight px py ax ay n d = simp multiplied (omega (arith, signed))

abbrev point_along : (p a : Point) (n d : ℤ) → pos 0 <ℤ d → RationalPoint
point_along p a n d whole = record { x = along p.x a.x n d; y = along p.y a.y n d; d = d; whole = whole }

along_on : (p a : Point) (n d : ℤ) (whole : pos 0 <ℤ d) → pos 0 ≤ℤ n → n ≤ℤ d → IsOn (point_along p a n d whole) (segment p a)
along_on p a n d whole low high = record {
  straight = along_straight p.x p.y a.x a.y n d;
  across = along_between p.x a.x n d low high;
  upward = along_between p.y a.y n d low high;
}

-- it is neither end
start_gap : (p a n d : ℤ) → along p a n d ≡ p *ℤ d → n *ℤ (a -ℤ p) ≡ pos 0
start_gap p a n d e = omega (arith, signed)

end_gap : (p a n d : ℤ) → along p a n d ≡ a *ℤ d → (d -ℤ n) *ℤ (a -ℤ p) ≡ pos 0
end_gap p a n d e = let f = simp multiplied at e in simp multiplied (omega (arith, signed))

along_start : (p a : Point) (n d : ℤ) (whole : pos 0 <ℤ d) → IsNotZero (direction_to p a) → pos 0 <ℤ n → IsAt p (point_along p a n d whole) → ⊥
along_start p a n d whole some low (ex, ey) =
    let apart : n ≢ pos 0 = λ e. omega (arith, signed) in
    some (no_zero_divisor n (a.x -ℤ p.x) (start_gap p.x a.x n d ex) apart) (no_zero_divisor n (a.y -ℤ p.y) (start_gap p.y a.y n d ey) apart)

along_end : (p a : Point) (n d : ℤ) (whole : pos 0 <ℤ d) → IsNotZero (direction_to p a) → n <ℤ d → IsAt a (point_along p a n d whole) → ⊥
along_end p a n d whole some high (ex, ey) =
    let apart : (d -ℤ n) ≢ pos 0 = λ e. omega (arith, signed) in
    some (no_zero_divisor (d -ℤ n) (a.x -ℤ p.x) (end_gap p.x a.x n d ex) apart) (no_zero_divisor (d -ℤ n) (a.y -ℤ p.y) (end_gap p.y a.y n d ey) apart)

-- ---- a point inside both
pub record IsInside (p a : Point) (q : RationalPoint) : Type 0 where
  pub on : IsOn q (segment p a)
  pub not_start : IsAt p q → ⊥
  pub not_end : IsAt a q → ⊥

inside_along : (p a : Point) (n d : ℤ) (whole : pos 0 <ℤ d) → IsNotZero (direction_to p a) → pos 0 <ℤ n → n <ℤ d → IsInside p a (point_along p a n d whole)
inside_along p a n d whole some low high = record {
  on = along_on p a n d whole (omega (arith, signed)) (omega (arith, signed));
  not_start = along_start p a n d whole some low;
  not_end = along_end p a n d whole some high;
}

abbrev twice : ℤ → ℤ → ℤ
twice k m = k *ℤ m +ℤ k *ℤ m

below_twice : (n m p w : ℤ) → w ≡ p +ℤ p → pos 0 <ℤ p → pos 0 ≤ℤ (p -ℤ n) → n <ℤ w
below_twice n m p w e some h = omega (arith, signed)

twice_more : (k m : ℤ) → pos 0 <ℤ k → pos 0 <ℤ m → (k <ℤ twice k m) × (m <ℤ twice k m)
twice_more k m hk hm =
    let one = mul_positive k m hk hm in
    let two : pos 0 ≤ℤ (k *ℤ m -ℤ k) = first k m (mul_not_negative k (m -ℤ pos 1) (omega (arith, signed)) (omega (arith, signed))) in
    let three : pos 0 ≤ℤ (k *ℤ m -ℤ m) = second k m (mul_not_negative (k -ℤ pos 1) m (omega (arith, signed)) (omega (arith, signed))) in
    (below_twice k m (k *ℤ m) (twice k m) refl one two, below_twice m k (k *ℤ m) (twice k m) refl one three)
  where
    first : (k m : ℤ) → pos 0 ≤ℤ (k *ℤ (m -ℤ pos 1)) → pos 0 ≤ℤ (k *ℤ m -ℤ k)
    first k m h = let e = times_one k in let g = simp multiplied at h in omega (arith, signed)

    second : (k m : ℤ) → pos 0 ≤ℤ ((k -ℤ pos 1) *ℤ m) → pos 0 ≤ℤ (k *ℤ m -ℤ m)
    second k m h = let e = times_one m in let g = simp multiplied at h in omega (arith, signed)

pub inside_both : (p a b : Point) → OneDirection (direction_to p a) (direction_to p b) → IsNotZero (direction_to p b) → (q : RationalPoint) × (IsInside p a q × IsInside p b q)
inside_both p a b one some_b =
    let (k, m, (hk, hm, ex, ey)) = multiple_of_one (direction_to p a) (direction_to p b) one in
    let some_a = first_not_zero (direction_to p a) (direction_to p b) one in
    let more = twice_more k m hk hm in
    let d = twice k m in
    let whole : pos 0 <ℤ d = omega (arith, signed) in
    let q = point_along p a k d whole in
    let r = point_along p b m d whole in
    let same : r ≡ q = λ i. record { x = p.x *ℤ d +ℤ (sym ex) i; y = p.y *ℤ d +ℤ (sym ey) i; d = d; whole = whole } in
    (q, (inside_along p a k d whole some_a hk more.0, subst (IsInside p b) same (inside_along p b m d whole some_b hm more.1)))

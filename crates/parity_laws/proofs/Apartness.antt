-- Two steps with one start and no other common rational point leave it in two directions.
use Rattle.std.proofs.Common.{◌≡◌, ◌≢◌, refl, sym, ◌∙◌, ap, subst, arith, ℤ, pos, ◌-ℤ◌, ◌*ℤ◌, ◌<ℤ◌, ◌≤ℤ◌, ◌⊎◌, inl, inr, ⊎_elim, Bool, true, false}
use Rattle.std.specs.Prelude.{neg_ℤ, int_lt}
use Rattle.std.proofs.lemmas.Bool.{both_ways}
use Rattle.std.proofs.Math.IntN.{*ℤ-zero}
use Rattle.plane.proofs.Ring.{multiplied, signed}
use Rattle.plane.proofs.Signs.{order, mul_positive, no_zero_divisor, times_one}
use Rattle.plane.proofs.Collinear.{on_round}
use Rattle.plane.proofs.Points.{point_on}
use Rattle.plane.proofs.LineLemmas.{end_on as on_between}
use Rattle.topo_base.specs.Point.{Point}
use Rattle.plane.specs.Segment.{Segment}
use Rattle.topo_base.specs.RationalPoint.{RationalPoint, IsBetween, rational, SamePoint}
use Rattle.plane.specs.RationalTests.{IsOn}
use Rattle.plane.specs.Orientation.{area}
use Rattle.plane.specs.Direction.{Direction, direction_to, cross}
use Rattle.parity_laws.specs.Steps.{direction, rightward}
use Rattle.parity_laws.specs.Ways.{Apart, Fork}
use Rattle.parity_laws.proofs.Tests.{area_turned, crossed_turned, zero_neg, area_back}
use Rattle.parity_laws.proofs.Across.{end_on}
use Rattle.plane.proofs.Tests.{yes_lt, no_lt}

-- two directions that are not apart: one half, and parallel
pub record NotApart (u w : Direction) : Type 0 where
  pub half : rightward u ≡ rightward w
  pub line : cross u w ≡ pos 0

decide : (u w : Direction) → Apart u w ⊎ NotApart u w
decide u w = by_tests (rightward u) (rightward w) (int_lt (cross u w) (pos 0)) (int_lt (cross w u) (pos 0)) refl refl refl refl
  where
    flat : int_lt (cross u w) (pos 0) ≡ false → int_lt (cross w u) (pos 0) ≡ false → cross u w ≡ pos 0
    flat e f = zero (cross u w) (cross w u) (crossed_turned u w) (no_lt (cross u w) (pos 0) e) (no_lt (cross w u) (pos 0) f)
      where
        zero : (x y : ℤ) → y ≡ neg_ℤ x → pos 0 ≤ℤ x → pos 0 ≤ℤ y → x ≡ pos 0
        zero x y e h k = omega (arith, signed)

    by_tests : (a b c d : Bool) → rightward u ≡ a → rightward w ≡ b → int_lt (cross u w) (pos 0) ≡ c → int_lt (cross w u) (pos 0) ≡ d → Apart u w ⊎ NotApart u w
    by_tests true false c d ea eb ec ed = inl (inl (rw (ea, eb)))
    by_tests false true c d ea eb ec ed = inl (inr (rw (ea, eb)))
    by_tests true true true d ea eb ec ed = inl (inl (rw (ea, eb, ec)))
    by_tests true true false true ea eb ec ed = inl (inr (rw (ea, eb, ed)))
    by_tests true true false false ea eb ec ed = inr (record { half = ea ∙ sym eb; line = flat ec ed })
    by_tests false false true d ea eb ec ed = inl (inl (rw (ea, eb, ec)))
    by_tests false false false true ea eb ec ed = inl (inr (rw (ea, eb, ed)))
    by_tests false false false false ea eb ec ed = inr (record { half = ea ∙ sym eb; line = flat ec ed })

-- the half of a direction by its numbers
record Half (u : Direction) : Type 0 where
  right : rightward u ≡ true → u.dx ≤ℤ pos 0 → (u.dx ≡ pos 0) × (u.dy <ℤ pos 0)
  not_left : rightward u ≡ true → pos 0 ≤ℤ u.dx
  left : rightward u ≡ false → pos 0 ≤ℤ u.dx → (u.dx ≡ pos 0) × (pos 0 ≤ℤ u.dy)
  not_right : rightward u ≡ false → u.dx ≤ℤ pos 0

half_of : (u : Direction) → Half u
half_of u = by_tests (int_lt (pos 0) u.dx) (int_lt u.dx (pos 0)) (int_lt u.dy (pos 0)) refl refl refl
  where
    by_tests : (a b c : Bool) → int_lt (pos 0) u.dx ≡ a → int_lt u.dx (pos 0) ≡ b → int_lt u.dy (pos 0) ≡ c → Half u
    by_tests true b c ea eb ec =
        let h = yes_lt (pos 0) u.dx ea in
        let t : rightward u ≡ true = rw ea in
        record { right = λ e k. absurd (omega (arith, signed)); not_left = λ e. omega (arith, signed); left = λ e. absurd (clash t e); not_right = λ e. absurd (clash t e) }
      where
        clash : rightward u ≡ true → rightward u ≡ false → ⊥
        clash e f = both_ways (rightward u) f e
    by_tests false true c ea eb ec =
        let h = yes_lt u.dx (pos 0) eb in
        let t : rightward u ≡ false = rw (ea, eb) in
        record { right = λ e. absurd (both_ways (rightward u) t e); not_left = λ e. absurd (both_ways (rightward u) t e); left = λ e k. absurd (omega (arith, signed)); not_right = λ e. omega (arith, signed) }
    by_tests false false true ea eb ec =
        let h = no_lt (pos 0) u.dx ea in
        let k = no_lt u.dx (pos 0) eb in
        let l = yes_lt u.dy (pos 0) ec in
        let t : rightward u ≡ true = rw (ea, eb, ec) in
        record { right = λ e m. (omega (arith, signed), l); not_left = λ e. k; left = λ e. absurd (both_ways (rightward u) e t); not_right = λ e. absurd (both_ways (rightward u) e t) }
    by_tests false false false ea eb ec =
        let h = no_lt (pos 0) u.dx ea in
        let k = no_lt u.dx (pos 0) eb in
        let l = no_lt u.dy (pos 0) ec in
        let t : rightward u ≡ false = rw (ea, eb, ec) in
        record { right = λ e. absurd (both_ways (rightward u) t e); not_left = λ e. absurd (both_ways (rightward u) t e); left = λ e m. (omega (arith, signed), l); not_right = λ e. h }

right_too : (u w : Direction) → pos 0 <ℤ u.dx → rightward w ≡ true → u.dx *ℤ w.dy -ℤ u.dy *ℤ w.dx ≡ pos 0 → pos 0 <ℤ w.dx
right_too u w h e z =
    ⊎_elim
    (λ (g : pos 0 <ℤ w.dx). g)
    (λ (g : w.dx ≤ℤ pos 0).
    let k = (half_of w).right e g in
    let m = simp multiplied at (mul_positive u.dx (neg_ℤ w.dy) h (minus w.dy k.1)) in
    let n = ap (λ q. u.dy *ℤ q) k.0 ∙ *ℤ-zero u.dy in
    absurd (last (u.dx *ℤ w.dy) (u.dy *ℤ w.dx) z n m))
    (order (pos 0) w.dx)
  where
    minus : (x : ℤ) → x <ℤ pos 0 → pos 0 <ℤ neg_ℤ x
    minus x h = omega (arith, signed)

    last : (x y : ℤ) → x -ℤ y ≡ pos 0 → y ≡ pos 0 → pos 0 <ℤ neg_ℤ x → ⊥
    last x y e f h = omega (arith, signed)

left_too : (u w : Direction) → u.dx <ℤ pos 0 → rightward w ≡ false → (w.dx ≡ pos 0 → w.dy ≡ pos 0 → ⊥) → u.dx *ℤ w.dy -ℤ u.dy *ℤ w.dx ≡ pos 0 → w.dx <ℤ pos 0
left_too u w h e nz z =
    ⊎_elim
    (λ (g : w.dx <ℤ pos 0). g)
    (λ (g : pos 0 ≤ℤ w.dx).
    let k = (half_of w).left e g in
    let y = no_zero_divisor u.dx w.dy (rest (u.dx *ℤ w.dy) (u.dy *ℤ w.dx) z (ap (λ q. u.dy *ℤ q) k.0 ∙ *ℤ-zero u.dy)) (λ q. omega (arith, signed)) in
    absurd (nz k.0 y))
    (order w.dx (pos 0))
  where
    rest : (a b : ℤ) → a -ℤ b ≡ pos 0 → b ≡ pos 0 → a ≡ pos 0
    rest a b e f = omega (arith, signed)

upright_on : (a p q : Point) → p.x ≡ a.x → q.x ≡ a.x → IsBetween a.y p.y q.y → area a q p ≡ pos 0 → IsOn (rational p) (record { a = a; b = q })
upright_on a p q e f h z = point_on (record { a = a; b = q }) p z (inl (omega (arith, signed), omega (arith, signed))) h

-- of two points from a in one direction, one is on the way to the other
pub one_between : (a b z : Point) → b ≢ a → z ≢ a → NotApart (direction (record { a = a; b = z })) (direction (record { a = a; b = b })) →
    IsOn (rational b) (record { a = a; b = z }) ⊎ IsOn (rational z) (record { a = a; b = b })
one_between a b z nb nz h = by_half (rightward (direction (record { a = a; b = z }))) refl
  where
    u : Direction
    u = direction_to a z

    w : Direction
    w = direction_to a b

    line' : area a b z ≡ pos 0
    line' = zero_neg (area a b z) (area a z b) (area_turned a b z) h.line

    not_zero : (p : Point) → p ≢ a → p.x -ℤ a.x ≡ pos 0 → p.y -ℤ a.y ≡ pos 0 → ⊥
    not_zero p n e f =
        let ex : p.x ≡ a.x = omega (arith, signed) in
        let ey : p.y ≡ a.y = omega (arith, signed) in
        n (λ i. record { x = ex i; y = ey i })

    to_right : pos 0 <ℤ (z.x -ℤ a.x) → pos 0 <ℤ (b.x -ℤ a.x) → IsOn (rational b) (record { a = a; b = z }) ⊎ IsOn (rational z) (record { a = a; b = b })
    to_right f g =
        ⊎_elim
        (λ (k : b.x <ℤ z.x). inl (on_between (record { a = a; b = z }) b (omega (arith, signed)) (omega (arith, signed)) (omega (arith, signed)) h.line))
        (λ (k : z.x ≤ℤ b.x). inr (on_between (record { a = a; b = b }) z (omega (arith, signed)) (omega (arith, signed)) k line'))
        (order b.x z.x)

    back_line : cross w u ≡ pos 0
    back_line = crossed_turned u w ∙ neg_zero (cross u w) h.line
      where
        neg_zero : (x : ℤ) → x ≡ pos 0 → neg_ℤ x ≡ pos 0
        neg_zero x e = omega (arith, signed)

    below : (x y : ℤ) → (x -ℤ y) <ℤ pos 0 → x <ℤ y
    below x y h = omega (arith, signed)

    over_it : (x y : ℤ) → pos 0 ≤ℤ (x -ℤ y) → y ≤ℤ x
    over_it x y h = omega (arith, signed)

    round_line : (p q : Point) → area a q p ≡ pos 0 → area q a p ≡ pos 0
    round_line p q e = zero_neg (area q a p) (area a q p) (area_back a q p) e

    to_left : (z.x -ℤ a.x) <ℤ pos 0 → (b.x -ℤ a.x) <ℤ pos 0 → IsOn (rational b) (record { a = a; b = z }) ⊎ IsOn (rational z) (record { a = a; b = b })
    to_left f g =
        ⊎_elim
        (λ (k : z.x <ℤ b.x). inl (on_round (record { a = z; b = a }) (rational b) (on_between (record { a = z; b = a }) b (omega (arith, signed)) (omega (arith, signed)) (omega (arith, signed)) (round_line b z h.line))))
        (λ (k : b.x ≤ℤ z.x). inr (on_round (record { a = b; b = a }) (rational z) (on_between (record { a = b; b = a }) z (omega (arith, signed)) k (omega (arith, signed)) (round_line z b line'))))
        (order z.x b.x)

    upright : z.x -ℤ a.x ≡ pos 0 → b.x -ℤ a.x ≡ pos 0 → ((z.y <ℤ a.y) × (b.y <ℤ a.y)) ⊎ ((a.y ≤ℤ z.y) × (a.y ≤ℤ b.y)) → IsOn (rational b) (record { a = a; b = z }) ⊎ IsOn (rational z) (record { a = a; b = b })
    upright e f g =
        ⊎_elim
        (λ (k : z.y <ℤ b.y).
        ⊎_elim
        (λ (q : (z.y <ℤ a.y) × (b.y <ℤ a.y)). let q1 = q.1 in inl (upright_on a b z (omega (arith, signed)) (omega (arith, signed)) (inr (omega (arith, signed), omega (arith, signed))) h.line))
        (λ (q : (a.y ≤ℤ z.y) × (a.y ≤ℤ b.y)). let q0 = q.0 in inr (upright_on a z b (omega (arith, signed)) (omega (arith, signed)) (inl (q0, omega (arith, signed))) line'))
        g)
        (λ (k : b.y ≤ℤ z.y).
        ⊎_elim
        (λ (q : (z.y <ℤ a.y) × (b.y <ℤ a.y)). let q0 = q.0 in inr (upright_on a z b (omega (arith, signed)) (omega (arith, signed)) (inr (k, omega (arith, signed))) line'))
        (λ (q : (a.y ≤ℤ z.y) × (a.y ≤ℤ b.y)). let q1 = q.1 in inl (upright_on a b z (omega (arith, signed)) (omega (arith, signed)) (inl (q1, k)) h.line))
        g)
        (order z.y b.y)

    by_half : (r : Bool) → rightward (direction (record { a = a; b = z })) ≡ r → IsOn (rational b) (record { a = a; b = z }) ⊎ IsOn (rational z) (record { a = a; b = b })
    by_half true e =
        ⊎_elim
        (λ (k : pos 0 <ℤ (z.x -ℤ a.x)). to_right k (right_too u w k (sym h.half ∙ e) h.line))
        (λ (k : (z.x -ℤ a.x) ≤ℤ pos 0).
        let m = (half_of u).right e k in
        let low : (b.x -ℤ a.x) ≤ℤ pos 0 = ⊎_elim (λ (q : pos 0 <ℤ (b.x -ℤ a.x)). let c = right_too w u q e back_line in let c0 = m.0 in absurd (omega (arith, signed))) (λ (q : (b.x -ℤ a.x) ≤ℤ pos 0). q) (order (pos 0) (b.x -ℤ a.x)) in
        let n = (half_of w).right (sym h.half ∙ e) low in
        let m1 = m.1 in
        let n1 = n.1 in
        upright m.0 n.0 (inl (below z.y a.y m1, below b.y a.y n1)))
        (order (pos 0) (z.x -ℤ a.x))
    by_half false e =
        ⊎_elim
        (λ (k : (z.x -ℤ a.x) <ℤ pos 0). to_left k (left_too u w k (sym h.half ∙ e) (not_zero b nb) h.line))
        (λ (k : pos 0 ≤ℤ (z.x -ℤ a.x)).
        let m = (half_of u).left e k in
        let low : pos 0 ≤ℤ (b.x -ℤ a.x) = ⊎_elim (λ (q : (b.x -ℤ a.x) <ℤ pos 0). let c = left_too w u q e (not_zero z nz) back_line in let c0 = m.0 in absurd (omega (arith, signed))) (λ (q : pos 0 ≤ℤ (b.x -ℤ a.x)). q) (order (b.x -ℤ a.x) (pos 0)) in
        let n = (half_of w).left (sym h.half ∙ e) low in
        upright m.0 n.0 (inr (over_it z.y a.y m.1, over_it b.y a.y n.1)))
        (order (z.x -ℤ a.x) (pos 0))

-- two steps with one start, and no other common rational point, are a fork
pub fork_from : (s t : Segment) → t.a ≡ s.a → s.a ≢ s.b → t.a ≢ t.b → ((r : RationalPoint) → IsOn r s → IsOn r t → SamePoint r (rational s.a)) → Fork s t
fork_from s t e ns nt only = record {
  start = e;
  not_start = λ f. nt (e ∙ sym f);
  not_end = λ f. ns (sym (same_points s.b s.a (only (rational s.b) (end_on s) (subst (λ p. IsOn (rational p) t) f (end_on t)))));
  apart = subst (λ p. Apart (direction (record { a = p; b = t.b })) (direction s)) (sym e) apart_there;
}
  where
    same_points : (p q : Point) → SamePoint (rational p) (rational q) → p ≡ q
    same_points p q f =
        let ex = sym (times_one p.x) ∙ f.0 ∙ times_one q.x in
        let ey = sym (times_one p.y) ∙ f.1 ∙ times_one q.y in
        λ i. record { x = ex i; y = ey i }

    apart_there : Apart (direction (record { a = s.a; b = t.b })) (direction s)
    apart_there =
        ⊎_elim
        (λ (g : Apart (direction (record { a = s.a; b = t.b })) (direction s)). g)
        (λ (g : NotApart (direction (record { a = s.a; b = t.b })) (direction s)).
        absurd (⊎_elim
        (λ (k : IsOn (rational s.b) (record { a = s.a; b = t.b })). ns (sym (same_points s.b s.a (only (rational s.b) (end_on s) (subst (λ p. IsOn (rational s.b) (record { a = p; b = t.b })) (sym e) k)))))
        (λ (k : IsOn (rational t.b) (record { a = s.a; b = s.b })). nt (e ∙ sym (same_points t.b s.a (only (rational t.b) k (end_on t)))))
        (one_between s.a s.b t.b (λ f. ns (sym f)) (λ f. nt (e ∙ sym f)) g)))
        (decide (direction (record { a = s.a; b = t.b })) (direction s))

use Rattle.std.proofs.Common.{◌≡◌, ◌↔◌, ◌^◌, arith, FitsSigned, w64, ℤ, pos, ◌-ℤ◌, ◌<ℤ◌, ◌≤ℤ◌, Option, IsSome, ap, ⊎_elim, rules}
use Rattle.std.specs.Prelude.{IsNone, is_some}
use Rattle.std.proofs.lemmas.Int.{to_z-of_z}
use Rattle.std.proofs.lemmas.Bool.{both_ways, false_from_ne_true}
use Rattle.topo_base.specs.Point.{Point}
use Rattle.topo_base.specs.Within.{IsWithin}
use Rattle.plane.proofs.Ring.{signed}
use Rattle.plane.proofs.Signs.{order}
use Rattle.plane.specs.Direction.{Direction, direction_to, IsGridDirection, IsNotZero}
use Rattle.grid_angle.proofs.dir.Dir.between.Goals as goal

zero_or_not : (u : Direction) → (P : Type 0) → (u.dx ≡ pos 0 → u.dy ≡ pos 0 → P) → (IsNotZero u → P) → P
zero_or_not u P zero some =
    by_zero u.dx
    (λ e. by_zero u.dy (zero e) (λ f. some (λ g. f)))
    (λ e. some (λ g. absurd (e g)))
  where
    by_zero : (z : ℤ) → (z ≡ pos 0 → P) → ((z ≡ pos 0 → ⊥) → P) → P
    by_zero z here other =
        ⊎_elim
        (λ (h : z <ℤ pos 0). other (λ e. omega (arith, signed)))
        (λ (h : pos 0 ≤ℤ z). ⊎_elim (λ (g : pos 0 <ℤ z). other (λ e. omega (arith, signed))) (λ (g : z ≤ℤ pos 0). here (omega (arith, signed))) (order (pos 0) z))
        (order z (pos 0))

none_where_equal : (p q : Point) (o : Option Direction) → IsWithin (2 ^ 41) (q.x -ℤ p.x) → IsWithin (2 ^ 41) (q.y -ℤ p.y) → IsSome o ↔ IsGridDirection (direction_to p q) → IsNone o ↔ p ≡ q
none_where_equal p q o across upward some = (to, from)
  where
    joined : q.x -ℤ p.x ≡ pos 0 → q.y -ℤ p.y ≡ pos 0 → p ≡ q
    joined e f =
        let ex : p.x ≡ q.x = omega (arith, signed) in
        let ey : p.y ≡ q.y = omega (arith, signed) in
        λ i. record { x = ex i; y = ey i }

    to : IsNone o → p ≡ q
    to n = zero_or_not (direction_to p q) (p ≡ q) joined (λ k. absurd (both_ways (is_some o) n (some.1 (record { right = across; upward = upward; some = k }))))

    from : p ≡ q → IsNone o
    from e =
        let ex : p.x ≡ q.x = ap (λ (r : Point). r.x) e in
        let ey : p.y ≡ q.y = ap (λ (r : Point). r.y) e in
        false_from_ne_true (is_some o) (λ h. (some.0 h).some (omega (arith, signed)) (omega (arith, signed)))

pub returns-clause-none : goal.returns-clause-none
returns-clause-none c =
    let f1 : FitsSigned w64 c.across.result = search rules in
    let f2 : FitsSigned w64 c.upward.result = search rules in
    let e = simp to_z-of_z at c.of.ensures.range in
    none_where_equal c.args.from c.args.to c.of.result
    (rw (← c.across.ensures.value) c.across.ensures.within)
    (rw (← c.upward.ensures.value) c.upward.ensures.within)
    (simp (c.across.ensures.value, c.upward.ensures.value) at e)

pub returns-clause-value : goal.returns-clause-value
returns-clause-value c =
    let f1 : FitsSigned w64 c.across.result = search rules in
    let f2 : FitsSigned w64 c.upward.result = search rules in
    let e = simp to_z-of_z at c.of.ensures.value in
    simp (c.across.ensures.value, c.upward.ensures.value) at e

use Rattle.std.proofs.Common.{◌≡◌, sym, subst, arith, ℤ, pos, ◌≤ℤ◌, false}
use Rattle.topo_base.specs.Point.{Point}
use Rattle.plane.proofs.Ring.{multiplied, signed}
use Rattle.plane.proofs.Tests.{lt_no}
use Rattle.plane.specs.Orientation.{area, is_right}
use Rattle.grid_rays.proofs.above.is_right_of.Goals as goal

no_side : (p q : Point) → is_right p p q ≡ false
no_side p q = lt_no (area p p q) (pos 0) (nothing (area p p q) flat)
  where
    flat : area p p q ≡ pos 0
    flat = simp multiplied (omega (arith, signed))

    nothing : (a : ℤ) → a ≡ pos 0 → pos 0 ≤ℤ a
    nothing a e = omega (arith, signed)

pub returns-in-None : goal.returns-in-None
returns-in-None c = subst (λ q. false ≡ is_right c.args.from q c.args.p) c.in-None.ensures (sym (no_side c.args.from c.args.p))

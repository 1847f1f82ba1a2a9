use Rattle.std.proofs.Common.{◌≡◌, sym, ap, subst, arith, ℤ, pos, ◌≤ℤ◌, true}
use Rattle.std.specs.Prelude.{is_some}
use Rattle.std.proofs.lemmas.Bool.{or_left, eq-eqb}
use Rattle.topo_base.specs.Point.{Point}
use Rattle.plane.proofs.Ring.{multiplied, signed}
use Rattle.plane.proofs.Directions.{in_front}
use Rattle.plane.specs.Direction.{Direction, cross, dot, quarter, same_direction, is_nearer, in_wedge, direction_to, straight_up}
use Rattle.grid_rays.proofs.shells.opens_upward.Goals as goal

zero_level : (a : ℤ) → a ≡ pos 0 → pos 0 ≤ℤ a
zero_level a e = omega (arith, signed)

-- no way at all has every direction
open_back : (p : Point) (v w : Direction) → true ≡ in_wedge (direction_to p p) v w
open_back p v w = sym (or_left (same_direction (direction_to p p) v) (is_nearer (direction_to p p) w v) (eq-eqb (quarter (direction_to p p) v) 0 (in_front (cross (direction_to p p) v) (dot (direction_to p p) v) flat (zero_level (dot (direction_to p p) v) level))))
  where
    flat : cross (direction_to p p) v ≡ pos 0
    flat = simp multiplied (omega (arith, signed))

    level : dot (direction_to p p) v ≡ pos 0
    level = simp multiplied (omega (arith, signed))

open_ahead : (p : Point) (u w : Direction) → true ≡ in_wedge u (direction_to p p) w
open_ahead p u w = sym (or_left (same_direction u (direction_to p p)) (is_nearer u w (direction_to p p)) (eq-eqb (quarter u (direction_to p p)) 0 (in_front (cross u (direction_to p p)) (dot u (direction_to p p)) flat (zero_level (dot u (direction_to p p)) level))))
  where
    flat : cross u (direction_to p p) ≡ pos 0
    flat = simp multiplied (omega (arith, signed))

    level : dot u (direction_to p p) ≡ pos 0
    level = simp multiplied (omega (arith, signed))

pub returns-in_default : goal.returns-in_default
returns-in_default c =
    subst (λ q. true ≡ in_wedge (direction_to c.args.at q) (direction_to c.args.at c.args.after) straight_up) (c.between.ensures.none.0 (ap is_some c.in_default.is))
    (open_back c.args.at (direction_to c.args.at c.args.after) straight_up)

pub returns-in_default-between : goal.returns-in_default-between
returns-in_default-between c =
    subst (λ q. true ≡ in_wedge (direction_to c.args.at c.args.before) (direction_to c.args.at q) straight_up) (c.between-2.ensures.none.0 (ap is_some c.in_default-between.is))
    (open_ahead c.args.at (direction_to c.args.at c.args.before) straight_up)

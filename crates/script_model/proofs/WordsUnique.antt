-- Points are known by their words.
use Rattle.std.proofs.Common.{◌≡◌, ◌<◌, ◌^◌, ℤ, pos, negsuc, neg_ℤ, Bool, true, false, IsTrue, refl, arith}
use Rattle.std.specs.Int.Signed.{mag}
use Rattle.std.specs.Prelude.{int_le}
use Rattle.std.specs.Fmt.{signed_decimal}
use Rattle.std.proofs.lemmas.Bool.{and_parts, and_from}
use Rattle.std.proofs.lemmas.Fmt.{signed_decimal_injective}
use Rattle.std.proofs.lemmas.Int.{ints}
use Rattle.std.proofs.lemmas.Float.{T_from_true}
use Rattle.std.proofs.Math.Dec.{T}
use Rattle.topo_base.specs.Point.{Point, IsCoordinate, IsOnGrid}
use Rattle.drawing.specs.InRange.{is_coordinate, is_grid_point}

-- a coordinate in range, by its test and as a fact
pub coordinate_in_range : (z : ℤ) → IsTrue (is_coordinate z) → IsCoordinate z
coordinate_in_range z h =
    let parts = and_parts (int_le (neg_ℤ (pos (2 ^ 40))) z) (int_le z (pos (2 ^ 40))) h in
    record { low = record { le = T_from_true _ parts.0 }; high = record { le = T_from_true _ parts.1 } }

true_from_T : (b : Bool) → T b → b ≡ true
true_from_T true h = refl
true_from_T false h = absurd h

pub coordinate_tested : (z : ℤ) → IsCoordinate z → IsTrue (is_coordinate z)
coordinate_tested z h = and_from _ _ (true_from_T _ h.low.le) (true_from_T _ h.high.le)

-- the same for a point
pub point_in_range : (p : Point) → IsTrue (is_grid_point p) → IsOnGrid p
point_in_range p h = let parts = and_parts (is_coordinate p.x) (is_coordinate p.y) h in (coordinate_in_range p.x parts.0, coordinate_in_range p.y parts.1)

pub point_tested : (p : Point) → IsOnGrid p → IsTrue (is_grid_point p)
point_tested p h = and_from _ _ (coordinate_tested p.x h.0) (coordinate_tested p.y h.1)

pub coordinate_mag : (n : ℤ) → IsCoordinate n → mag n < 2 ^ 63
coordinate_mag (pos n) h = omega (arith, ints, h.high)
coordinate_mag (negsuc n) h = omega (arith, ints, h.low)

pub point_unique : (p q : Point) → IsTrue (is_grid_point p) → IsTrue (is_grid_point q) → signed_decimal p.x ≡ signed_decimal q.x → signed_decimal p.y ≡ signed_decimal q.y → p ≡ q
point_unique p q g h x y =
    let gs = point_in_range p g in
    let hs = point_in_range q h in
    let ex = signed_decimal_injective p.x q.x (coordinate_mag p.x gs.0) (coordinate_mag q.x hs.0) x in
    let ey = signed_decimal_injective p.y q.y (coordinate_mag p.y gs.1) (coordinate_mag q.y hs.1) y in
    λ i. record { x = ex i; y = ey i }

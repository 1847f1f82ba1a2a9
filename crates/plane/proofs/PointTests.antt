-- The tests of points say what their names say.
use Rattle.std.proofs.Common.{◌≡◌, sym, arith, ℤ, pos, ◌<ℤ◌, ◌≤ℤ◌, true, ◌&&◌}
use Rattle.std.specs.Prelude.{int_le, int_lt}
use Rattle.std.specs.Ordering.{int_eq}
use Rattle.std.specs.Bool.{Decides}
use Rattle.std.proofs.lemmas.Int.{ints}
use Rattle.std.proofs.lemmas.Bool.Decides.{Decides-int_eq, Decides-and, Decides-or}
use Rattle.topo_base.specs.Point.{Point, same_point}
use Rattle.topo_base.specs.RationalPoint.{rational, IsBetween}
use Rattle.plane.specs.Orientation.{area, is_straight}
use Rattle.plane.specs.Segment.{Segment, is_between, on_segment}
use Rattle.plane.specs.RationalTests.{IsOn}
use Rattle.plane.specs.Relation.{SameCoordinates}
use Rattle.plane.proofs.Points.{IsPointOn, point_on_is}

pub Decides-int_le : (x y : ℤ) → Decides (int_le x y) (x ≤ℤ y)
Decides-int_le x y = (λ e. yes x y e, λ h. no x y h)
  where
    yes : (x y : ℤ) → int_le x y ≡ true → x ≤ℤ y
    yes x y e = omega (arith, ints)

    no : (x y : ℤ) → x ≤ℤ y → int_le x y ≡ true
    no x y h = let f : true ≡ int_le x y = omega (arith, ints) in sym f

pub Decides-int_lt : (x y : ℤ) → Decides (int_lt x y) (x <ℤ y)
Decides-int_lt x y = (λ e. yes x y e, λ h. no x y h)
  where
    yes : (x y : ℤ) → int_lt x y ≡ true → x <ℤ y
    yes x y e = omega (arith, ints)

    no : (x y : ℤ) → x <ℤ y → int_lt x y ≡ true
    no x y h = let f : true ≡ int_lt x y = omega (arith, ints) in sym f

pub Decides-between : (a m b : ℤ) → Decides (is_between a m b) (IsBetween a m b)
Decides-between a m b =
    Decides-or (int_le a m && int_le m b) (int_le b m && int_le m a)
    (Decides-and (int_le a m) (int_le m b) (Decides-int_le a m) (Decides-int_le m b))
    (Decides-and (int_le b m) (int_le m a) (Decides-int_le b m) (Decides-int_le m a))

pub Decides-straight : (a b p : Point) → Decides (is_straight a b p) (area a b p ≡ pos 0)
Decides-straight a b p = Decides-int_eq (area a b p) (pos 0)

pub Decides-on_segment : (p : Point) (s : Segment) → Decides (on_segment p s) (IsOn (rational p) s)
Decides-on_segment p s =
    let straight = Decides-straight s.a s.b p in
    let across = Decides-between s.a.x p.x s.b.x in
    let upward = Decides-between s.a.y p.y s.b.y in
    let both = Decides-and (is_straight s.a s.b p) (is_between s.a.x p.x s.b.x) straight across in
    let all = Decides-and (is_straight s.a s.b p && is_between s.a.x p.x s.b.x) (is_between s.a.y p.y s.b.y) both upward in
    let e = point_on_is s p in
    (λ h. let k = all.0 h in e.0 (k.0.0, k.0.1, k.1), λ on. let k : IsPointOn s p = e.1 on in all.1 ((k.0, k.1), k.2))

pub Decides-same_point : (p r : Point) → Decides (same_point p r) (SameCoordinates p r)
Decides-same_point p r = Decides-and (int_eq p.x r.x) (int_eq p.y r.y) (Decides-int_eq p.x r.x) (Decides-int_eq p.y r.y)

-- When a whole point is on a segment.
use Rattle.std.proofs.Common.{◌≡◌, ◌↔◌, pos}
use Rattle.plane.proofs.Signs.{times_one}
use Rattle.topo_base.specs.Point.{Point}
use Rattle.plane.specs.Segment.{Segment}
use Rattle.plane.specs.RationalTests.{IsOn}
use Rattle.topo_base.specs.RationalPoint.{IsBetween, rational}
use Rattle.plane.specs.Orientation.{area}

-- p is on s, by whole numbers
abbrev pub IsPointOn : Segment → Point → Type 0
IsPointOn s p = (area s.a s.b p ≡ pos 0) × IsBetween s.a.x p.x s.b.x × IsBetween s.a.y p.y s.b.y

pub point_on : (s : Segment) (p : Point) → area s.a s.b p ≡ pos 0 → IsBetween s.a.x p.x s.b.x → IsBetween s.a.y p.y s.b.y → IsOn (rational p) s
point_on s p e f g = record {
  straight = rw (times_one s.a.x, times_one s.a.y) e;
  across = rw (times_one s.a.x, times_one s.b.x) f;
  upward = rw (times_one s.a.y, times_one s.b.y) g;
}

pub point_straight : (s : Segment) (p : Point) → IsOn (rational p) s → area s.a s.b p ≡ pos 0
point_straight s p on = rw (times_one s.a.x, times_one s.a.y) at on.straight

pub point_across : (s : Segment) (p : Point) → IsOn (rational p) s → IsBetween s.a.x p.x s.b.x
point_across s p on = rw (times_one s.a.x, times_one s.b.x) at on.across

pub point_upward : (s : Segment) (p : Point) → IsOn (rational p) s → IsBetween s.a.y p.y s.b.y
point_upward s p on = rw (times_one s.a.y, times_one s.b.y) at on.upward

pub point_on_is : (s : Segment) (p : Point) → IsPointOn s p ↔ IsOn (rational p) s
point_on_is s p = (λ h. point_on s p h.0 h.1 h.2, λ on. (point_straight s p on, point_across s p on, point_upward s p on))

-- What two closed segments have in common, by the signs of areas alone.
use Rattle.std.specs.Prelude.{ℤ, Bool, not, ◌&&◌, ◌||◌, int_lt, int_le}
use Rattle.std.specs.Int.{int_min, int_max}
use Rattle.topo_base.specs.Point.{Point}
use Rattle.plane.specs.Orientation.{is_left, is_right, is_straight}

-- the straight way from a to b
pub record Segment : Type 0 where
  pub a : Point
  pub b : Point

-- m is between a and b, in either order
abbrev pub is_between : ℤ → ℤ → ℤ → Bool
is_between a m b = int_le a m && int_le m b || int_le b m && int_le m a

-- p lies on the closed segment s
abbrev pub on_segment : Point → Segment → Bool
on_segment p s = is_straight s.a s.b p && is_between s.a.x p.x s.b.x && is_between s.a.y p.y s.b.y

-- the ends of s are strictly on one side of t
abbrev pub is_beside : Segment → Segment → Bool
is_beside s t = is_left t.a t.b s.a && is_left t.a t.b s.b || is_right t.a t.b s.a && is_right t.a t.b s.b

-- the intervals a b and c d have a common number, or more than one
abbrev pub intervals_meet : ℤ → ℤ → ℤ → ℤ → Bool
intervals_meet a b c d = int_le (int_min c d) (int_max a b) && int_le (int_min a b) (int_max c d)

abbrev pub intervals_overlap : ℤ → ℤ → ℤ → ℤ → Bool
intervals_overlap a b c d = int_lt (int_max (int_min a b) (int_min c d)) (int_min (int_max a b) (int_max c d))

-- s and t have a common point
abbrev pub touches : Segment → Segment → Bool
touches s t =
    not (is_beside s t) && not (is_beside t s) && intervals_meet s.a.x s.b.x t.a.x t.b.x && intervals_meet s.a.y s.b.y t.a.y t.b.y

-- s and t are on one straight line and have more than one common point
abbrev pub overlaps : Segment → Segment → Bool
overlaps s t =
    is_straight t.a t.b s.a && is_straight t.a t.b s.b && is_straight s.a s.b t.a && is_straight s.a s.b t.b
    && (intervals_overlap s.a.x s.b.x t.a.x t.b.x || intervals_overlap s.a.y s.b.y t.a.y t.b.y)

-- p lies on both
abbrev pub shares : Point → Segment → Segment → Bool
shares p s t = on_segment p s && on_segment p t

-- s and t have one common point, and it is p
abbrev pub touches_at : Point → Segment → Segment → Bool
touches_at p s t = shares p s t && not (overlaps s t)

-- s and t have no common point but p and q
abbrev pub meets_only_at : Point → Point → Segment → Segment → Bool
meets_only_at p q s t = not (touches s t) || touches_at p s t || touches_at q s t

-- Crossings straight above a point, and their parity.
use Rattle.std.specs.Prelude.{Bool, true, false, not, ◌&&◌, ◌||◌, int_lt, int_le, List, [], ◌∷◌}
use Rattle.topo_base.specs.Point.{Point}
use Rattle.plane.specs.Orientation.{is_right}
use Rattle.plane.specs.Segment.{Segment}

abbrev pub xor : Bool → Bool → Bool
xor true b = not b
xor false b = b

-- the way from a to b, which goes to the right, is strictly above q, or begins straight above it
abbrev pub passes_above : Point → Point → Point → Bool
passes_above a b q = int_le a.x q.x && int_lt q.x b.x && is_right a b q

-- the segment is over q: strictly above it, the right end left out
abbrev pub is_over : Point → Segment → Bool
is_over q s = passes_above s.a s.b q || passes_above s.b s.a q

-- an odd number of these are over q
abbrev pub is_odd_over : Point → List Segment → Bool
is_odd_over q [] = false
is_odd_over q (s ∷ ss) = xor (is_over q s) (is_odd_over q ss)

use Rattle.std.proofs.Common.{◌≡◌, ◌-◌}
use Rattle.entry_codec.specs.Reading.{many, point_at}
use Rattle.entry_codec.proofs.Loops.{with_front}
use Rattle.entry_codec.proofs.parts.points_of.Given as goal

-- the points so far and those of the rest are all of them
abbrev pub invariant-loop : goal.invariant-loop
invariant-loop l = with_front l.points.items (many point_at (l.count - l.counter) l.rest) ≡ many point_at l.count l.bytes

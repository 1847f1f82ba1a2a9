use Rattle.std.proofs.Common.{◌≡◌, ◌-◌}
use Rattle.entry_codec.specs.Reading.{many, pair_at}
use Rattle.entry_codec.proofs.Loops.{with_front}
use Rattle.entry_codec.proofs.parts.each_of.Given as goal

-- the elements so far and those of the rest are all of them
abbrev pub invariant-loop : goal.invariant-loop
invariant-loop l = with_front l.pairs.items (many pair_at (l.count - l.counter) l.rest) ≡ many pair_at l.count l.bytes

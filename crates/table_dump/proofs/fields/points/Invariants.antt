use Rattle.std.proofs.Common.{◌≡◌, ◌-◌}
use Rattle.table_dump.specs.Lines.{words_behind}
use Rattle.table_dump.specs.Words.{many, point_at}
use Rattle.table_dump.proofs.Loops.{with_front}
use Rattle.table_dump.proofs.fields.points.Given as goal

-- the points so far and those of the rest are all of them
abbrev pub invariant-loop : goal.invariant-loop
invariant-loop l = with_front l.points.items (many point_at (l.count - l.counter) (words_behind l.rest)) ≡ many point_at l.count (words_behind l.words)

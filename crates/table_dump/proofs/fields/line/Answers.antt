use Rattle.std.proofs.Common.{arith}
use Rattle.table_dump.specs.Lines.{words_behind}
use Rattle.table_dump.specs.Words.{point_at}
use Rattle.table_dump.proofs.Loops.{many_length}
use Rattle.table_dump.proofs.WordLaws.{count_is}
use Rattle.table_dump.proofs.fields.line.Goals as goal

pub unreachable-requires : goal.unreachable-requires
unreachable-requires c =
    let size = many_length point_at c.in_ok-count.count (words_behind c.in_ok-count.rest.now) c.in_ok-vertices.vertices.items (words_behind c.in_ok-vertices.rest.now) c.in_ok-vertices.ensures in
    let some = count_is (words_behind c.args.words.now) c.in_ok-count.count (words_behind c.in_ok-count.rest.now) c.in_ok-count.ensures in
    omega (arith, size, c.in-Err.ensures.short, some)

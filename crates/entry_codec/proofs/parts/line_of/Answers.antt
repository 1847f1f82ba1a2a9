use Rattle.std.proofs.Common.{arith}
use Rattle.entry_codec.specs.Reading.{point_at}
use Rattle.entry_codec.proofs.Loops.{many_length}
use Rattle.entry_codec.proofs.parts.line_of.Goals as goal

pub unreachable-requires : goal.unreachable-requires
unreachable-requires c =
    let size = many_length point_at c.in_ok-count.count c.in_ok-count.rest.now c.in_ok-vertices.vertices.items c.in_ok-vertices.rest.now c.in_ok-vertices.ensures in
    omega (arith, size, c.in-Err.ensures.short, c.if-count-lt2.false)

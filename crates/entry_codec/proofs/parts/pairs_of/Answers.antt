use Rattle.std.proofs.Common.{arith}
use Rattle.entry_codec.specs.Reading.{pair_at}
use Rattle.entry_codec.proofs.Loops.{many_length}
use Rattle.entry_codec.proofs.parts.pairs_of.Goals as goal

pub unreachable-requires : goal.unreachable-requires
unreachable-requires c =
    let size = many_length pair_at c.in_ok-count.count c.in_ok-count.rest.now c.in_ok-pairs.pairs.items c.in_ok-pairs.rest.now c.in_ok-pairs.ensures in
    omega (arith, size, c.in-Err.ensures.long, c.if-count-gt-MOST.false)

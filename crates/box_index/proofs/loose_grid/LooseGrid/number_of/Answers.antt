use Rattle.std.proofs.Common.{arith}
use Rattle.box_index.proofs.Gaps.{none_of}
use Rattle.box_index.proofs.loose_grid.LooseGrid.number_of.Goals as goal

pub returns : goal.returns
returns c =
    none_of c.args.self.now c.requires.grid c.args.entry.now c.args.cell c.args.count c.requires.cell c.requires.count
    (λ n below e found. c.loop-number.invariant n (omega arith) e found)

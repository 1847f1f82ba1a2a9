use Rattle.std.proofs.Common.{ap, length, arith}
use Rattle.drawing.specs.Places.{rows_of}
use Rattle.drawing_queries.proofs.RowTests.{sum_ones, all_fit}
use Rattle.drawing_queries.proofs.conditions.is_at_other.Goals as goal

pub any_row-requires : goal.any_row-requires
any_row-requires g c = all_fit (rows_of c.nodes.result.now)

pub returns-clause-counted : goal.returns-clause-counted
returns-clause-counted g c =
    let ones = sum_ones (rows_of c.nodes.result.now) in
    let all = ap length c.nodes.ensures in
    omega arith

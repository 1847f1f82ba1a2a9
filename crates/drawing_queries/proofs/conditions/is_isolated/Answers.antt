use Rattle.std.proofs.Common.{ap, length, arith}
use Rattle.drawing.specs.Places.{rows_of}
use Rattle.drawing_queries.proofs.RowTests.{sum_ones, all_fit, isolated_rows}
use Rattle.drawing_queries.proofs.conditions.is_isolated.Goals as goal

pub any_row-requires : goal.any_row-requires
any_row-requires g c = all_fit (rows_of c.edges.result.now)

pub returns-clause-test : goal.returns-clause-test
returns-clause-test g c =
    isolated_rows c.args.tables.now.rows c.args.node (rows_of c.edges.result.now) c.any_row.result c.edges.ensures c.any_row.ensures.test

pub returns-clause-counted : goal.returns-clause-counted
returns-clause-counted g c =
    let ones = sum_ones (rows_of c.edges.result.now) in
    let all = ap length c.edges.ensures in
    omega arith

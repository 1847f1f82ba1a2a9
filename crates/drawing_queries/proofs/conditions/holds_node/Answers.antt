use Rattle.std.proofs.Common.{◌∙◌, ◌+◌, ◌*◌, ap, arith, length, List}
use Rattle.topo_base.specs.declared.rows.NodeRow.{NodeRow}
use Rattle.plane.specs.LinePoints.{has_proper_segments}
use Rattle.drawing.specs.Places.{rows_of}
use Rattle.drawing_queries.proofs.RowTests.{same_fit, sum_same}
use Rattle.drawing_queries.proofs.conditions.holds_node.Goals as goal

pub any_row-requires : goal.any_row-requires
any_row-requires g c = same_fit (has_proper_segments c.args.line.now) (rows_of c.nodes.result.now) c.requires

pub returns-clause-counted : goal.returns-clause-counted
returns-clause-counted g c =
    let most = 1 + length c.args.line.now in
    let all = sum_same most (rows_of c.nodes.result.now) ∙ ap (λ (rows : List NodeRow). most * length rows) c.nodes.ensures in
    omega arith

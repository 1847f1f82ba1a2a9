use Rattle.std.proofs.Common.{arith}
use Rattle.plane.proofs.Walks.{few_segments}
use Rattle.drawing_queries.proofs.location.is_odd_border.Goals as goal

pub returns-then-has_two_faces-clause-counted : goal.returns-then-has_two_faces-clause-counted
returns-then-has_two_faces-clause-counted g c =
    let few = few_segments c.args.row.now.geom in
    let walked = c.crossings_above.ensures.steps in
    let ticked = c.tick.ensures in
    omega arith

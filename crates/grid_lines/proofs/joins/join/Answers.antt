use Rattle.std.proofs.Common.{◌≡◌, arith, rules}
use Rattle.plane.specs.Line.{joined}
use Rattle.grid_lines.proofs.Joining.{join_points_of}
use Rattle.grid_lines.proofs.joins.join.Goals as goal

pub returns-clause-points : goal.returns-clause-points
returns-clause-points c =
    let is : c.unwrap.result ≡ joined c.args.a.now c.args.b.now = search rules in
    λ q. join_points_of q c.unwrap.result c.args.a.now c.args.b.now is (omega arith) (omega arith) c.requires

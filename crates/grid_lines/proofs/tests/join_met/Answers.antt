use Rattle.std.proofs.Common.{◌≡◌, sym, ◌∙◌, true}
use Rattle.topo_base.specs.Point.{same_point}
use Rattle.plane.proofs.PointTests.{Decides-same_point}
use Rattle.grid_lines.proofs.Splitting.{same_points}
use Rattle.grid_lines.proofs.tests.join_met.Goals as goal

pub join-requires : goal.join-requires
join-requires c =
    let p = c.last_of.result in
    let q = c.first_of.result in
    let same : same_point p q ≡ true = sym c.is_same_point.ensures ∙ c.if-not-is_same_point.false in
    sym c.last_of.ensures ∙ same_points p q ((Decides-same_point p q).0 same) ∙ c.first_of.ensures

use Rattle.std.proofs.Common.{sym, ◌∙◌}
use Rattle.plane.proofs.PointTests.{Decides-on_segment}
use Rattle.grid_segments.proofs.points.on_segment.Goals as goal

pub returns-clause-on : goal.returns-clause-on
returns-clause-on c =
    let e = c.is_in_place.ensures in
    let f = Decides-on_segment c.args.p c.args.s.now in
    (λ h. f.0 (sym e ∙ h), λ on. e ∙ f.1 on)

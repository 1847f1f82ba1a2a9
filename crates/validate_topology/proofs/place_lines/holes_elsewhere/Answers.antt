use Rattle.std.proofs.Common.{◌≡◌, ◌∙◌, ◌++◌, append_assoc, ap, false, true, flat_map, map}
use Rattle.std.specs.Prelude.{reverse}
use Rattle.validate_topology.specs.PlaceLines.{hole_line}
use Rattle.validate_topology.specs.Walks.{ring_in}
use Rattle.validate_topology.proofs.place_lines.holes_elsewhere.Goals as goal

pub returns : goal.returns
returns g c = λ above tells.
    let all = map ring_in c.args.walks.now in
    let back = flat_map (hole_line above false) (reverse all) in
    let forth = flat_map (hole_line above true) all in
    c.in_ok-forward_holes.ensures above tells ∙ ap (λ ls. ls ++ forth) (c.in_ok-backward_holes.ensures above tells) ∙ append_assoc c.args.report.now back forth

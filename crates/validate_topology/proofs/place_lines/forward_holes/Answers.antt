use Rattle.std.proofs.Common.{true}
use Rattle.validate_topology.specs.PlaceLines.{hole_line}
use Rattle.validate_topology.proofs.HoleLines.{forward_pushed}
use Rattle.validate_topology.proofs.place_lines.forward_holes.Goals as goal

pub loop-walk-preserved : goal.loop-walk-preserved
loop-walk-preserved g c = λ above tells.
    forward_pushed (hole_line above true) c.args.walks.now c.loop-walk.walk-index c.walk-item.result c.args.report.now c.loop-walk.report c.hole_line.new.report c.loop-walk-test.true c.walk-item.is
    (c.loop-walk.invariant above tells) (c.in_ok-hole_line.ensures above tells)

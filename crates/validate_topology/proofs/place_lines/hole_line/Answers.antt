use Rattle.std.proofs.Common.{◌≡◌, ◌∙◌, ◌++◌, append-nil, ap, sym}
use Rattle.drawing.specs.Ring.{is_hole}
use Rattle.validate_topology.specs.Walks.{ring_in}
use Rattle.validate_topology.proofs.HoleLines.{hole_by, no_hole, no_shell_by}
use Rattle.validate_topology.proofs.place_lines.hole_line.Goals as goal

pub returns-then-walk : goal.returns-then-walk
returns-then-walk g c = λ above tells.
    let w = c.args.walk.now in
    let none = no_hole above c.args.is_forward (ring_in w) (hole_by w.is_shell (is_hole (ring_in w)) c.requires.walk.shell c.if-walk.true) in
    sym (append-nil c.args.report.now) ∙ ap (λ ls. c.args.report.now ++ ls) (sym none)

pub begun_hole-requires-clause-hole : goal.begun_hole-requires-clause-hole
begun_hole-requires-clause-hole g c =
    let w = c.args.walk.now in
    no_shell_by w.is_shell (is_hole (ring_in w)) c.requires.walk.shell c.if-walk.false

use Rattle.std.proofs.Common.{◌∙◌, ◌++◌, [], ap, append-nil, cond, sym}
use Rattle.validate_topology.specs.RingLines.{side_line}
use Rattle.validate_topology.specs.Walks.{halves_of}
use Rattle.validate_topology.specs.declared.sides.Side.{Side}
use Rattle.validate_topology.proofs.RingWalks.{at, nothing}
use Rattle.validate_topology.proofs.SideLines.{forward_pushed}
use Rattle.validate_topology.proofs.ring_lines.forward_sides.Goals as goal
use Rattle.validate_topology.proofs.ring_lines.forward_sides.Goals.{then-sides-place+in_ok-side_at, else-sides-place}

pub loop-place-preserved : goal.loop-place-preserved
loop-place-preserved c =
    let hs = halves_of c.args.sides.now in
    let place = c.loop-place.place in
    let line = side_line hs (at hs place) in
    let step = forward_pushed c.args.sides.now place c.index-sides-place.result c.args.report.now c.loop-place.report c.if-sides-place.report c.loop-place-test.true c.index-sides-place.is c.loop-place.invariant in
    elim c.if-sides-place.branch [
      | then-sides-place+in_ok-side_at w ↦ step (w.report-is ∙ w.in_ok-side_at.ensures nothing ∙ ap (λ b. c.loop-place.report ++ cond b line []) (sym (ap (λ (x : Side). x.is_forward) c.index-sides-place.is ∙ w.if-sides-place.true)))
      | else-sides-place w ↦ step (w.report-is ∙ sym (append-nil c.loop-place.report) ∙ ap (λ b. c.loop-place.report ++ cond b line []) (sym (ap (λ (x : Side). x.is_forward) c.index-sides-place.is ∙ w.if-sides-place.false)))
    ]

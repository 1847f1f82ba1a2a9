use Rattle.std.proofs.Common.{◌∙◌, ◌-◌, ◌++◌, [], ap, append-nil, arith, cond, not, sym}
use Rattle.validate_topology.specs.RingLines.{side_line}
use Rattle.validate_topology.specs.Walks.{halves_of}
use Rattle.validate_topology.specs.declared.sides.Side.{Side}
use Rattle.validate_topology.proofs.RingWalks.{at, nothing}
use Rattle.validate_topology.proofs.SideLines.{back_pushed}
use Rattle.validate_topology.proofs.ring_lines.backward_sides.Goals as goal

pub loop-left-preserved-in-Continue-1 : goal.loop-left-preserved-in-Continue-1
loop-left-preserved-in-Continue-1 c =
    let hs = halves_of c.args.sides.now in
    let left = c.loop-left.left in
    let line = side_line hs (at hs (left - 1)) in
    let some = c.loop-left-test.true in
    let within = c.loop-left.invariant.within in
    record {
      within = omega arith;
      lines = back_pushed c.args.sides.now left c.index-sides-left.result c.args.report.now c.loop-left.report c.side_at.new.report (omega arith) within c.index-sides-left.is c.loop-left.invariant.lines
          (c.in_ok-side_at.ensures nothing ∙ ap (λ b. c.loop-left.report ++ cond (not b) line []) (sym (ap (λ (x : Side). x.is_forward) c.index-sides-left.is ∙ c.if-not-sides-left.true)));
    }

pub loop-left-preserved : goal.loop-left-preserved
loop-left-preserved c =
    let hs = halves_of c.args.sides.now in
    let left = c.loop-left.left in
    let line = side_line hs (at hs (left - 1)) in
    let some = c.loop-left-test.true in
    let within = c.loop-left.invariant.within in
    record {
      within = omega arith;
      lines = back_pushed c.args.sides.now left c.index-sides-left.result c.args.report.now c.loop-left.report c.loop-left.report (omega arith) within c.index-sides-left.is c.loop-left.invariant.lines
          (sym (append-nil c.loop-left.report) ∙ ap (λ b. c.loop-left.report ++ cond (not b) line []) (sym (ap (λ (x : Side). x.is_forward) c.index-sides-left.is ∙ c.if-not-sides-left.false)));
    }

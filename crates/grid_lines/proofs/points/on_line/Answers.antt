use Rattle.std.proofs.Common.{◌≡◌, ◌∙◌, sym, ap, arith}
use Rattle.plane.specs.Line.{on_line}
use Rattle.plane.specs.Segment.{on_segment}
use Rattle.grid_lines.proofs.Tested.{any_on, any_met, any_end}
use Rattle.grid_lines.proofs.points.on_line.Goals as goal

pub returns-then-on_segment-clause-test : goal.returns-then-on_segment-clause-test
returns-then-on_segment-clause-test g c =
    let vs = c.vertices-vertices.result.now in
    let is : vs ≡ c.args.line.now = c.vertices-vertices.ensures.vertices in
    let on = sym c.on_segment.ensures.test ∙ c.if-on_segment.true in
    sym (ap (on_line c.args.p) (sym is) ∙ c.loop-i.invariant.test ∙ any_met (on_segment c.args.p) vs c.loop-i.i c.segment.result c.segment.ensures on)

pub loop-i-preserved : goal.loop-i-preserved
loop-i-preserved g c =
    let vs = c.vertices-vertices.result.now in
    let off = sym c.on_segment.ensures.test ∙ c.if-on_segment.false in
    record {
      test = c.loop-i.invariant.test ∙ any_on (on_segment c.args.p) vs c.loop-i.i c.segment.result c.segment.ensures off;
      counted = omega arith;
    }

pub returns-clause-test : goal.returns-clause-test
returns-clause-test g c =
    let vs = c.vertices-vertices.result.now in
    let is : vs ≡ c.args.line.now = c.vertices-vertices.ensures.vertices in
    sym (ap (on_line c.args.p) (sym is) ∙ c.loop-i.invariant.test ∙ any_end (on_segment c.args.p) vs c.loop-i.i (omega arith))

use Rattle.std.proofs.Common.{sym, ◌∙◌, arith}
use Rattle.grid_lines.proofs.Splitting.{IsSegmentAt, up_at, up_past, from_at, from_past, line_at, line_past, line_end}
use Rattle.grid_lines.proofs.splits.find_segment.Goals as goal

pub returns-then-on_segment-clause-up_to : goal.returns-then-on_segment-clause-up_to
returns-then-on_segment-clause-up_to c =
    let at : IsSegmentAt c.args.vertices.now c.loop-i.i c.segment.result = record { within = omega arith; is = c.segment.ensures } in
    let on = sym c.on_segment.ensures.test ∙ c.if-on_segment.true in
    up_at c.args.p c.args.vertices.now c.loop-i.i c.segment.result at on c.loop-i.invariant.up_to

pub returns-then-on_segment-clause-from : goal.returns-then-on_segment-clause-from
returns-then-on_segment-clause-from c =
    let at : IsSegmentAt c.args.vertices.now c.loop-i.i c.segment.result = record { within = omega arith; is = c.segment.ensures } in
    let on = sym c.on_segment.ensures.test ∙ c.if-on_segment.true in
    c.loop-i.invariant.from ∙ from_at c.args.p c.args.vertices.now c.loop-i.i c.segment.result at on

pub returns-then-on_segment-clause-on : goal.returns-then-on_segment-clause-on
returns-then-on_segment-clause-on c =
    let at : IsSegmentAt c.args.vertices.now c.loop-i.i c.segment.result = record { within = omega arith; is = c.segment.ensures } in
    let on = sym c.on_segment.ensures.test ∙ c.if-on_segment.true in
    c.loop-i.invariant.on ∙ line_at c.args.p c.args.vertices.now c.loop-i.i c.segment.result at on

pub loop-i-preserved : goal.loop-i-preserved
loop-i-preserved c =
    let vs = c.args.vertices.now in
    let at : IsSegmentAt vs c.loop-i.i c.segment.result = record { within = omega arith; is = c.segment.ensures } in
    let off = sym c.on_segment.ensures.test ∙ c.if-on_segment.false in
    record {
      on = c.loop-i.invariant.on ∙ line_past c.args.p vs c.loop-i.i c.segment.result at off;
      up_to = up_past c.args.p vs c.loop-i.i c.segment.result at off c.loop-i.invariant.up_to;
      from = c.loop-i.invariant.from ∙ from_past c.args.p vs c.loop-i.i c.segment.result at off;
    }

pub returns-clause-off : goal.returns-clause-off
returns-clause-off c = c.loop-i.invariant.on ∙ line_end c.args.p c.args.vertices.now c.loop-i.i (omega arith)

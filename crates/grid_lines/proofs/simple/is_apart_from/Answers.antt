use Rattle.std.proofs.Common.{◌≡◌, ◌-◌, length, sym, ◌∙◌, arith}
use Rattle.grid_lines.proofs.Vertices.{apart_none, apart_on, apart_off, apart_last}
use Rattle.grid_lines.proofs.simple.is_apart_from.Goals as goal

pub returns-then-vertices-lt2-clause-test : goal.returns-then-vertices-lt2-clause-test
returns-then-vertices-lt2-clause-test g c = sym (apart_none c.args.p.now c.args.s.now c.args.vertices.now (omega arith))

pub returns-then-not-is_apart-clause-test : goal.returns-then-not-is_apart-clause-test
returns-then-not-is_apart-clause-test g c =
    let far = sym c.is_apart.ensures.test ∙ c.if-not-is_apart.true in
    sym (c.loop-i.invariant.test ∙ apart_off c.args.p.now c.args.s.now c.args.vertices.now c.loop-i.i c.segment.result (omega arith) c.segment.ensures far)

pub loop-i-preserved : goal.loop-i-preserved
loop-i-preserved g c =
    let far = sym c.is_apart.ensures.test ∙ c.if-not-is_apart.false in
    record {
      test = c.loop-i.invariant.test ∙ apart_on c.args.p.now c.args.s.now c.args.vertices.now c.loop-i.i c.segment.result (omega arith) c.segment.ensures far;
      counted = omega arith;
    }

pub returns-clause-test : goal.returns-clause-test
returns-clause-test g c =
    let vs = c.args.vertices.now in
    let at : c.loop-i.i ≡ length vs - 2 = omega arith in
    let before = rw at at c.loop-i.invariant.test in
    let last = apart_last c.args.p.now c.args.s.now vs (length vs - 2) c.segment-2.result (omega arith) c.segment-2.ensures in
    let all = before ∙ last in
    c.is_apart_or_closes.ensures.test ∙ sym all

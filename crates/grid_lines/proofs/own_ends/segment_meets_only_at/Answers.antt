use Rattle.std.proofs.Common.{◌≡◌, ◌∙◌, sym, ap, arith, List}
use Rattle.std.specs.List.{list_all}
use Rattle.topo_base.specs.Point.{Point}
use Rattle.plane.specs.Line.{segments_of}
use Rattle.plane.specs.Segment.{meets_only_at}
use Rattle.grid_lines.proofs.Tested.{all_on, all_failed, all_end}
use Rattle.grid_lines.proofs.own_ends.segment_meets_only_at.Goals as goal

pub returns-then-not-meets_only_at-clause-test : goal.returns-then-not-meets_only_at-clause-test
returns-then-not-meets_only_at-clause-test g c =
    let vs = c.vertices-vertices.result.now in
    let is : vs ≡ c.args.line.now = c.vertices-vertices.ensures.vertices in
    let f = meets_only_at c.args.p c.args.q c.args.s.now in
    let off = sym c.meets_only_at.ensures.test ∙ c.if-not-meets_only_at.true in
    sym (ap (λ (l : List Point). list_all f (segments_of l)) (sym is) ∙ c.loop-i.invariant.test ∙ all_failed f vs c.loop-i.i c.segment.result c.segment.ensures off)

pub loop-i-preserved : goal.loop-i-preserved
loop-i-preserved g c =
    let vs = c.vertices-vertices.result.now in
    let f = meets_only_at c.args.p c.args.q c.args.s.now in
    let on = sym c.meets_only_at.ensures.test ∙ c.if-not-meets_only_at.false in
    record {
      test = c.loop-i.invariant.test ∙ all_on f vs c.loop-i.i c.segment.result c.segment.ensures on;
      counted = omega arith;
    }

pub returns-clause-test : goal.returns-clause-test
returns-clause-test g c =
    let vs = c.vertices-vertices.result.now in
    let is : vs ≡ c.args.line.now = c.vertices-vertices.ensures.vertices in
    let f = meets_only_at c.args.p c.args.q c.args.s.now in
    sym (ap (λ (l : List Point). list_all f (segments_of l)) (sym is) ∙ c.loop-i.invariant.test ∙ all_end f vs c.loop-i.i (omega arith))

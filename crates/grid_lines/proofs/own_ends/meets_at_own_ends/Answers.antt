use Rattle.std.proofs.Common.{◌≡◌, ◌∙◌, sym, arith, List, Bool}
use Rattle.std.specs.List.{list_all}
use Rattle.topo_base.specs.Point.{Point}
use Rattle.plane.specs.Line.{segments_of, first_vertex, last_vertex, meets_at_own_ends}
use Rattle.plane.specs.Segment.{Segment, meets_only_at}
use Rattle.grid_lines.proofs.Tested.{all_on, all_failed, all_end}
use Rattle.grid_lines.proofs.own_ends.meets_at_own_ends.Goals as goal

-- of the vertices and the ends that were read
moved : (vs line other : List Point) (p q : Point) (b : Bool) → vs ≡ line → p ≡ first_vertex line → q ≡ last_vertex line
    → list_all (λ s. list_all (meets_only_at p q s) (segments_of other)) (segments_of vs) ≡ b → b ≡ meets_at_own_ends line other
moved vs line other p q b e f h all = rw (← h, ← f, ← e) (sym all)

pub returns-then-not-segment_meets_only_at-clause-test : goal.returns-then-not-segment_meets_only_at-clause-test
returns-then-not-segment_meets_only_at-clause-test g c =
    let vs = c.vertices-vertices.result.now in
    let p = c.first_of-first.result in
    let q = c.last_of-last.result in
    let other = c.args.other.now in
    let f = λ (s : Segment). list_all (meets_only_at p q s) (segments_of other) in
    let off = sym c.segment_meets_only_at.ensures.test ∙ c.if-not-segment_meets_only_at.true in
    moved vs c.args.line.now other p q _ c.vertices-vertices.ensures.vertices c.first_of-first.ensures c.last_of-last.ensures
    (c.loop-i.invariant.test ∙ all_failed f vs c.loop-i.i c.segment.result c.segment.ensures off)

pub loop-i-preserved : goal.loop-i-preserved
loop-i-preserved g c =
    let vs = c.vertices-vertices.result.now in
    let f = λ (s : Segment). list_all (meets_only_at c.first_of-first.result c.last_of-last.result s) (segments_of c.args.other.now) in
    let on = sym c.segment_meets_only_at.ensures.test ∙ c.if-not-segment_meets_only_at.false in
    record {
      test = c.loop-i.invariant.test ∙ all_on f vs c.loop-i.i c.segment.result c.segment.ensures on;
      counted = omega arith;
    }

pub returns-clause-test : goal.returns-clause-test
returns-clause-test g c =
    let vs = c.vertices-vertices.result.now in
    let p = c.first_of-first.result in
    let q = c.last_of-last.result in
    let f = λ (s : Segment). list_all (meets_only_at p q s) (segments_of c.args.other.now) in
    moved vs c.args.line.now c.args.other.now p q _ c.vertices-vertices.ensures.vertices c.first_of-first.ensures c.last_of-last.ensures
    (c.loop-i.invariant.test ∙ all_end f vs c.loop-i.i (omega arith))

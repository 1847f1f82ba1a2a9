use Rattle.std.proofs.Common.{◌≡◌, ◌↔◌, ℕ, ◌+◌, ◌-◌, ◌<◌, ◌≤◌, ◌%◌, refl, sym, ◌∙◌, ap, subst, arith, length, drop, IsTrue, List, []}
use Rattle.std.specs.Prelude.{count_by}
use Rattle.topo_base.specs.Point.{Point}
use Rattle.plane.proofs.Walks.{no_segments, odd_is_count, one_counted, one_segment, over_index, plus_one, plus_none, point_index}
use Rattle.plane.specs.Line.{segments_of}
use Rattle.plane.specs.Segment.{Segment}
use Rattle.plane.specs.Parity.{is_over, is_odd_over}
use Rattle.grid_rays.proofs.above.crossings_above.Goals as goal
use Rattle.grid_rays.proofs.above.crossings_above.Goals.{then-is_over, else-is_over}

pub overflow_add-count : goal.overflow_add-count
overflow_add-count g c = let h = c.loop-i.invariant.below in omega arith

pub loop-i-preserved : goal.loop-i-preserved
loop-i-preserved g c =
    let ps = c.vertices-vertices.result.now in
    let l : c.loop-i.i + 1 < length ps = (let h = c.loop-i-test.true in omega arith) in
    let p = point_index ps c.loop-i.i c.index-vertices-i.result (omega arith) c.index-vertices-i.is in
    let q = point_index ps (c.loop-i.i + 1) c.index-vertices-i-in-loop-i.result l c.index-vertices-i-in-loop-i.is in
    let e = c.is_over.ensures ∙ over_index c.args.p ps c.loop-i.i (c.loop-i.i + 1) c.index-vertices-i.result c.index-vertices-i-in-loop-i.result p q in
    let k = one_counted c.args.p ps c.loop-i.i l in
    let m = one_segment ps c.loop-i.i l in
    let t = c.tick.ensures in
    let s = c.loop-i.invariant.steps in
    let b = c.loop-i.invariant.below in
    elim c.if-is_over.branch [
      | then-is_over w ↦ record {
        count = plus_one _ _ _ _ _ _ c.loop-i.invariant.count k (sym e ∙ w.if-is_over.true) w.count-is;
        below = (let n = w.count-is in omega arith);
        steps = omega arith;
      }
      | else-is_over w ↦ record {
        count = plus_none _ _ _ _ _ _ c.loop-i.invariant.count k (sym e ∙ w.if-is_over.false) w.count-is;
        below = (let n = w.count-is in omega arith);
        steps = omega arith;
      }
    ]

-- nothing is left at the end
at_end : (ps line : List Point) (i n total : ℕ) (f : List Segment → ℕ) → f [] ≡ 0 → length ps - 1 ≤ i → ps ≡ line → n + f (segments_of (drop i ps)) ≡ total + f (segments_of ps) → n ≡ total + f (segments_of line)
at_end ps line i n total f none h e k =
    let l = no_segments ps i (omega arith) in
    let z = ap f l in
    let m = ap (λ qs. f (segments_of qs)) e in
    omega arith

zero_plus : (n k : ℕ) → n ≡ 0 + k → n ≡ k
zero_plus n k e = omega arith

pub returns-clause-count : goal.returns-clause-count
returns-clause-count g c =
    zero_plus c.loop-i.count (count_by (is_over c.args.p) (segments_of c.args.line.now))
    (at_end c.vertices-vertices.result.now c.args.line.now c.loop-i.i c.loop-i.count 0 (λ ss. count_by (is_over c.args.p) ss) refl c.loop-i-test.false c.vertices-vertices.ensures.vertices (let k = c.loop-i.invariant.count in omega arith))

pub returns-clause-steps : goal.returns-clause-steps
returns-clause-steps g c = at_end c.vertices-vertices.result.now c.args.line.now c.loop-i.i c.loop-i.steps c.args.steps.now (λ ss. length ss) refl c.loop-i-test.false c.vertices-vertices.ensures.vertices c.loop-i.invariant.steps

pub returns-clause-parity : goal.returns-clause-parity
returns-clause-parity g c =
    let e =
    zero_plus c.loop-i.count (count_by (is_over c.args.p) (segments_of c.args.line.now))
    (at_end c.vertices-vertices.result.now c.args.line.now c.loop-i.i c.loop-i.count 0 (λ ss. count_by (is_over c.args.p) ss) refl c.loop-i-test.false c.vertices-vertices.ensures.vertices (let k = c.loop-i.invariant.count in omega arith))
    in
    subst (λ n. n % 2 ≡ 1 ↔ IsTrue (is_odd_over c.args.p (segments_of c.args.line.now))) (sym e) (odd_is_count c.args.p (segments_of c.args.line.now))

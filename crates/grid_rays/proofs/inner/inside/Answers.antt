use Rattle.std.proofs.Common.{◌≡◌, ℕ, ◌+◌, ◌-◌, ◌<◌, ◌≤◌, refl, sym, ◌∙◌, ap, arith, length, drop, Bool, true, false, List}
use Rattle.topo_base.specs.Point.{Point}
use Rattle.plane.proofs.Walks.{no_segments, one_odd, over_index, turned_once, not_turned, closed_odd, point_index}
use Rattle.plane.specs.Line.{segments_of}
use Rattle.plane.specs.Parity.{xor, is_odd_over}
use Rattle.plane.specs.ClosedWalk.{closed_segments}
use Rattle.grid_rays.proofs.inner.inside.Goals as goal
use Rattle.grid_rays.proofs.inner.inside.Goals.{then-is_over, else-is_over}

pub loop-i-init : goal.loop-i-init
loop-i-init c =
    let ps = c.vertices-vertices.result.now in
    let some : 2 ≤ length ps = (let h = c.vertices-vertices.ensures.some in rw c.vertices-vertices.ensures.vertices h) in
    let p = point_index ps (length ps - 1) c.index-vertices-last.result (omega arith) c.index-vertices-last.is in
    let q = point_index ps 0 c.index-vertices-0.result (omega arith) c.index-vertices-0.is in
    let e = c.is_over-odd.ensures ∙ over_index c.args.p ps (length ps - 1) 0 c.index-vertices-last.result c.index-vertices-0.result p q in
    ap (λ z. xor z (is_odd_over c.args.p (segments_of ps))) e ∙ closed_odd c.args.p ps (length ps - 1) (omega arith)

pub loop-i-preserved : goal.loop-i-preserved
loop-i-preserved c =
    let ps = c.vertices-vertices.result.now in
    let l : c.loop-i.i + 1 < length ps = (let h = c.loop-i-test.true in omega arith) in
    let p = point_index ps c.loop-i.i c.index-vertices-i.result (omega arith) c.index-vertices-i.is in
    let q = point_index ps (c.loop-i.i + 1) c.index-vertices-i-in-loop-i.result l c.index-vertices-i-in-loop-i.is in
    let e = c.is_over.ensures ∙ over_index c.args.p ps c.loop-i.i (c.loop-i.i + 1) c.index-vertices-i.result c.index-vertices-i-in-loop-i.result p q in
    let k = one_odd c.args.p ps c.loop-i.i l in
    elim c.if-is_over.branch [
      | then-is_over w ↦ turned_once _ _ _ _ _ _ c.loop-i.invariant k (sym e ∙ w.if-is_over.true) w.odd-is
      | else-is_over w ↦ not_turned _ _ _ _ _ _ c.loop-i.invariant k (sym e ∙ w.if-is_over.false) w.odd-is
    ]

-- nothing is left at the end
at_end : (q : Point) (ps : List Point) (i : ℕ) (odd total : Bool) → length ps - 1 ≤ i → xor odd (is_odd_over q (segments_of (drop i ps))) ≡ total → odd ≡ total
at_end q ps i odd total h e = sym (xor_none odd) ∙ sym (ap (λ ss. xor odd (is_odd_over q ss)) (no_segments ps i (omega arith))) ∙ e
  where
    xor_none : (b : Bool) → xor b false ≡ b
    xor_none true = refl
    xor_none false = refl

pub returns : goal.returns
returns c =
    at_end c.args.p c.vertices-vertices.result.now c.loop-i.i c.loop-i.odd (is_odd_over c.args.p (closed_segments c.vertices-vertices.result.now)) c.loop-i-test.false c.loop-i.invariant
    ∙ ap (λ ps. is_odd_over c.args.p (closed_segments ps)) c.vertices-vertices.ensures.vertices

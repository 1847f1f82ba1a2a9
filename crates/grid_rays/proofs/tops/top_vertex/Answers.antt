use Rattle.std.proofs.Common.{◌+◌, sym, ◌∙◌, ap, subst, arith}
use Rattle.plane.proofs.Walks.{point_index}
use Rattle.plane.proofs.Tops.{IsTopSoFar, top_at_first, top_moves, top_stays}
use Rattle.plane.specs.ClosedWalk.{point_at, is_higher}
use Rattle.grid_rays.proofs.tops.top_vertex.Goals as goal
use Rattle.grid_rays.proofs.tops.top_vertex.Goals.{then-is_higher, else-is_higher}

pub loop-i-init : goal.loop-i-init
loop-i-init c = top_at_first c.vertices-vertices.result.now (let e = c.vertices-vertices.ensures.vertices in let h = c.vertices-vertices.ensures.some in rw e (omega arith))

pub loop-i-preserved : goal.loop-i-preserved
loop-i-preserved c =
    let ps = c.vertices-vertices.result.now in
    let w = c.loop-i.invariant.within in
    let l = c.loop-i-test.true in
    let p = point_index ps c.loop-i.i c.index-vertices-i.result l c.index-vertices-i.is in
    let q = point_index ps c.loop-i.top c.index-vertices-top.result (omega arith) c.index-vertices-top.is in
    let e = c.is_higher.ensures ∙ ap (λ z. is_higher z c.index-vertices-top.result) p ∙ ap (λ z. is_higher (point_at ps c.loop-i.i) z) q in
    elim c.if-is_higher.branch [
      | then-is_higher w ↦ subst (IsTopSoFar ps (c.loop-i.i + 1)) (sym w.top-is) (top_moves ps c.loop-i.i c.loop-i.top l c.loop-i.invariant (sym e ∙ w.if-is_higher.true))
      | else-is_higher w ↦ subst (IsTopSoFar ps (c.loop-i.i + 1)) (sym w.top-is) (top_stays ps c.loop-i.i c.loop-i.top l c.loop-i.invariant (sym e ∙ w.if-is_higher.false))
    ]

use Rattle.std.proofs.Common.{◌∙◌, ◌++◌, ap, arith, sym}
use Rattle.drawing.specs.HalfEdge.{both_ways}
use Rattle.drawing.specs.Tables.{drawn_edge}
use Rattle.validate_topology.proofs.SpokePlaces.{halves_more}
use Rattle.validate_topology.proofs.sides.sides_of.Goals as goal

pub loop-row-preserved : goal.loop-row-preserved
loop-row-preserved c =
    let row = c.row-item.result in
    let more = c.in_ok-push_both.ensures.len in
    let so_far = c.loop-row.invariant.len in
    record {
      len = omega (arith, more, so_far);
      halves = c.in_ok-push_both.ensures.halves ∙ ap (λ hs. hs ++ both_ways (drawn_edge row)) c.loop-row.invariant.halves
          ∙ sym (halves_more c.args.edges.now c.loop-row.row-index row c.loop-row-test.true c.row-item.is);
    }

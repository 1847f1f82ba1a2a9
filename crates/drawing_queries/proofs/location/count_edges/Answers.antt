use Rattle.std.proofs.Common.{◌≡◌, ◌+◌, ◌∙◌, ap, sym, arith, drop, false, get_or, length, List}
use Rattle.std.specs.List.{sum_by}
use Rattle.std.proofs.lemmas.List.Sums.{sum_by-cons}
use Rattle.topo_base.specs.declared.rows.EdgeRow.{EdgeRow}
use Rattle.plane.specs.Parity.{is_odd_over, xor}
use Rattle.drawing.specs.Places.{rows_of}
use Rattle.drawing_queries.specs.Location.{border_in}
use Rattle.drawing_queries.specs.Counted.{point_steps}
use Rattle.drawing_queries.proofs.Locating.{slots_some, slots_none, odd_more, turned, counts_for}
use Rattle.drawing_queries.proofs.location.count_edges.Goals as goal
use Rattle.drawing_queries.proofs.location.count_edges.Goals.{in-Some, in_default}

pub loop-slot-preserved : goal.loop-slot-preserved
loop-slot-preserved g c =
    let slots = c.args.edges.now in
    let i = c.loop-slot.slot-index in
    let p = c.args.point in
    let first = c.args.first in
    let behind = rows_of (drop (i + 1) slots) in
    let inside = c.loop-slot-test.true in
    elim c.match-slot.branch [
      | in-Some w ↦
          let row : EdgeRow = w.in-Some.row in
          let rows = slots_some slots i c.slot-item.result row inside c.slot-item.is w.in-Some.is in
          let len : length c.match-slot.odd ≡ length c.loop-slot.odd = ap length w.odd-is ∙ w.count_edge.ensures.len in
          record {
            len = len ∙ c.loop-slot.invariant.len;
            odd = λ k h.
                turned (get_or c.loop-slot.odd k false) (get_or c.match-slot.odd k false) (counts_for (first + k) p row) (is_odd_over p (border_in (first + k) behind))
                (is_odd_over p (border_in (first + k) (rows_of slots))) (is_odd_over p (border_in (first + k) (rows_of (drop i slots))))
                (ap (λ bs. get_or bs k false) w.odd-is ∙ w.count_edge.ensures.toggled k (omega arith))
                (ap (λ (rs : List EdgeRow). is_odd_over p (border_in (first + k) rs)) rows ∙ odd_more (first + k) p row behind)
                (c.loop-slot.invariant.odd k (omega arith));
            counted =
                (let sum = ap (sum_by point_steps) rows ∙ sum_by-cons point_steps row behind in
                let walked = w.count_edge.ensures.counted in
                let is = w.steps-is in
                let far = c.loop-slot.invariant.counted in
                omega arith);
          }
      | in_default w ↦
          let rows = slots_none slots i c.slot-item.result inside c.slot-item.is w.in_default.not-Some in
          record {
            len = ap length w.odd-is ∙ c.loop-slot.invariant.len;
            odd = λ k h.
                ap (λ bs. xor (get_or bs k false) (is_odd_over p (border_in (first + k) behind))) w.odd-is
                ∙ ap (λ (rs : List EdgeRow). xor (get_or c.loop-slot.odd k false) (is_odd_over p (border_in (first + k) rs))) (sym rows) ∙ c.loop-slot.invariant.odd k (let same = ap length w.odd-is in omega arith);
            counted =
                (let sum = ap (sum_by point_steps) rows in
                let is = w.steps-is in
                let far = c.loop-slot.invariant.counted in
                omega arith);
          }
    ]

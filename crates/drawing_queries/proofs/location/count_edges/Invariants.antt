use Rattle.std.proofs.Common.{◌≡◌, ℕ, ◌+◌, ◌<◌, ◌≤◌, false, drop, length, get_or}
use Rattle.std.specs.List.{sum_by}
use Rattle.plane.specs.Parity.{is_odd_over, xor}
use Rattle.drawing.specs.Places.{rows_of}
use Rattle.drawing_queries.specs.Location.{border_in}
use Rattle.drawing_queries.specs.Counted.{point_steps}
use Rattle.drawing_queries.proofs.location.count_edges.Given as goal

-- what is counted, with the rest, is the whole
abbrev pub invariant-loop-slot : goal.invariant-loop-slot
invariant-loop-slot g l = record {
  len : length l.odd ≡ length l.fn.odd;
  odd : (k : ℕ) → k < length l.odd → xor (get_or l.odd k false) (is_odd_over l.point (border_in (l.first + k) (rows_of (drop l.slot-index l.edges))))
      ≡ is_odd_over l.point (border_in (l.first + k) (rows_of l.edges));
  counted : l.steps + sum_by point_steps (rows_of (drop l.slot-index l.edges)) ≤ l.fn.steps + sum_by point_steps (rows_of l.edges);
}

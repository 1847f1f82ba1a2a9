use Rattle.std.proofs.Common.{◌≡◌, ◌+◌, ◌≤◌, drop, map}
use Rattle.std.specs.List.{sum_by}
use Rattle.drawing.specs.Places.{rows_of}
use Rattle.drawing.specs.Tables.{least_box, drawn_edge}
use Rattle.drawing_queries.specs.Extent.{grown, vertices_beside}
use Rattle.drawing_queries.specs.Counted.{point_steps}
use Rattle.drawing_queries.proofs.extent.box_among.Given as goal

-- the box so far, with the rest, is the whole
abbrev pub invariant-loop-slot : goal.invariant-loop-slot
invariant-loop-slot g l = record {
  bounds : grown l.bounds (vertices_beside l.face l.left_out (map drawn_edge (rows_of (drop l.slot-index l.edges))))
      ≡ least_box (vertices_beside l.face l.left_out (map drawn_edge (rows_of l.edges)));
  counted : l.steps + sum_by point_steps (rows_of (drop l.slot-index l.edges)) ≤ l.fn.steps + sum_by point_steps (rows_of l.edges);
}

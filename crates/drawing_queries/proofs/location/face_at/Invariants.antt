use Rattle.std.proofs.Common.{◌+◌, ◌*◌, ◌≤◌}
use Rattle.std.specs.List.{sum_by}
use Rattle.drawing.specs.Tables.{drawn}
use Rattle.drawing_queries.specs.Counted.{point_steps}
use Rattle.drawing_queries.proofs.Locating.{NoneBelow}
use Rattle.drawing_queries.proofs.location.face_at.Given as goal

-- the point is in none of the faces so far
abbrev pub invariant-loop-walk : goal.invariant-loop-walk
invariant-loop-walk g l = record {
  none : NoneBelow (drawn l.tables.rows) l.point (l.walk * 4096);
  counted : l.steps ≤ l.fn.steps + l.walk * (sum_by point_steps l.tables.rows.edges + 4096);
}

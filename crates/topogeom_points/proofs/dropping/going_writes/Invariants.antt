use Rattle.std.proofs.Common.{◌≡◌, ◌++◌, drop}
use Rattle.topogeom_points.specs.Rows.{rows_go}
use Rattle.topogeom_points.proofs.dropping.going_writes.Given as goal

-- the rows so far go, and those of the rows to come
abbrev pub invariant-loop-row : goal.invariant-loop-row
invariant-loop-row g l = l.writes ++ rows_go l.fn.feature (drop l.row-index l.rows) ≡ rows_go l.fn.feature l.rows

use Rattle.std.proofs.Common.{◌≡◌, ◌++◌, take, drop}
use Rattle.drawing.specs.Relations.{insert_row}
use Rattle.topo_tables.proofs.relations.place_for.Given as goal

-- the row comes behind the rows before this place
abbrev pub invariant-loop-place : goal.invariant-loop-place
invariant-loop-place l = insert_row l.row l.rows ≡ take l.place l.rows ++ insert_row l.row (drop l.place l.rows)

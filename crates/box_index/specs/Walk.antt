-- A walk over the cells of a loose grid.
use Rattle.std.specs.Prelude.{◌≡◌, ℕ, ◌<◌, ◌≤◌, ◌^◌, List}
use Rattle.box_index.specs.declared.entry.Entry.{Entry}
use Rattle.box_index.specs.declared.walk.Walk.{Walk}
use Rattle.box_index.specs.Boxes.{IsBox}
use Rattle.box_index.specs.Cells.{cell, place}
use Rattle.box_index.specs.LooseGrid.{IsLooseGrid, count_of, left_from}

-- the place at which the walk is
abbrev pub at : Walk → ℕ
at w = place (cell w.level w.column w.row) w.number

-- the entries that are left
abbrev pub left : Walk → List Entry
left w = left_from w.grid.now w.area (at w)

-- the walk is at a place of a cell, or behind its last one
pub record IsWalk (w : Walk) : Type 0 where
  pub area : IsBox w.area
  pub level : w.level ≤ 42
  pub column : w.column < 2 ^ 42
  pub row : w.row < 2 ^ 42
  pub number : w.number ≤ w.count
  pub count : w.count ≡ count_of w.grid.now (cell w.level w.column w.row)
  pub grid : IsLooseGrid w.grid.now

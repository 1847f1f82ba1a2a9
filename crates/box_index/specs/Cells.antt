-- The cell of a loose grid in which a box is kept.
use Rattle.std.specs.Prelude.{ℕ, ◌+◌, ◌*◌, ◌-◌, ◌/◌, ◌^◌, ℤ, pos, negsuc, ◌+ℤ◌, max}
use Rattle.std.specs.Int.{w64, leading_zeros}
use Rattle.topo_base.specs.declared.rows.Box4.{Box4}

-- the whole number, or 0 for what is negative
abbrev pub at_least_zero : ℤ → ℕ
at_least_zero (pos n) = n
at_least_zero (negsuc n) = 0

-- a coordinate counted from the lower end of its range
abbrev pub shifted : ℤ → ℕ
shifted z = at_least_zero (z +ℤ pos (2 ^ 40))

-- the least level whose cells are at least so wide
abbrev pub level_for : ℕ → ℕ
level_for side = 64 - leading_zeros w64 (side - 1)

abbrev pub longer_side : Box4 → ℕ
longer_side b = max (shifted b.max_x - shifted b.min_x) (shifted b.max_y - shifted b.min_y)

abbrev pub level_of : Box4 → ℕ
level_of b = level_for (longer_side b)

-- the number of a cell: its level, its column and its row
abbrev pub cell : ℕ → ℕ → ℕ → ℕ
cell level column row = (level * 2 ^ 42 + column) * 2 ^ 42 + row

-- the cell in which a box is kept
abbrev pub home : Box4 → ℕ
home b = cell (level_of b) (shifted b.min_x / 2 ^ level_of b) (shifted b.min_y / 2 ^ level_of b)

-- the number of a place in a cell
abbrev pub place : ℕ → ℕ → ℕ
place home number = home * 2 ^ 32 + number

-- the first column or row of a level in which a box may be kept that reaches to low, and the last for one that begins before high
abbrev pub first_cell : ℤ → ℕ → ℕ
first_cell low level = shifted low / 2 ^ level - 1

abbrev pub last_cell : ℤ → ℕ → ℕ
last_cell high level = shifted high / 2 ^ level

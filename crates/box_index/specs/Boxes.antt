-- Ids with their boxes, and which of them meet an area.
use Rattle.std.specs.Prelude.{ℕ, ℤ, ◌≤ℤ◌, Bool, ◌&&◌, List, filter, int_le}
use Rattle.std.specs.List.{flat_map}
use Rattle.std.specs.List.Sorted.{IsPermutation}
use Rattle.topo_base.specs.Point.{IsCoordinate}
use Rattle.topo_base.specs.declared.rows.Box4.{Box4}
use Rattle.box_index.specs.declared.entry.Entry.{Entry}

-- what contracts see of an index: the entries, in an order that isn't promised, and for how many more there is room
pub record Indexed : Type 0 where
  pub entries : List Entry
  pub room : ℕ

-- a box whose corners are on the grid, the lower one not above the upper one
pub record IsBox (b : Box4) : Type 0 where
  pub min_x : IsCoordinate b.min_x
  pub min_y : IsCoordinate b.min_y
  pub max_x : IsCoordinate b.max_x
  pub max_y : IsCoordinate b.max_y
  pub wide : b.min_x ≤ℤ b.max_x
  pub high : b.min_y ≤ℤ b.max_y

-- two spans have a point in common
unfoldable pub spans_meet : ℤ → ℤ → ℤ → ℤ → Bool
spans_meet low high other_low other_high = int_le low other_high && int_le other_low high

-- two boxes have a point in common
abbrev pub meets : Box4 → Box4 → Bool
meets a b = spans_meet a.min_x a.max_x b.min_x b.max_x && spans_meet a.min_y a.max_y b.min_y b.max_y

-- the entries whose boxes meet the area
abbrev pub entries_near : Box4 → List Entry → List Entry
entries_near area es = filter (λ (e : Entry). meets e.bounds area) es

-- the entries are those of the rows, in an order that isn't told
abbrev pub AreEntriesOf : {R : Type 0} → (R → List Entry) → List R → List Entry → Type 0
AreEntriesOf f rows es = IsPermutation (flat_map f rows) es

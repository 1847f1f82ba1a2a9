-- A loose grid: entries by their places in cells.
use Rattle.std.specs.Prelude.{◌≡◌, ℕ, ◌<◌, ◌≤◌, ◌^◌, List, length, filter, Option, Some, IsSome, IsTrue, Bool, ◌&&◌, ◌==◌, leb, nat_eq, cond, slice_index}
use Rattle.std.specs.Option.{unwrap_or}
use Rattle.std.specs.List.{IsDistinct, sum_by}
use Rattle.std.specs.Map.{lookup, keys_of, values_of}
use Rattle.box_index.specs.declared.entry.Entry.{Entry}
use Rattle.topo_base.specs.declared.rows.Box4.{Box4}
use Rattle.box_index.specs.Boxes.{IsBox, entries_near, meets}
use Rattle.box_index.specs.Cells.{home, level_of, place}

-- the entries by their places, how many entries each cell has and each level, and for how many more there is room
pub record CellTable : Type 0 where
  pub entries : List (ℕ × Entry)
  pub counts : List (ℕ × ℕ)
  pub levels : List ℕ
  pub room : ℕ

abbrev pub cell_table : List (ℕ × Entry) → List (ℕ × ℕ) → List ℕ → ℕ → CellTable
cell_table es cs ls n = record { entries = es; counts = cs; levels = ls; room = n }

-- the entries, in an order that isn't promised
abbrev pub kept : CellTable → List Entry
kept i = values_of i.entries

-- what is kept at a place
abbrev pub entry_at : CellTable → ℕ → Option Entry
entry_at i q = lookup (nat_eq q) i.entries

-- how many entries a cell has
abbrev pub count_of : CellTable → ℕ → ℕ
count_of i c = unwrap_or (lookup (nat_eq c) i.counts) 0

-- 1 for an entry of the cell, and of the level
abbrev pub is_in : ℕ → Entry → ℕ
is_in c e = cond (home e.bounds == c) 1 0

abbrev pub is_on : ℕ → Entry → ℕ
is_on k e = cond (level_of e.bounds == k) 1 0

-- an entry stands at a place of its cell
pub record IsAtHome (i : CellTable) (q : ℕ) (e : Entry) : Type 0 where
  pub bounds : IsBox e.bounds
  pub number : ℕ
  pub is : q ≡ place (home e.bounds) number
  pub below : number < count_of i (home e.bounds)

-- each entry stands in its cell, whose places are filled from 0 on, and the counts are right
pub record IsLooseGrid (i : CellTable) : Type 0 where
  pub unique : IsDistinct nat_eq (keys_of i.entries)
  pub small : length i.entries < 2 ^ 32
  pub at_home : (q : ℕ) (e : Entry) → entry_at i q ≡ Some e → IsAtHome i q e
  pub filled : (c n : ℕ) → n < count_of i c → IsSome (entry_at i (place c n))
  pub counted : (c : ℕ) → count_of i c ≡ sum_by (is_in c) (kept i)
  pub levelled : (k : ℕ) → k < 42 → slice_index i.levels k ≡ sum_by (is_on k) (kept i)
  pub all_levels : length i.levels ≡ 42

-- the entries from a place on whose boxes meet the area
abbrev pub is_left : Box4 → ℕ → ℕ × Entry → Bool
is_left area q p = leb q p.0 && meets p.1.bounds area

abbrev pub left_from : CellTable → Box4 → ℕ → List Entry
left_from i area q = values_of (filter (is_left area q) i.entries)

-- none of these stands before the place q
pub record IsPast (i : CellTable) (area : Box4) (p q : ℕ) : Type 0 where
  pub none : (r : ℕ) (e : Entry) → entry_at i r ≡ Some e → IsTrue (meets e.bounds area) → p ≤ r → q ≤ r

-- the entries whose boxes meet the area
abbrev pub nearby : CellTable → Box4 → List Entry
nearby i area = entries_near area (kept i)

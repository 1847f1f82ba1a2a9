-- A history as it is kept: its entries in order, and for how many more there is room.
use Rattle.std.specs.Prelude.{ℕ, zero, suc, List, Option, None, slice_get}
use Rattle.topo_base.specs.declared.edit.Entry.{Entry}

pub record Stored : Type 0 where
  pub entries : List Entry
  pub room : ℕ

-- the entry of this number, counted from 1
abbrev pub entry_at : List Entry → ℕ → Option Entry
entry_at entries zero = None
entry_at entries (suc n) = slice_get entries n

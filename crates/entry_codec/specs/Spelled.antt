-- How long a spelling is.
use Rattle.std.specs.Prelude.{ℕ, ◌+◌, ◌*◌, ◌≤◌, length}
use Rattle.topo_base.specs.declared.edit.Entry.{Entry}
use Rattle.history_model.specs.Spelling.{entry_bytes}

-- an editor, a tag, two ends, a count and 4096 vertices
abbrev pub most_bytes : ℕ
most_bytes = 4 + 1 + 8 + 4 + 16 * 4096

abbrev pub IsShort : Entry → Type 0
IsShort x = length (entry_bytes x) ≤ most_bytes

-- What the grammar of entries reads.
use Rattle.std.specs.Prelude.{◌≡◌, ◌↔◌, ℕ, IsTrue, List, ◌++◌, Some}
use Rattle.topo_base.specs.declared.edit.Entry.{Entry}
use Rattle.drawing.specs.InRange.{is_spelled}
use Rattle.history_model.specs.Spelling.{entry_bytes}
use Rattle.entry_codec.specs.Reading.{entry_at, entry_in}

-- an entry is read from bytes exactly where it can be spelled and they are its spelling
abbrev pub EntriesAreRead : Type 0
EntriesAreRead = (body : List ℕ) (x : Entry) → (entry_in body ≡ Some x) ↔ (IsTrue (is_spelled x) × (entry_bytes x ≡ body))

-- or begin with it
abbrev pub FrontsAreRead : Type 0
FrontsAreRead = (bytes : List ℕ) (x : Entry) (rest : List ℕ) → (entry_at bytes ≡ Some (x, rest)) ↔ (IsTrue (is_spelled x) × (bytes ≡ entry_bytes x ++ rest))

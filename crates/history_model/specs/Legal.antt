-- Legal histories.
use Rattle.std.specs.Prelude.{ℕ, ◌+◌, Bool, ◌&&◌, nat_le, List, [], ◌∷◌, length}
use Rattle.topo_base.specs.declared.edit.Entry.{Entry}
use Rattle.history_model.specs.Spelling.{entry_bytes}
use Rattle.drawing.specs.Accepted.{is_accepted}

-- the bytes of a journal: its header with the first gate, and of each entry a length, a body and a gate
abbrev pub journal_length : List Entry → ℕ
journal_length [] = 8
journal_length (x ∷ xs) = journal_length xs + (5 + length (entry_bytes x))

abbrev pub is_legal : ℕ → ℕ → List Entry → Bool
is_legal max_id max_journal history = is_accepted max_id history && nat_le (journal_length history) max_journal

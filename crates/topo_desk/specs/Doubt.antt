-- An entry that may be on a disk or not.
use Rattle.std.specs.Prelude.{ℕ, Bool, false, List, [], ◌∷◌, ◌++◌, Option, Some, None}
use Rattle.topo_base.specs.declared.edit.Entry.{Entry}
use Rattle.entry_codec.specs.Reading.{entry_in}
use Rattle.history_model.specs.Answers.{Bounds}
use Rattle.history_model.specs.Legal.{is_legal}

abbrev pub is_legal_with : Bounds → List Entry → Option Entry → Bool
is_legal_with m history None = false
is_legal_with m history (Some x) = is_legal m.max_id m.max_journal (history ++ x ∷ [])

-- the body spells an entry, with which the history is legal
abbrev pub may_be_in_doubt : Bounds → List Entry → List ℕ → Bool
may_be_in_doubt m history body = is_legal_with m history (entry_in body)

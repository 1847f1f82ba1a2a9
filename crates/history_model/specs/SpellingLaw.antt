-- An entry has one spelling.
use Rattle.std.specs.Prelude.{◌≡◌, ℕ, List, ◌++◌, IsTrue}
use Rattle.topo_base.specs.declared.edit.Entry.{Entry}
use Rattle.drawing.specs.InRange.{is_spelled}
use Rattle.history_model.specs.Spelling.{entry_bytes}

-- an entry that can be spelled has one spelling, and no spelling is a prefix of another
abbrev pub SpellingsAreApart : Type 0
SpellingsAreApart =
    (x y : Entry) (a b : List ℕ) → IsTrue (is_spelled x) → IsTrue (is_spelled y) → entry_bytes x ++ a ≡ entry_bytes y ++ b → (x ≡ y) × (a ≡ b)

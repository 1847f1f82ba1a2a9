-- What a desk leaves on its disk.
use Rattle.std.specs.Prelude.{◌≡◌, ◌⊎◌, ℕ, Bool, true, IsTrue, List, [], ◌∷◌, ◌++◌}
use Rattle.topo_base.specs.declared.edit.Entry.{Entry}
use Rattle.history_model.specs.Answers.{Bounds}
use Rattle.history_model.specs.Journal.{StandsFor}
use Rattle.history_model.specs.Legal.{is_legal}

-- these bytes stand for the history and one legal entry more
pub record StandsForOneMore (m : Bounds) (bytes : List ℕ) (history : List Entry) : Type 0 where
  pub entry : Entry
  pub legal : IsTrue (is_legal m.max_id m.max_journal (history ++ entry ∷ []))
  pub stands : StandsFor m bytes (history ++ entry ∷ [])

-- these bytes stand for the history, or, where an entry is in doubt, for it and that one
abbrev pub StandsOrDoubts : Bounds → List Entry → Bool → List ℕ → Type 0
StandsOrDoubts m history doubt bytes = StandsFor m bytes history ⊎ ((doubt ≡ true) × StandsForOneMore m bytes history)

-- The words of the command line.
use Rattle.std.specs.Prelude.{◌≡◌, ℕ, Bool, true, false, not, ◌==◌, IsTrue, List, [], ◌∷◌, codes}
use Rattle.topo.specs.declared.words.Form.{Form}
use Rattle.topo.specs.declared.words.Form.TheVariants.{Apply, Show}
use Rattle.topo.specs.declared.words.Shown.TheVariants.{Tables, Features, History}

-- a word that names a journal isn't empty and doesn't begin with a minus
abbrev pub names_journal : List ℕ → Bool
names_journal [] = false
names_journal (first ∷ rest) = not (first == 45)

-- the first word of a form
abbrev pub verb_of : Form → List ℕ
verb_of Apply = codes "apply"
verb_of (Show Tables) = codes "tables"
verb_of (Show Features) = codes "features"
verb_of (Show History) = codes "history"

-- the words are this form: its first word, and the name of a journal
pub record IsForm (words : List (List ℕ)) (form : Form) : Type 0 where
  pub journal : List ℕ
  pub words_are : words ≡ verb_of form ∷ journal ∷ []
  pub named : IsTrue (names_journal journal)

-- the words are a form of the program
abbrev pub AreForm : List (List ℕ) → Type 0
AreForm words = (form : Form) × IsForm words form

-- the words ask for a report on a dump; this form has no journal
abbrev pub IsCheck : List (List ℕ) → Type 0
IsCheck words = words ≡ codes "check" ∷ []

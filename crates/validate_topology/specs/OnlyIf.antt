-- Lists of lines.
use Rattle.std.specs.Prelude.{Bool, true, false, List, [], ◌∷◌}

-- a line, where what it says holds
abbrev pub only_if : {A : Type 0} → Bool → A → List A
only_if true line = line ∷ []
only_if false line = []

-- there is none
abbrev pub is_empty : {A : Type 0} → List A → Bool
is_empty [] = true
is_empty (line ∷ lines) = false

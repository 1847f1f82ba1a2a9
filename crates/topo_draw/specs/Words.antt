use Rattle.std.specs.Prelude.{◌≡◌, ◌∷◌, ◌⊎◌, [], ℕ, List, codes}

-- the words name no layer, or one
abbrev pub AreWords : List (List ℕ) → Type 0
AreWords words = (words ≡ []) ⊎ ((name : List ℕ) × (words ≡ codes "--layer" ∷ name ∷ []))

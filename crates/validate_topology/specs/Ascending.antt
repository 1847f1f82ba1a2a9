-- Rows whose ids ascend.
use Rattle.std.specs.Prelude.{ℕ, Bool, true, ◌&&◌, nat_lt, List, [], ◌∷◌}

-- each id is greater than the one before, and the first is greater than this number
abbrev pub numbers_ascend : {R : Type 0} → (R → ℕ) → ℕ → List R → Bool
numbers_ascend number low [] = true
numbers_ascend number low (row ∷ rows) = nat_lt low (number row) && numbers_ascend number (number row) rows

-- the last id, or this number where there are no rows
abbrev pub last_number : {R : Type 0} → (R → ℕ) → ℕ → List R → ℕ
last_number number low [] = low
last_number number low (row ∷ rows) = last_number number (number row) rows

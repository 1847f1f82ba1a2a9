-- What contracts see of rows at places.
use Rattle.std.specs.Prelude.{◌≡◌, ℕ, zero, suc, Bool, false, List, [], ◌∷◌, Option, IsTrue, slice_index_or}

-- what stands at each place, and which places are open for writing, also behind the last
pub record Slotted (R : Type 0) : Type 0 where
  pub slots : List (Option R)
  pub opened : List Bool

-- the values of a function below a number
unfoldable pub tabulate : {X : Type 0} → (ℕ → X) → ℕ → List X
tabulate f zero = []
tabulate f (suc n) = f zero ∷ tabulate (λ k. f (suc k)) n

abbrev pub IsOpen : {R : Type 0} → Slotted R → ℕ → Type 0
IsOpen rows k = IsTrue (slice_index_or rows.opened k false)

-- no place is open
abbrev pub IsSealed : {R : Type 0} → Slotted R → Type 0
IsSealed rows = (k : ℕ) → slice_index_or rows.opened k false ≡ false

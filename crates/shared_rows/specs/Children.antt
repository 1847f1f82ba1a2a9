-- What stands at a place of a child.
use Rattle.std.specs.Prelude.{ℕ, Bool, false, Option, None}
use Rattle.std.specs.Arc.{arc_value}
use Rattle.shared_rows.specs.declared.child.Child.{Child}
use Rattle.shared_rows.specs.declared.child.Child.TheVariants.{Empty, Owned, Shared}

unfoldable pub row_in : {N R : Type 0} → (N → ℕ → Option R) → Child N → ℕ → Option R
row_in row_at Empty k = None
row_in row_at (Owned node) k = row_at node k
row_in row_at (Shared shared) k = row_at (arc_value shared) k

-- what is shared isn't open
unfoldable pub open_in : {N : Type 0} → (N → ℕ → Bool) → Child N → ℕ → Bool
open_in is_open Empty k = false
open_in is_open (Owned node) k = is_open node k
open_in is_open (Shared shared) k = false

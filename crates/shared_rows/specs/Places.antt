-- What stands at a place of a leaf or of a branch.
use Rattle.std.specs.Prelude.{◌≡◌, ℕ, Bool, false, List, Option, Some, None, slice_get, IsTrue}

-- what is in a slot, if there is such a slot
abbrev pub row_of : {R : Type 0} → Option (Option R) → Option R
row_of None = None
row_of (Some slot) = slot

abbrev pub slot_at : {R : Type 0} → List (Option R) → ℕ → Option R
slot_at slots k = row_of (slice_get slots k)

-- the row at a place of a child, if there is such a child
abbrev pub row_below : {C R : Type 0} → (C → ℕ → Option R) → Option C → ℕ → Option R
row_below row_at None k = None
row_below row_at (Some child) k = row_at child k

-- whether a place of a child is open
abbrev pub open_below : {C : Type 0} → (C → ℕ → Bool) → Option C → ℕ → Bool
open_below is_open None k = false
open_below is_open (Some child) k = is_open child k

-- children have the same at each place as others
abbrev pub SameBelow : {C X : Type 0} → (Option C → ℕ → X) → List C → List C → Type 0
SameBelow below new old = (j k : ℕ) → below (slice_get new j) k ≡ below (slice_get old j) k

-- what is open in children is open in others
abbrev pub OpenBelow : {C : Type 0} → (C → ℕ → Bool) → List C → List C → Type 0
OpenBelow is_open old new = (j k : ℕ) → IsTrue (open_below is_open (slice_get old j) k) → IsTrue (open_below is_open (slice_get new j) k)

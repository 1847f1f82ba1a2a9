-- What is left of a disk whose journal was read.
use Rattle.std.specs.Prelude.{◌≡◌, ◌⊎◌, ℕ, ◌≤◌, Bool, false, List}
use Rattle.topo_base.specs.declared.edit.Entry.{Entry}
use Rattle.topo_disk.specs.Disk.{LeavesOnly, Only}
use Rattle.history_model.specs.Answers.{Bounds}
use Rattle.history_model.specs.Journal.{StandsFor}

-- from a moment of the call on, each thing that a crash leaves stands for the history, and so does what a read gives
pub record StandsSince {D : Type 0} (moment : D → ℕ) (seen : D → List ℕ) (left_since : D → ℕ → List ℕ → Type 0) (m : Bounds) (old new : D) (t : ℕ) (history : List Entry) : Type 0 where
  pub later : moment old ≤ t
  pub before : t ≤ moment new
  pub reads : StandsFor m (seen new) history
  pub leaves : (c : List ℕ) → left_since new t c → StandsFor m c history

-- the call's first sync failed: what a read gives stays, and a crash in the call leaves what it might have left before
pub record WasNotSynced {D : Type 0} (moment : D → ℕ) (seen : D → List ℕ) (may_leave : D → List ℕ → Type 0) (left_since : D → ℕ → List ℕ → Type 0) (old new : D) : Type 0 where
  pub reads : seen new ≡ seen old
  pub leaves : LeavesOnly moment left_since old new (may_leave old)

-- where the bytes stood for a history, they do at each moment, or from the first sync on where something was pending, unless that sync failed
abbrev pub IsKept : {D : Type 0} → (D → Bool) → (D → ℕ) → (D → List ℕ) → (D → List ℕ → Type 0) → (D → ℕ → List ℕ → Type 0) → Bounds → D → D → Type 0
IsKept pending moment seen may_leave left_since m old new = (history : List Entry) → StandsFor m (seen old) history
    → WasNotSynced moment seen may_leave left_since old new
    ⊎ ((t : ℕ) × (pending old ≡ false → t ≡ moment old) × StandsSince moment seen left_since m old new t history)

-- nothing was written since that moment: a read gives these bytes, and a crash leaves them
pub record IsUnwritten {D : Type 0} (moment : D → ℕ) (seen : D → List ℕ) (left_since : D → ℕ → List ℕ → Type 0) (disk : D) (bytes : List ℕ) (t : ℕ) : Type 0 where
  pub before : t ≤ moment disk
  pub reads : seen disk ≡ bytes
  pub leaves : Only bytes (left_since disk t)

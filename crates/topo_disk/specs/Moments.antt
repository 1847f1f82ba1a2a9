-- What a crash at some moment of a run of calls might have left. A moment is the number of calls so far.
use Rattle.std.specs.Prelude.{ℕ, ◌≤◌, List, length, take}
use Rattle.topo_disk.specs.declared.call.Called.{Called}
use Rattle.topo_disk.specs.Standing.{Standing, fresh, after_all, IsImage}

-- what stands after the first k calls
abbrev pub standing_at : List ℕ → List Called → ℕ → Standing
standing_at first calls k = after_all (fresh first) (take k calls)

-- a crash after some call from moment t on
abbrev pub LeftSince : List ℕ → List Called → ℕ → List ℕ → Type 0
LeftSince first calls t c = (k : ℕ) × (t ≤ k) × (k ≤ length calls) × IsImage (standing_at first calls k) c

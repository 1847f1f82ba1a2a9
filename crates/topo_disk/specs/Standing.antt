-- What stands on a disk after some calls, and what a crash then may leave.
use Rattle.std.specs.Prelude.{◌≡◌, ◌⊎◌, ℕ, ◌+◌, ◌<◌, ◌≤◌, Bool, true, false, List, [], ◌∷◌, ◌++◌, length, take, drop, slice_index, Vec, Option, None, Some}
use Rattle.std.specs.declared.alloc.Global.{Global}
use Rattle.topo_disk.specs.declared.call.Call.{Call}
use Rattle.topo_disk.specs.declared.call.Call.TheVariants.{Write, Sync}
use Rattle.topo_disk.specs.declared.call.Called.{Called}

-- the bytes at the last sync that succeeded, those that a read gives, and the ranges (offset, length) written since
pub record Standing : Type 0 where
  pub kept : List ℕ
  pub seen : List ℕ
  pub written : List (ℕ × ℕ)

-- a disk on which nothing was written yet
abbrev pub fresh : List ℕ → Standing
fresh bytes = record { kept = bytes; seen = bytes; written = [] }

-- what a disk held at first, which is stored from the first write on
abbrev pub start : Option (Vec ℕ Global) → List ℕ → List ℕ
start None bytes = bytes
start (Some first) bytes = first.items

abbrev pub wrote : ℕ → List ℕ → Standing → Standing
wrote at bytes s = record { kept = s.kept; seen = take at s.seen ++ bytes ++ drop (at + length bytes) s.seen; written = (at, length bytes) ∷ s.written }

abbrev pub synced : Standing → Standing
synced s = record { kept = s.seen; seen = s.seen; written = [] }

-- a call that failed changed nothing
abbrev pub after_call : Bool → Call → Standing → Standing
after_call false (Write at bytes) s = wrote at bytes.items s
after_call false Sync s = synced s
after_call failed call s = s

abbrev pub after : Called → Standing → Standing
after called s = after_call called.failed called.call s

abbrev pub after_all : Standing → List Called → Standing
after_all s [] = s
after_all s (called ∷ calls) = after_all (after called s) calls

-- something was written since the last sync
abbrev pub has_range : List (ℕ × ℕ) → Bool
has_range [] = false
has_range (range ∷ ranges) = true

abbrev pub is_pending : Standing → Bool
is_pending s = has_range s.written

-- k is in none of the ranges
abbrev pub Untouched : ℕ → List (ℕ × ℕ) → Type 0
Untouched k [] = Unit {0}
Untouched k (range ∷ ranges) = ((k < range.0) ⊎ (range.0 + range.1 ≤ k)) × Untouched k ranges

-- What a crash may leave: any bytes in the ranges and past the old end, the size from the old to the new end,
-- and the kept bytes elsewhere.
pub record IsImage (s : Standing) (c : List ℕ) : Type 0 where
  pub no_shorter : length s.kept ≤ length c
  pub no_longer : length c ≤ length s.seen
  pub same : (k : ℕ) → k < length s.kept → Untouched k s.written → slice_index c k ≡ slice_index s.kept k

-- a disk's bytes are what its calls left
pub record IsReached (s : Standing) (bytes : List ℕ) : Type 0 where
  pub seen : s.seen ≡ bytes
  pub image : IsImage s bytes
  pub calm : s.written ≡ [] → s.kept ≡ bytes

-- A window over a file: bytes that were read from an offset on.
use Rattle.std.specs.Prelude.{ℕ, ◌+◌, ◌-◌, ◌≤◌, List, length, take, drop}

pub record Stretch : Type 0 where
  pub start : ℕ
  pub bytes : List ℕ

-- n bytes from this offset on are in the window
abbrev pub IsIn : Stretch → ℕ → ℕ → Type 0
IsIn w at n = (w.start ≤ at) × (at + n ≤ w.start + length w.bytes)

-- these bytes
abbrev pub part : Stretch → ℕ → ℕ → List ℕ
part w at n = take n (drop (at - w.start) w.bytes)

-- What a source has left after reads, where it tells.
use Rattle.std.specs.Prelude.{ℕ, ◌≤◌, List, length, Option}
use Rattle.std.specs.Io.KnownBytes.{Consumes}

-- at most n bytes were taken from the front of what was left
pub record TakesAtMost (n : ℕ) (old new : Option (List ℕ)) : Type 0 where
  pub taken : List ℕ
  pub within : length taken ≤ n
  pub consumed : Consumes old new taken

-- What contracts see of an excerpt.
use Rattle.std.specs.Prelude.{ℕ}
use Rattle.drawing.specs.Tables.{Tables}

-- the rows that were copied, and the length of the history at which they were
pub record Taken : Type 0 where
  pub rows : Tables
  pub front : ℕ

-- A table that keeps each row at the place of its id.
use Rattle.std.specs.Prelude.{ℕ, ◌+◌, ◌<◌, ◌^◌, List, Option, length}
use Rattle.drawing.specs.Places.{IsInPlace}

-- the rows ascending by id, the next id, and for how many rows more there is room
pub record Placed (R : Type 0) : Type 0 where
  pub rows : List R
  pub next_id : ℕ
  pub room : ℕ

-- each row is at the place of its id, and the next id is a number of 32 bits
pub record ArePlaces {R : Type 0} (id : R → ℕ) (places : List (Option R)) : Type 0 where
  pub in_place : IsInPlace id 1 places
  pub small : length places + 1 < 2 ^ 32

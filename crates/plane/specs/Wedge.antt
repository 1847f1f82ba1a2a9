-- Directions about a point in clockwise order, and the wedge between two of them that another direction is in.
use Rattle.std.specs.Prelude.{◌≡◌, ◌≢◌, ℕ, ◌<◌, pos, Bool, true, false, ◌&&◌, List, [], ◌∷◌, length, IsTrue}
use Rattle.std.specs.List.{slice_index_or}
use Rattle.plane.specs.Direction.{Direction, is_nearer}

-- seen from r, each is nearer than the next
abbrev pub are_nearer_first : Direction → List Direction → Bool
are_nearer_first r [] = true
are_nearer_first r (u ∷ []) = true
are_nearer_first r (u ∷ v ∷ us) = is_nearer r u v && are_nearer_first r (v ∷ us)

-- the directions differ and stand in clockwise order, seen from the first of them
abbrev pub in_clockwise_order : List Direction → Bool
in_clockwise_order [] = true
in_clockwise_order (u ∷ us) = are_nearer_first u (u ∷ us)

-- the direction at an index, and the first
abbrev pub no_direction : Direction
no_direction = record { dx = pos 0; dy = pos 0 }

abbrev pub direction_at : List Direction → ℕ → Direction
direction_at star i = slice_index_or star i no_direction

-- going clockwise about the star, the direction at index i is the last one before u
pub record IsLastBefore (star : List Direction) (u : Direction) (i : ℕ) : Type 0 where
  pub within : i < length star
  -- seen from the first: it is not after u, and those at greater indices are
  pub before : is_nearer (direction_at star 0) u (direction_at star i) ≡ false
  pub rest_after : (k : ℕ) → i < k → k < length star → IsTrue (is_nearer (direction_at star 0) u (direction_at star k))
  -- seen from u: all others come first
  pub last : (k : ℕ) → k < length star → k ≢ i → IsTrue (is_nearer u (direction_at star k) (direction_at star i))

-- Names of layers and of what a script binds.
use Rattle.std.specs.Prelude.{ℕ, Bool, false, ◌&&◌, ◌||◌, ◌==◌, nat_le, List, [], ◌∷◌, length}
use Rattle.std.specs.List.{list_all}

-- a lower-case letter
abbrev pub is_letter : ℕ → Bool
is_letter c = nat_le 97 c && nat_le c 122

-- a lower-case letter, a digit or _
abbrev pub is_name_byte : ℕ → Bool
is_name_byte c = is_letter c || nat_le 48 c && nat_le c 57 || c == 95

-- a name: a lower-case letter, and then at most 62 lower-case letters, digits or _
abbrev pub is_name : List ℕ → Bool
is_name [] = false
is_name (c ∷ cs) = is_letter c && list_all is_name_byte cs && nat_le (length cs) 62

-- The bytes of a journal: a header of seven bytes, and then gates with a frame behind each open one.
use Rattle.std.specs.Prelude.{◌≡◌, ◌≢◌, ℕ, zero, suc, ◌+◌, ◌*◌, ◌/◌, ◌%◌, ◌≤◌, Bool, true, ◌&&◌, not, List, [], ◌∷◌, ◌++◌, length, take, drop, slice_index, if◌then◌else◌, ◌==◌, nat_lt, nat_le}

-- whether this body may stand behind these
abbrev pub Legal : Type 0
Legal = List (List ℕ) → List ℕ → Bool

-- each body may stand behind those before it
abbrev pub Follow : Legal → List (List ℕ) → List (List ℕ) → Type 0
Follow legal before [] = Unit {0}
Follow legal before (body ∷ bodies) = (legal before body ≡ true) × Follow legal (before ++ body ∷ []) bodies

abbrev pub AreLegal : Legal → List (List ℕ) → Type 0
AreLegal legal bodies = Follow legal [] bodies

-- the number that four bytes spell, the highest first
abbrev pub number : ℕ → ℕ → ℕ → ℕ → ℕ
number a b c d = ((a * 256 + b) * 256 + c) * 256 + d

-- the four bytes of a size, where the first one takes all that is left: below 2 ^ 32 these are its bytes
abbrev pub size_bytes : ℕ → List ℕ
size_bytes n = (n / 256 / 256 / 256) ∷ (n / 256 / 256 % 256) ∷ (n / 256 % 256) ∷ (n % 256) ∷ []

-- a body behind its length
abbrev pub frame : List ℕ → List ℕ
frame body = size_bytes (length body) ++ body

-- open gates, with a frame behind each
abbrev pub frames : List (List ℕ) → List ℕ
frames [] = []
frames (body ∷ bodies) = 1 ∷ (frame body ++ frames bodies)

-- what a journal's bytes stand for: the bodies in order, or the offset of the first bad gate
pub data Reading : Type 0 where
  History : List (List ℕ) → Reading
  Bad : ℕ → Reading

-- The bytes from the gate at p on, behind these bodies. No more than steps frames stand there.
unfoldable pub read_gates : Legal → ℕ → List (List ℕ) → ℕ → List ℕ → Reading
read_gates legal zero before p bytes = Bad p
read_gates legal (suc steps) before p (gate ∷ a ∷ b ∷ c ∷ d ∷ rest) =
    if gate == 1
    then (if nat_lt (number a b c d) (length rest) && legal before (take (number a b c d) rest)
    then read_gates legal steps (before ++ take (number a b c d) rest ∷ []) (p + 5 + number a b c d) (drop (number a b c d) rest)
    else Bad p)
    else History before
read_gates legal (suc steps) before p (gate ∷ rest) = if gate == 1 then Bad p else History before
read_gates legal (suc steps) before p [] = Bad p

-- the letters TOPOJ
abbrev pub are_letters : ℕ → ℕ → ℕ → ℕ → ℕ → Bool
are_letters a b c d e = a == 84 && b == 79 && c == 80 && d == 79 && e == 74

-- what bytes stand for. Format 2 is kept for later
unfoldable pub read : Legal → List ℕ → Reading
read legal (header ∷ a ∷ b ∷ c ∷ d ∷ e ∷ format ∷ gate ∷ rest) =
    if header == 1
    then (if are_letters a b c d e && not (format == 2) then read_gates legal (suc (length rest)) [] 7 (gate ∷ rest) else Bad 0)
    else (if nat_le (length rest) 0 then History [] else Bad 0)
read legal (header ∷ second ∷ rest) = if header == 1 then Bad 0 else History []
read legal bytes = History []

abbrev pub Stands : Legal → List ℕ → List (List ℕ) → Type 0
Stands legal bytes bodies = read legal bytes ≡ History bodies

-- not yet a journal: at most one byte, or at most eight with a closed header gate
abbrev pub is_not_yet : List ℕ → Bool
is_not_yet [] = true
is_not_yet (header ∷ []) = true
is_not_yet (header ∷ rest) = not (header == 1) && nat_le (length rest) 7

-- the first seven bytes of a journal
abbrev pub opening : ℕ → List ℕ
opening format = 1 ∷ 84 ∷ 79 ∷ 80 ∷ 79 ∷ 74 ∷ format ∷ []

-- the letters, the format and the first gate
abbrev pub header_rest : List ℕ
header_rest = 84 ∷ 79 ∷ 80 ∷ 79 ∷ 74 ∷ 1 ∷ 0 ∷ []

-- one to eight bytes with a closed header gate
pub record IsShut (bytes : List ℕ) : Type 0 where
  pub shut : slice_index bytes 0 ≢ 1
  pub some : 1 ≤ length bytes
  pub few : length bytes ≤ 8

-- all of a new journal but its header gate
abbrev pub IsNamed : List ℕ → Type 0
IsNamed bytes = drop 1 bytes ≡ header_rest

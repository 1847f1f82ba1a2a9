-- A text that is parted: what stands before the first byte that parts it, and behind it.
use Rattle.std.specs.Prelude.{◌≡◌, ℕ, Bool, not, ◌==◌, IsTrue, List, [], ◌∷◌, ◌++◌}
use Rattle.script_model.specs.Script.{is_line_feed, is_blank, is_whole}
use Rattle.script_reader.specs.declared.parting.Separator.{Separator}
use Rattle.script_reader.specs.declared.parting.Separator.TheVariants.{LineFeed, Blank, Comma}

-- a comma, which parts the names that a line binds
abbrev pub is_comma : ℕ → Bool
is_comma c = c == 44

-- the bytes that part a text
abbrev pub parts : Separator → ℕ → Bool
parts LineFeed = is_line_feed
parts Blank = is_blank
parts Comma = is_comma

-- no byte parts the text
abbrev pub IsWhole : (ℕ → Bool) → List ℕ → Type 0
IsWhole parting text = IsTrue (is_whole parting text)

-- the text is a first part, a byte that parts, and the rest
pub record IsPart (parting : ℕ → Bool) (text front rest : List ℕ) : Type 0 where
  pub byte : ℕ
  pub is : text ≡ front ++ byte ∷ rest
  pub ends : IsTrue (parting byte)
  pub whole : IsWhole parting front

-- the line has a word at its front, or nothing
abbrev pub BeginsWithWord : List ℕ → Type 0
BeginsWithWord [] = Unit {0}
BeginsWithWord (c ∷ cs) = IsTrue (not (is_blank c))

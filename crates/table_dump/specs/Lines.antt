-- The lines of a text, and the words of a line.
use Rattle.std.specs.Prelude.{◌≡◌, ℕ, ◌+◌, ◌<◌, Bool, ◌==◌, IsTrue, List, [], ◌∷◌, length, take, drop}
use Rattle.script_model.specs.Script.{pieces, is_whole, is_line_feed}

-- each line but the last ends with a line feed, and the last may
abbrev pub lines_of : List ℕ → List (List ℕ)
lines_of text = pieces is_line_feed [] text

-- one space stands between two words
abbrev pub is_space : ℕ → Bool
is_space c = c == 32

abbrev pub words_of : List ℕ → List (List ℕ)
words_of line = pieces is_space ([] ∷ []) line

-- the words behind a word: a space and these, or nothing
abbrev pub words_behind : List ℕ → List (List ℕ)
words_behind [] = []
words_behind (c ∷ cs) = words_of cs

-- the byte stands here in the text, and not before
pub record IsFirstAt (byte : ℕ) (text : List ℕ) (at : ℕ) : Type 0 where
  pub within : at < length text
  pub here : drop at text ≡ byte ∷ drop (at + 1) text
  pub before : IsTrue (is_whole (λ c. c == byte) (take at text))

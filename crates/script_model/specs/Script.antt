-- The grammar of a script, over bytes: a line spells an edit where its words are the words of the edit.
use Rattle.std.specs.Prelude.{◌≡◌, ◌⊎◌, ℕ, ◌+◌, Bool, true, false, not, ◌&&◌, ◌||◌, IsTrue, List, [], ◌∷◌, filter, if◌then◌else◌, ◌==◌}
use Rattle.std.specs.List.{list_all}
use Rattle.topo_base.specs.ScriptLines.{ScriptLine}
use Rattle.script_model.specs.NamedWords.{script_words}

-- a byte at the front of the first piece
abbrev pub onto : ℕ → List (List ℕ) → List (List ℕ)
onto c [] = (c ∷ []) ∷ []
onto c (piece ∷ pieces) = (c ∷ piece) ∷ pieces

-- the pieces of a text between the bytes that part them, with these behind the last
abbrev pub pieces : (ℕ → Bool) → List (List ℕ) → List ℕ → List (List ℕ)
pieces parts end [] = end
pieces parts end (c ∷ cs) = if parts c then [] ∷ pieces parts end cs else onto c (pieces parts end cs)

-- no byte of the text parts it
abbrev pub is_whole : (ℕ → Bool) → List ℕ → Bool
is_whole parts text = list_all (λ c. not (parts c)) text

-- a carriage return right before a line feed belongs to the line's end
abbrev pub begins_with_feed : List ℕ → Bool
begins_with_feed [] = false
begins_with_feed (c ∷ cs) = c == 10

abbrev pub without_returns : List ℕ → List ℕ
without_returns [] = []
without_returns (c ∷ cs) = if c == 13 && begins_with_feed cs then without_returns cs else c ∷ without_returns cs

-- the lines of a text: each but the last ends with a line feed, and the last may
abbrev pub is_line_feed : ℕ → Bool
is_line_feed c = c == 10

abbrev pub lines_of : List ℕ → List (List ℕ)
lines_of text = pieces is_line_feed [] (without_returns text)

-- the words of a line, with one or more spaces or tabs between two of them and maybe some around them
abbrev pub is_blank : ℕ → Bool
is_blank c = c == 32 || c == 9

abbrev pub without_empty : List (List ℕ) → List (List ℕ)
without_empty [] = []
without_empty ([] ∷ ws) = without_empty ws
without_empty ((c ∷ cs) ∷ ws) = (c ∷ cs) ∷ without_empty ws

abbrev pub words_of : List ℕ → List (List ℕ)
words_of line = without_empty (pieces is_blank ([] ∷ []) line)

-- a line is skipped that has no words, or whose first word begins with #
abbrev pub is_comment : List (List ℕ) → Bool
is_comment [] = true
is_comment ([] ∷ ws) = false
is_comment ((c ∷ cs) ∷ ws) = c == 35

abbrev pub is_skipped : List ℕ → Bool
is_skipped line = is_comment (words_of line)

-- the line spells this edit, with the names that it binds, and it is one of those that are read
pub record IsLine (is_read : ScriptLine → Bool) (line : List ℕ) (l : ScriptLine) : Type 0 where
  pub good : IsTrue (is_read l)
  pub spelled : words_of line ≡ script_words l

-- each line spells the edit at its place
abbrev pub AreLines : (ScriptLine → Bool) → List (List ℕ) → List ScriptLine → Type 0
AreLines is_read [] [] = Unit {0}
AreLines is_read (line ∷ lines) (l ∷ ls) = IsLine is_read line l × AreLines is_read lines ls
AreLines is_read [] (l ∷ ls) = ⊥
AreLines is_read (line ∷ lines) [] = ⊥

-- the lines that aren't skipped
abbrev pub edit_lines : List (List ℕ) → List (List ℕ)
edit_lines lines = filter (λ line. not (is_skipped line)) lines

-- the text is the script of these edits
abbrev pub IsScript : (ScriptLine → Bool) → List ℕ → List ScriptLine → Type 0
IsScript is_read text ls = AreLines is_read (edit_lines (lines_of text)) ls

-- the line is skipped, or spells an edit that is read
abbrev pub IsGood : (ScriptLine → Bool) → List ℕ → Type 0
IsGood is_read line = IsTrue (is_skipped line) ⊎ ((l : ScriptLine) × IsLine is_read line l)

-- of these lines the one of this number, counted from 1, is the first that is neither
abbrev pub IsFirstBadLine : (ScriptLine → Bool) → List (List ℕ) → ℕ → Type 0
IsFirstBadLine is_read [] n = ⊥
IsFirstBadLine is_read (line ∷ lines) n = ((n ≡ 1) × (IsGood is_read line → ⊥)) ⊎ (IsGood is_read line × (m : ℕ) × (n ≡ m + 1) × IsFirstBadLine is_read lines m)

abbrev pub IsFirstBad : (ScriptLine → Bool) → List ℕ → ℕ → Type 0
IsFirstBad is_read text n = IsFirstBadLine is_read (lines_of text) n

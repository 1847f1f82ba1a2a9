-- Histories: lists of entries, oldest first.
use Rattle.std.specs.Prelude.{◌≡◌, ◌==◌, ℕ, ◌+◌, ◌≤◌, List, [], ◌∷◌, ◌++◌, length, if◌then◌else◌, nat_lt, drop}
use Rattle.topo_base.specs.declared.edit.Entry.{Entry}

-- the second list begins with the first
abbrev pub IsPrefix : List Entry → List Entry → Type 0
IsPrefix start list = (rest : List Entry) × (start ++ rest ≡ list)

-- the longer of two lists, and the first where they have the same length
abbrev pub longer : List Entry → List Entry → List Entry
longer first second = if nat_lt (length first) (length second) then second else first

-- the entries of one editor, each with its place, where the first entry of the list has the place `at`
abbrev pub own_entries : ℕ → ℕ → List Entry → List (ℕ × Entry)
own_entries editor at [] = []
own_entries editor at (e ∷ es) = if e.editor == editor then (at, e) ∷ own_entries editor (at + 1) es else own_entries editor (at + 1) es

-- the entry's editor is one of those with the numbers 1 to n
abbrev pub IsEditor : ℕ → Entry → Type 0
IsEditor n e = (1 ≤ e.editor) × (e.editor ≤ n)

-- what a list that begins with the opening has behind it
abbrev pub gained : List Entry → List Entry → List Entry
gained opening list = drop (length opening) list

-- From which height to which a segment reaches.
use Rattle.std.specs.Prelude.{ℕ, ℤ, pos, ◌+ℤ◌, ◌≤ℤ◌, ⊤, List, [], ◌∷◌, All}
use Rattle.std.specs.Int.{int_min, int_max}
use Rattle.slab_index.specs.declared.piece.Piece.{Piece}

abbrev pub top : Piece → ℤ
top e = int_max e.start.y e.end.y

abbrev pub bottom : Piece → ℤ
bottom e = int_min e.start.y e.end.y

-- the segment isn't higher than this from its bottom to its top
abbrev pub IsNoHigher : ℕ → Piece → Type 0
IsNoHigher rise e = top e ≤ℤ (bottom e +ℤ pos rise)

-- no top is below one before it
abbrev pub IsRising : List Piece → Type 0
IsRising [] = ⊤
IsRising (e ∷ es) = All (λ f. top e ≤ℤ top f) es × IsRising es

use Rattle.std.specs.Prelude.{◌≡◌, ◌++◌, ℕ, List, codes}

-- the text is an element `svg` from its opening to its closing, and a line feed
abbrev pub IsPicture : List ℕ → Type 0
IsPicture text = (inner : List ℕ) × (text ≡ codes "<svg " ++ (inner ++ codes "</svg>\n"))

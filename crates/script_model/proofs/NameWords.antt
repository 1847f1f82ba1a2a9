-- The names that a line binds are known by their word.
use Rattle.std.proofs.Common.{◌≡◌, ℕ, Bool, true, false, not, ◌&&◌, ◌||◌, List, [], ◌∷◌, ◌==◌, IsTrue, refl, sym, ap, ◌∙◌, ne_eqb}
use Rattle.std.specs.List.{list_all, join_with_byte}
use Rattle.std.specs.Prelude.{nat_le, length}
use Rattle.std.proofs.lemmas.Bool.{and_parts, and_from, true≢false}
use Rattle.topo_base.specs.Names.{is_letter, is_name_byte, is_name}
use Rattle.script_model.specs.Script.{pieces, is_whole}
use Rattle.plane.proofs.ListTests.{all_weaker}
use Rattle.script_model.proofs.Pieces.{pieces_front, pieces_last}

-- words with a byte between two of them, none of which has that byte, come apart again
pub pieces_joined : (parts : ℕ → Bool) (c : ℕ) (w : List ℕ) (ws : List (List ℕ)) → parts c ≡ true → IsTrue (list_all (is_whole parts) (w ∷ ws)) → pieces parts ([] ∷ []) (join_with_byte c (w ∷ ws)) ≡ w ∷ ws
pieces_joined parts c w [] is h = pieces_last parts w (and_parts (is_whole parts w) true h).0
pieces_joined parts c w (v ∷ vs) is h =
    let here = and_parts (is_whole parts w) (list_all (is_whole parts) (v ∷ vs)) h in
    pieces_front parts ([] ∷ []) c w (join_with_byte c (v ∷ vs)) here.0 is ∙ ap (λ ws. w ∷ ws) (pieces_joined parts c v vs is here.1)

-- a letter is a byte of a name
letter_in_name : (c : ℕ) → IsTrue (is_letter c) → IsTrue (is_name_byte c)
letter_in_name c h = ap (λ b. (b || nat_le 48 c && nat_le c 57) || c == 95) h

-- each byte of a name is one of a name's
pub name_bytes : (name : List ℕ) → IsTrue (is_name name) → IsTrue (list_all is_name_byte name)
name_bytes [] h = refl
name_bytes (c ∷ cs) h =
    let front = and_parts (is_letter c && list_all is_name_byte cs) (nat_le (length cs) 62) h in
    let bytes = and_parts (is_letter c) (list_all is_name_byte cs) front.0 in
    and_from (is_name_byte c) (list_all is_name_byte cs) (letter_in_name c bytes.0) bytes.1

-- a name has no byte that is none of a name's
pub name_whole : (parts : ℕ → Bool) → ((c : ℕ) → IsTrue (is_name_byte c) → IsTrue (not (parts c))) → (name : List ℕ) → IsTrue (is_name name) → IsTrue (is_whole parts name)
name_whole parts other name h = all_weaker is_name_byte (λ c. not (parts c)) other name (name_bytes name h)

-- a byte of a name isn't one that is none
pub name_byte_other : (d c : ℕ) → is_name_byte d ≡ false → IsTrue (is_name_byte c) → IsTrue (not (c == d))
name_byte_other d c none h = ap not (ne_eqb c d (λ same. true≢false (sym h ∙ ap is_name_byte same ∙ none)))

-- ---- names with commas between them
abbrev is_comma : ℕ → Bool
is_comma c = c == 44

names_back : (name : List ℕ) (names : List (List ℕ)) → IsTrue (list_all is_name (name ∷ names)) → pieces is_comma ([] ∷ []) (join_with_byte 44 (name ∷ names)) ≡ name ∷ names
names_back name names h = pieces_joined is_comma 44 name names refl (all_weaker is_name (is_whole is_comma) (name_whole is_comma (λ c. name_byte_other 44 c refl)) (name ∷ names) h)

pub names_unique : (a : List ℕ) (others : List (List ℕ)) (b : List ℕ) (bs : List (List ℕ)) → IsTrue (list_all is_name (a ∷ others)) → IsTrue (list_all is_name (b ∷ bs))
    → join_with_byte 44 (a ∷ others) ≡ join_with_byte 44 (b ∷ bs) → a ∷ others ≡ b ∷ bs
names_unique a others b bs g h e = sym (names_back a others g) ∙ ap (pieces is_comma ([] ∷ [])) e ∙ names_back b bs h

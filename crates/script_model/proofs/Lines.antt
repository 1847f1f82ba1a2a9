-- Lines of words.
use Rattle.std.proofs.Common.{◌≡◌, ℕ, ◌+◌, ◌<◌, List, [], ◌∷◌, ◌++◌, length, take, get_or, refl, sym, ap, ◌∙◌, append_assoc, append-nil}
use Rattle.std.specs.Prelude.{flat_map}
use Rattle.std.specs.List.{join_with_byte}
use Rattle.std.proofs.lemmas.List.{take_more}
use Rattle.std.proofs.lemmas.List.Concat.{flat_map-append}
use Rattle.script_model.specs.Words.{line_of, spaced}

-- a word and then others, each after a space
pub join-spaced : (w : List ℕ) (ws : List (List ℕ)) → join_with_byte 32 (w ∷ ws) ≡ w ++ spaced ws
join-spaced w [] = sym (append-nil w)
join-spaced w (v ∷ ws) = ap (λ rest. w ++ 32 ∷ rest) (join-spaced v ws)

pub line_of-spaced : (w : List ℕ) (ws : List (List ℕ)) → line_of (w ∷ ws) ≡ (w ++ spaced ws) ++ 10 ∷ []
line_of-spaced w ws = ap (λ l. l ++ 10 ∷ []) (join-spaced w ws)

pub spaced-append : (vs ws : List (List ℕ)) → spaced (vs ++ ws) ≡ spaced vs ++ spaced ws
spaced-append [] ws = refl
spaced-append (v ∷ vs) ws = ap (λ rest. 32 ∷ v ++ rest) (spaced-append vs ws) ∙ sym (append_assoc (32 ∷ v) (spaced vs) (spaced ws))

-- one more of what gives some words
pub spaced-more : {A : Type 0} (f : A → List (List ℕ)) (xs : List A) (i : ℕ) (x : A) → i < length xs → x ≡ get_or xs i x
    → spaced (flat_map f (take (i + 1) xs)) ≡ spaced (flat_map f (take i xs)) ++ spaced (f x)
spaced-more f xs i x inside is =
    let more : take (i + 1) xs ≡ take i xs ++ x ∷ [] = take_more xs i x inside ∙ ap (λ y. take i xs ++ y ∷ []) (sym is) in
    ap (λ l. spaced (flat_map f l)) more ∙ ap spaced (flat_map-append f (take i xs) (x ∷ [])) ∙ spaced-append (flat_map f (take i xs)) (f x ++ [])
    ∙ ap (λ l. spaced (flat_map f (take i xs)) ++ spaced l) (append-nil (f x))

-- a line that is appended word by word
pub line_of-two : (text w : List ℕ) (us vs : List (List ℕ)) → ((text ++ w) ++ spaced us) ++ (spaced vs ++ 10 ∷ []) ≡ text ++ line_of (w ∷ (us ++ vs))
line_of-two text w us vs =
    let whole : line_of (w ∷ (us ++ vs)) ≡ (w ++ (spaced us ++ spaced vs)) ++ 10 ∷ [] = line_of-spaced w (us ++ vs) ∙ ap (λ l. (w ++ l) ++ 10 ∷ []) (spaced-append us vs) in
    simp append_assoc (sym (ap (λ l. text ++ l) whole ∙ simp append_assoc))

pub line_of-three : (text w : List ℕ) (us ms vs : List (List ℕ)) → (((text ++ w) ++ spaced us) ++ spaced ms) ++ (spaced vs ++ 10 ∷ []) ≡ text ++ line_of (w ∷ (us ++ (ms ++ vs)))
line_of-three text w us ms vs =
    ap (λ l. l ++ (spaced vs ++ 10 ∷ [])) (append_assoc (text ++ w) (spaced us) (spaced ms) ∙ ap (λ l. (text ++ w) ++ l) (sym (spaced-append us ms)))
    ∙ line_of-two text w (us ++ ms) vs ∙ ap (λ ws. text ++ line_of (w ∷ ws)) (append_assoc us ms vs)

-- words and then more
pub join-more : (text w : List ℕ) (us vs : List (List ℕ)) → (text ++ join_with_byte 32 (w ∷ us)) ++ spaced vs ≡ text ++ join_with_byte 32 (w ∷ (us ++ vs))
join-more text w us vs =
    ap (λ l. (text ++ l) ++ spaced vs) (join-spaced w us) ∙ append_assoc text (w ++ spaced us) (spaced vs)
    ∙ ap (λ l. text ++ l) (append_assoc w (spaced us) (spaced vs) ∙ ap (λ l. w ++ l) (sym (spaced-append us vs)) ∙ sym (join-spaced w (us ++ vs)))

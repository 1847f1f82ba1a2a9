-- A line of words comes apart into these words, and its text into this line.
use Rattle.std.proofs.Common.{◌≡◌, ℕ, ◌<◌, Bool, true, false, cond, not, ◌&&◌, ◌||◌, List, [], ◌∷◌, ◌++◌, ◌==◌, IsTrue, nat_le, refl, ap, ◌∙◌, arith, ne_eqb, leb-true}
use Rattle.std.specs.List.{list_all, join_with_byte}
use Rattle.std.proofs.lemmas.Bool.{and_parts, and_from, not-true}
use Rattle.std.proofs.lemmas.List.Folds.{list_all-append}
use Rattle.script_model.specs.Script.{pieces, is_whole, begins_with_feed, without_returns, is_line_feed, lines_of, is_blank, without_empty, words_of}
use Rattle.script_model.specs.Words.{line_of}
use Rattle.script_model.proofs.Pieces.{pieces_front}
use Rattle.script_model.proofs.NameWords.{pieces_joined}
use Rattle.plane.proofs.ListTests.{all_weaker}

-- a word isn't empty, and each of its bytes is greater than a space, so that it neither parts words nor ends a line
abbrev pub is_visible : ℕ → Bool
is_visible c = nat_le 33 c

abbrev pub is_word : List ℕ → Bool
is_word [] = false
is_word (c ∷ cs) = list_all is_visible (c ∷ cs)

pub word_visible : (w : List ℕ) → IsTrue (is_word w) → IsTrue (list_all is_visible w)
word_visible [] h = absurd cc
word_visible (c ∷ cs) h = h

visible_other : (d c : ℕ) → d < 33 → IsTrue (is_visible c) → (c == d) ≡ false
visible_other d c low h = let high = leb-true 33 c h in ne_eqb c d (λ same. omega arith)

word_whole : (parts : ℕ → Bool) → ((c : ℕ) → IsTrue (is_visible c) → parts c ≡ false) → (w : List ℕ) → IsTrue (is_word w) → IsTrue (is_whole parts w)
word_whole parts other w h = all_weaker is_visible (λ c. not (parts c)) (λ c seen. ap not (other c seen)) w (word_visible w h)

words_whole : (parts : ℕ → Bool) → ((c : ℕ) → IsTrue (is_visible c) → parts c ≡ false) → (ws : List (List ℕ)) → IsTrue (list_all is_word ws) → IsTrue (list_all (is_whole parts) ws)
words_whole parts other ws h = all_weaker is_word (is_whole parts) (word_whole parts other) ws h

-- ---- the words
not_blank : (c : ℕ) → IsTrue (is_visible c) → is_blank c ≡ false
not_blank c h =
    let space = visible_other 32 c (omega arith) h in
    let tab = visible_other 9 c (omega arith) h in
    λ i. space i || tab i

words_kept : (ws : List (List ℕ)) → IsTrue (list_all is_word ws) → without_empty ws ≡ ws
words_kept [] h = refl
words_kept ([] ∷ ws) h = absurd cc
words_kept ((c ∷ cs) ∷ ws) h = ap (λ vs. (c ∷ cs) ∷ vs) (words_kept ws (and_parts (is_word (c ∷ cs)) (list_all is_word ws) h).1)

pub words_back : (w : List ℕ) (ws : List (List ℕ)) → IsTrue (list_all is_word (w ∷ ws)) → words_of (join_with_byte 32 (w ∷ ws)) ≡ w ∷ ws
words_back w ws h = ap without_empty (pieces_joined is_blank 32 w ws refl (words_whole is_blank not_blank (w ∷ ws) h)) ∙ words_kept (w ∷ ws) h

-- ---- the line
-- what holds of each byte of some words, and of the byte between them
pub joined_all : (p : ℕ → Bool) (c : ℕ) (ws : List (List ℕ)) → IsTrue (p c) → IsTrue (list_all (list_all p) ws) → IsTrue (list_all p (join_with_byte c ws))
joined_all p c [] is h = refl
joined_all p c (w ∷ []) is h = (and_parts (list_all p w) true h).0
joined_all p c (w ∷ v ∷ vs) is h =
    let here = and_parts (list_all p w) (list_all (list_all p) (v ∷ vs)) h in
    let rest = join_with_byte c (v ∷ vs) in
    list_all-append p w (c ∷ rest) ∙ and_from (list_all p w) (p c && list_all p rest) here.0 (and_from (p c) (list_all p rest) is (joined_all p c (v ∷ vs) is here.1))

abbrev is_return : ℕ → Bool
is_return c = c == 13

returns_kept : (text : List ℕ) → IsTrue (is_whole is_return text) → without_returns text ≡ text
returns_kept [] h = refl
returns_kept (c ∷ cs) h =
    let here = and_parts (not (is_return c)) (is_whole is_return cs) h in
    ap (λ b. cond (b && begins_with_feed cs) (without_returns cs) (c ∷ without_returns cs)) (not-true (is_return c) here.0)
    ∙ ap (λ rest. c ∷ rest) (returns_kept cs here.1)

pub one_line : (ws : List (List ℕ)) → IsTrue (list_all is_word ws) → lines_of (line_of ws) ≡ join_with_byte 32 ws ∷ []
one_line ws h =
    let line = join_with_byte 32 ws in
    let no_return = joined_all (λ c. not (is_return c)) 32 ws refl (words_whole is_return (λ c. visible_other 13 c (omega arith)) ws h) in
    let no_feed = joined_all (λ c. not (is_line_feed c)) 32 ws refl (words_whole is_line_feed (λ c. visible_other 10 c (omega arith)) ws h) in
    ap (pieces is_line_feed []) (returns_kept (line ++ 10 ∷ []) (list_all-append (λ c. not (is_return c)) line (10 ∷ []) ∙ and_from (is_whole is_return line) true no_return refl))
    ∙ pieces_front is_line_feed [] 10 line [] no_feed refl

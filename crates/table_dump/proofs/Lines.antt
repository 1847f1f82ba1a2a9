-- The lines of a text and the words of a line, one after another.
use Rattle.std.proofs.Common.{◌≡◌, ℕ, ◌+◌, ◌<◌, Bool, true, false, not, cond, List, [], ◌∷◌, ◌++◌, length, take, drop, map, flat_map, IsTrue, refl, sym, ap, ◌∙◌, arith, append_assoc}
use Rattle.std.specs.List.{list_all, join_with_byte}
use Rattle.std.proofs.lemmas.Bool.{and_parts, eqb-true}
use Rattle.std.proofs.lemmas.List.{take-append-drop, take_all, drop_all}
use Rattle.script_model.specs.Script.{onto, is_whole, is_line_feed}
use Rattle.script_model.specs.Words.{line_of}
use Rattle.script_model.proofs.Pieces.{pieces_front, pieces_last}
use Rattle.script_model.proofs.NameWords.{pieces_joined}
use Rattle.script_model.proofs.LinesApart.{joined_all}
use Rattle.table_dump.specs.Lines.{lines_of, is_space, words_of, words_behind, IsFirstAt}
use Rattle.table_dump.proofs.Spellings.{are_words, words_whole, no_space, no_feed}

-- ---- words and lines come apart
pub words_apart : (w : List ℕ) (ws : List (List ℕ)) → IsTrue (are_words (w ∷ ws)) → words_of (join_with_byte 32 (w ∷ ws)) ≡ w ∷ ws
words_apart w ws h = pieces_joined is_space 32 w ws refl (words_whole is_space no_space (w ∷ ws) h)

abbrev pub not_feed : ℕ → Bool
not_feed c = not (is_line_feed c)

pub line_apart : (ws : List (List ℕ)) (rest : List ℕ) → IsTrue (are_words ws) → lines_of (line_of ws ++ rest) ≡ join_with_byte 32 ws ∷ lines_of rest
line_apart ws rest h =
    let line = join_with_byte 32 ws in
    let whole = joined_all not_feed 32 ws refl (words_whole is_line_feed no_feed ws h) in
    ap lines_of (append_assoc line (10 ∷ []) rest) ∙ pieces_front is_line_feed [] 10 line rest whole refl

pub lines_apart : {A : Type 0} (good : A → Bool) (words : A → List (List ℕ)) → ((x : A) → IsTrue (good x) → IsTrue (are_words (words x))) → (xs : List A) (rest : List ℕ) → IsTrue (list_all good xs)
    → lines_of (flat_map (λ x. line_of (words x)) xs ++ rest) ≡ map (λ x. join_with_byte 32 (words x)) xs ++ lines_of rest
lines_apart good words are [] rest h = refl
lines_apart good words are (x ∷ xs) rest h =
    let here = and_parts (good x) (list_all good xs) h in
    ap lines_of (append_assoc (line_of (words x)) (flat_map (λ y. line_of (words y)) xs) rest)
    ∙ line_apart (words x) (flat_map (λ y. line_of (words y)) xs ++ rest) (are x here.0)
    ∙ ap (λ ls. join_with_byte 32 (words x) ∷ ls) (lines_apart good words are xs rest here.1)

-- ---- and the words of a line make it up
is_some : List (List ℕ) → Bool
is_some [] = false
is_some (x ∷ xs) = true

onto_some : (c : ℕ) (ps : List (List ℕ)) → is_some (onto c ps) ≡ true
unfolding is_some
onto_some c [] = refl
onto_some c (p ∷ ps) = refl

cond_some_list : (b : Bool) (xs ys : List (List ℕ)) → is_some xs ≡ true → is_some ys ≡ true → is_some (cond b xs ys) ≡ true
cond_some_list true xs ys h k = h
cond_some_list false xs ys h k = k

words_some : (line : List ℕ) → is_some (words_of line) ≡ true
unfolding is_some
words_some [] = refl
words_some (c ∷ cs) = cond_some_list (is_space c) ([] ∷ words_of cs) (onto c (words_of cs)) refl (onto_some c (words_of cs))

joined_behind : (c : ℕ) (ws : List (List ℕ)) → c ≡ 32 → is_some ws ≡ true → join_with_byte 32 ([] ∷ ws) ≡ c ∷ join_with_byte 32 ws
unfolding is_some
joined_behind c [] is h = absurd cc
joined_behind c (w ∷ ws) is h = ap (λ d. d ∷ join_with_byte 32 (w ∷ ws)) (sym is)

joined_onto : (c : ℕ) (ws : List (List ℕ)) → is_some ws ≡ true → join_with_byte 32 (onto c ws) ≡ c ∷ join_with_byte 32 ws
unfolding is_some
joined_onto c [] h = absurd cc
joined_onto c (w ∷ []) h = refl
joined_onto c (w ∷ v ∷ vs) h = refl

step : (b : Bool) (c : ℕ) (ws : List (List ℕ)) → (b ≡ true → c ≡ 32) → is_some ws ≡ true → join_with_byte 32 (cond b ([] ∷ ws) (onto c ws)) ≡ c ∷ join_with_byte 32 ws
step true c ws is h = joined_behind c ws (is refl) h
step false c ws is h = joined_onto c ws h

pub words_joined : (line : List ℕ) → join_with_byte 32 (words_of line) ≡ line
words_joined [] = refl
words_joined (c ∷ cs) = step (is_space c) c (words_of cs) (λ e. eqb-true c 32 e) (words_some cs) ∙ ap (λ l. c ∷ l) (words_joined cs)

pub words_not_none : (line : List ℕ) → words_of line ≡ [] → ⊥
unfolding is_some
words_not_none line e = let none : true ≡ false = sym (words_some line) ∙ ap is_some e in cc

-- ---- the first word and the first line
pub front_at : (line front rest : List ℕ) (at : ℕ) → IsFirstAt 32 line at → front ≡ take at line → rest ≡ drop at line → words_of line ≡ front ∷ words_behind rest
front_at line front rest at h f r =
    let after = drop (at + 1) line in
    let whole : line ≡ take at line ++ 32 ∷ after = sym (take-append-drop at line) ∙ ap (λ l. take at line ++ l) h.here in
    ap words_of whole ∙ pieces_front is_space ([] ∷ []) 32 (take at line) after h.before refl
    ∙ (λ i. sym f i ∷ words_behind ((sym h.here ∙ sym r) i))

pub front_all : (line front rest : List ℕ) → IsTrue (is_whole is_space line) → front ≡ take (length line) line → rest ≡ drop (length line) line → words_of line ≡ front ∷ words_behind rest
front_all line front rest h f r =
    let all : front ≡ line = f ∙ take_all (length line) line (omega arith) in
    let none : rest ≡ [] = r ∙ drop_all (length line) line (omega arith) in
    pieces_last is_space line h ∙ (λ i. sym all i ∷ words_behind (sym none i))

pub line_at : (text line rest after : List ℕ) (at : ℕ) → IsFirstAt 10 text at → line ≡ take at text → rest ≡ drop at text → after ≡ drop 1 rest → lines_of text ≡ line ∷ lines_of after
line_at text line rest after at h l r a =
    let behind = drop (at + 1) text in
    let whole : text ≡ take at text ++ 10 ∷ behind = sym (take-append-drop at text) ∙ ap (λ t. take at text ++ t) h.here in
    let same : after ≡ behind = a ∙ ap (drop 1) (r ∙ h.here) in
    ap lines_of whole ∙ pieces_front is_line_feed [] 10 (take at text) behind h.before refl ∙ (λ i. sym l i ∷ lines_of (sym same i))

alone : (c : ℕ) (cs : List ℕ) → IsTrue (is_whole is_line_feed (c ∷ cs)) → lines_of (c ∷ cs) ≡ (c ∷ cs) ∷ []
alone c [] h = ap (λ b. cond b ([] ∷ []) (onto c [])) (no (is_line_feed c) (and_parts (not (is_line_feed c)) true h).0)
  where
    no : (b : Bool) → IsTrue (not b) → b ≡ false
    no true e = absurd cc
    no false e = refl
alone c (d ∷ ds) h =
    let here = and_parts (not (is_line_feed c)) (list_all not_feed (d ∷ ds)) h in
    ap (λ b. cond b ([] ∷ lines_of (d ∷ ds)) (onto c (lines_of (d ∷ ds)))) (no (is_line_feed c) here.0) ∙ ap (onto c) (alone d ds here.1)
  where
    no : (b : Bool) → IsTrue (not b) → b ≡ false
    no true e = absurd cc
    no false e = refl

pub line_all : (text line after : List ℕ) → 0 < length text → IsTrue (is_whole is_line_feed text) → line ≡ take (length text) text → after ≡ drop (length text) text → lines_of text ≡ line ∷ lines_of after
line_all [] line after some h l a = absurd (omega arith)
line_all (c ∷ cs) line after some h l a =
    let text = c ∷ cs in
    let all : line ≡ text = l ∙ take_all (length text) text (omega arith) in
    let none : after ≡ [] = a ∙ drop_all (length text) text (omega arith) in
    alone c cs h ∙ (λ i. sym all i ∷ lines_of (sym none i))

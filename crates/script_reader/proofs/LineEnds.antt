-- What ends a line: a line feed, and a carriage return before it.
use Rattle.std.proofs.Common.{◌≡◌, ℕ, ◌<◌, Bool, true, false, cond, not, eqb, ◌&&◌, List, [], ◌∷◌, ◌++◌, length, IsTrue, refl, sym, ap, ◌∙◌, arith, ne_eqb, append-nil}
use Rattle.std.specs.List.{list_all}
use Rattle.std.proofs.lemmas.Bool.{and_parts}
use Rattle.std.proofs.lemmas.Bool.Decides.{Decides-eqb}
use Rattle.script_model.specs.Script.{pieces, onto, is_line_feed, begins_with_feed, without_returns, lines_of}
use Rattle.script_model.proofs.Pieces.{pieces_front}
use Rattle.script_reader.specs.Parting.{IsWhole, IsPart}

pub not_true : (b : Bool) → IsTrue (not b) → b ≡ false
not_true true h = absurd cc
not_true false h = refl

cond_and_false : {A : Type 0} (b : Bool) (x y : A) → cond (b && false) x y ≡ y
cond_and_false true x y = refl
cond_and_false false x y = refl

-- no line feed stands at the front of a text that has none and is followed by none
no_feed : (w s : List ℕ) → IsWhole is_line_feed w → begins_with_feed s ≡ false → begins_with_feed (w ++ s) ≡ false
no_feed [] s h b = b
no_feed (c ∷ cs) s h b = not_true (is_line_feed c) (and_parts (not (is_line_feed c)) (list_all (λ c. not (is_line_feed c)) cs) h).0

-- bytes before which no line feed stands are kept
pub returns_front : (w s : List ℕ) → IsWhole is_line_feed w → begins_with_feed s ≡ false → without_returns (w ++ s) ≡ w ++ without_returns s
returns_front [] s h b = refl
returns_front (c ∷ cs) s h b =
    let here = and_parts (not (is_line_feed c)) (list_all (λ c. not (is_line_feed c)) cs) h in
    ap (λ t. cond (eqb c 13 && t) (without_returns (cs ++ s)) (c ∷ without_returns (cs ++ s))) (no_feed cs s here.1 b)
    ∙ cond_and_false (eqb c 13) (without_returns (cs ++ s)) (c ∷ without_returns (cs ++ s))
    ∙ ap (λ t. c ∷ t) (returns_front cs s here.1 b)

-- a line before its line feed, with no carriage return at its end
pub returns_kept : (w rest : List ℕ) → IsWhole is_line_feed w → ((front : List ℕ) → w ≡ front ++ 13 ∷ [] → ⊥) → without_returns (w ++ 10 ∷ rest) ≡ w ++ 10 ∷ without_returns rest
returns_kept [] rest h none = refl
returns_kept (c ∷ []) rest h none =
    let other : eqb c 13 ≡ false = ne_eqb c 13 (λ e. none [] (ap (λ d. d ∷ []) e)) in
    ap (λ t. cond (t && true) (without_returns (10 ∷ rest)) (c ∷ without_returns (10 ∷ rest))) other
returns_kept (c ∷ d ∷ ds) rest h none =
    let here = and_parts (not (is_line_feed c)) (list_all (λ c. not (is_line_feed c)) (d ∷ ds)) h in
    let next = and_parts (not (is_line_feed d)) (list_all (λ c. not (is_line_feed c)) ds) here.1 in
    ap (λ t. cond (eqb c 13 && t) (without_returns (d ∷ ds ++ 10 ∷ rest)) (c ∷ without_returns (d ∷ ds ++ 10 ∷ rest))) (not_true (is_line_feed d) next.0)
    ∙ cond_and_false (eqb c 13) (without_returns (d ∷ ds ++ 10 ∷ rest)) (c ∷ without_returns (d ∷ ds ++ 10 ∷ rest))
    ∙ ap (λ t. c ∷ t) (returns_kept (d ∷ ds) rest here.1 (λ front e. none (c ∷ front) (ap (λ t. c ∷ t) e)))

-- a line before a carriage return and its line feed
pub returns_dropped : (w rest : List ℕ) → IsWhole is_line_feed w → without_returns (w ++ 13 ∷ 10 ∷ rest) ≡ w ++ 10 ∷ without_returns rest
returns_dropped w rest h = returns_front w (13 ∷ 10 ∷ rest) h refl

-- the front of a text without line feeds has none
pub whole_front : (front back : List ℕ) → IsWhole is_line_feed (front ++ back) → IsWhole is_line_feed front
whole_front [] back h = refl
whole_front (c ∷ cs) back h =
    let here = and_parts (not (is_line_feed c)) (list_all (λ c. not (is_line_feed c)) (cs ++ back)) h in
    ap (λ t. t && list_all (λ c. not (is_line_feed c)) cs) here.0 ∙ whole_front cs back here.1

-- a text without a line feed is its one line
alone : (c : ℕ) (cs : List ℕ) → IsWhole is_line_feed (c ∷ cs) → pieces is_line_feed [] (c ∷ cs) ≡ (c ∷ cs) ∷ []
alone c [] h = ap (λ b. cond b ([] ∷ []) (onto c [])) (not_true (is_line_feed c) (and_parts (not (is_line_feed c)) true h).0)
alone c (d ∷ ds) h =
    let here = and_parts (not (is_line_feed c)) (list_all (λ c. not (is_line_feed c)) (d ∷ ds)) h in
    ap (λ b. cond b ([] ∷ pieces is_line_feed [] (d ∷ ds)) (onto c (pieces is_line_feed [] (d ∷ ds)))) (not_true (is_line_feed c) here.0)
    ∙ ap (onto c) (alone d ds here.1)

returns_none : (w : List ℕ) → IsWhole is_line_feed w → without_returns w ≡ w
returns_none w h = ap without_returns (sym (append-nil w)) ∙ returns_front w [] h refl ∙ append-nil w

pub lines_alone : (text : List ℕ) → 0 < length text → IsWhole is_line_feed text → lines_of text ≡ text ∷ []
lines_alone [] some h = absurd (omega arith)
lines_alone (c ∷ cs) some h = ap (pieces is_line_feed []) (returns_none (c ∷ cs) h) ∙ alone c cs h

-- the first line, and what stands behind its line feed
pub lines_front : (text line after kept : List ℕ) → IsPart is_line_feed text line after
    → (IsWhole is_line_feed line → IsWhole is_line_feed kept × ((rest : List ℕ) → without_returns (line ++ 10 ∷ rest) ≡ kept ++ 10 ∷ without_returns rest))
    → lines_of text ≡ kept ∷ lines_of after
lines_front text line after kept part keeps =
    let here = keeps part.whole in
    let feed : part.byte ≡ 10 = (Decides-eqb part.byte 10).0 part.ends in
    ap lines_of part.is ∙ ap (λ c. lines_of (line ++ c ∷ after)) feed ∙ ap (pieces is_line_feed []) (here.1 after)
    ∙ pieces_front is_line_feed [] 10 kept (without_returns after) here.0 refl

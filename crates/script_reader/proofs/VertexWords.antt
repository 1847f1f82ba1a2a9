-- The words of vertices.
use Rattle.std.proofs.Common.{◌≡◌, ℕ, zero, suc, ◌≤◌, ◌<◌, List, [], ◌∷◌, ◌++◌, length, drop, get_or, nat_le, IsTrue, refl, sym, ap, ◌∙◌, arith, leb-true}
use Rattle.std.specs.List.{list_all}
use Rattle.std.proofs.lemmas.Bool.{and_parts}
use Rattle.std.proofs.lemmas.List.{drop_all}
use Rattle.topo_base.specs.Point.{Point}
use Rattle.drawing.specs.InRange.{is_grid_point}
use Rattle.drawing.specs.Accepted.{is_line_short}
use Rattle.script_model.specs.NamedRange.{is_new_line}
use Rattle.script_model.specs.Words.{line_words}
use Rattle.script_model.proofs.WordsUnique.{point_in_range}
use Rattle.script_reader.specs.Reading.{IsPoint, AreVertices, IsNewLine}

-- the words behind those of the first vertices are those of the others
pub words_left : (done ps : List Point) (rest : List (List ℕ)) → line_words done ++ rest ≡ line_words ps → rest ≡ line_words (drop (length done) ps)
words_left [] ps rest e = e
words_left (q ∷ done) [] rest e = absurd cc
words_left (q ∷ done) (p ∷ ps) rest e = words_left done ps rest (ap (drop 2) e)

good_left : (n : ℕ) (ps : List Point) → IsTrue (list_all is_grid_point ps) → IsTrue (list_all is_grid_point (drop n ps))
good_left zero ps h = h
good_left (suc n) [] h = h
good_left (suc n) (p ∷ ps) h = good_left n ps (and_parts (is_grid_point p) (list_all is_grid_point ps) h).1

-- two words that are no point
not_first : (x y : List ℕ) (after : List (List ℕ)) (ps : List Point) → IsTrue (list_all is_grid_point ps) → ((p : Point) → IsPoint x y p → ⊥) → x ∷ y ∷ after ≡ line_words ps → ⊥
not_first x y after [] good none e = cc
not_first x y after (p ∷ ps) good none e =
    none p (record { grid = point_in_range p (and_parts (is_grid_point p) (list_all is_grid_point ps) good).0; x_is = ap (λ ws. get_or ws 0 []) e; y_is = ap (λ ws. get_or ws 1 []) e })

pub no_point : (words rest after : List (List ℕ)) (done : List Point) (x y : List ℕ) → words ≡ line_words done ++ rest → rest ≡ x ∷ y ∷ after → ((p : Point) → IsPoint x y p → ⊥)
    → (ps : List Point) → AreVertices words ps → ⊥
no_point words rest after done x y h rest_is none ps are =
    let left = words_left done ps rest (sym h ∙ are.spelled) in
    not_first x y after (drop (length done) ps) (good_left (length done) ps are.good) none (sym rest_is ∙ left)

-- more words behind 4096 vertices
pub too_many : (words rest after : List (List ℕ)) (done : List Point) (x y : List ℕ) → words ≡ line_words done ++ rest → rest ≡ x ∷ y ∷ after → length done ≡ 4096
    → (ps : List Point) → AreVertices words ps → ⊥
too_many words rest after done x y h rest_is full ps are =
    let few = are.few in
    let left = words_left done ps rest (sym h ∙ are.spelled) in
    let none : drop (length done) ps ≡ [] = drop_all (length done) ps (omega arith) in
    let bad : x ∷ y ∷ after ≡ [] = sym rest_is ∙ left ∙ ap line_words none in
    cc

-- one word behind the vertices
not_single : (x : List ℕ) (after : List (List ℕ)) (ps : List Point) → ((a b : List ℕ) (ws : List (List ℕ)) → x ∷ after ≡ a ∷ b ∷ ws → ⊥) → x ∷ after ≡ line_words ps → ⊥
not_single x after [] none e = cc
not_single x after (p ∷ ps) none e = none _ _ _ e

pub odd_count : (words rest after : List (List ℕ)) (done : List Point) (x : List ℕ) → words ≡ line_words done ++ rest → rest ≡ x ∷ after
    → ((a b : List ℕ) (ws : List (List ℕ)) → rest ≡ a ∷ b ∷ ws → ⊥) → (ps : List Point) → AreVertices words ps → ⊥
odd_count words rest after done x h rest_is none ps are =
    let left = words_left done ps rest (sym h ∙ are.spelled) in
    not_single x after (drop (length done) ps) (λ a b ws e. none a b ws (rest_is ∙ e)) (sym rest_is ∙ left)

-- ---- lines
-- how many vertices a line has
limits : (ps : List Point) → IsTrue (is_new_line ps) → (2 ≤ length ps) × (length ps ≤ 4096)
limits ps h =
    let short = and_parts (nat_le 2 (length ps)) (nat_le (length ps) 4096) (and_parts (is_line_short ps) (list_all is_grid_point ps) h).0 in
    (leb-true 2 (length ps) short.0, leb-true (length ps) 4096 short.1)

-- a line is its vertices
pub vertices_from : (words : List (List ℕ)) (ps : List Point) → IsNewLine words ps → AreVertices words ps
vertices_from words ps h =
    record { good = (and_parts (is_line_short ps) (list_all is_grid_point ps) h.good).1; few = (limits ps h.good).1; spelled = h.spelled }

-- fewer than two vertices
same_count : (ps qs : List Point) → line_words ps ≡ line_words qs → length ps ≡ length qs
same_count [] [] e = refl
same_count [] (q ∷ qs) e = absurd cc
same_count (p ∷ ps) [] e = absurd cc
same_count (p ∷ ps) (q ∷ qs) e = ap suc (same_count ps qs (ap (drop 2) e))

pub no_line : (words : List (List ℕ)) (qs : List Point) → AreVertices words qs → length qs < 2 → (ps : List Point) → IsNewLine words ps → ⊥
no_line words qs are short ps h =
    let some = (limits ps h.good).0 in
    let same = same_count qs ps (sym are.spelled ∙ h.spelled) in
    omega arith

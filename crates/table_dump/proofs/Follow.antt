-- Rows that may stand behind one another, and what they lead to.
use Rattle.std.proofs.Common.{◌≡◌, ℕ, ◌+◌, ◌≤◌, List, [], ◌∷◌, ◌++◌, length, take, drop, get_or, map, IsTrue, Some, refl, sym, ap, subst, ◌∙◌, append_assoc, arith}
use Rattle.std.specs.Prelude.{codes}
use Rattle.std.specs.List.{join_with_byte}
use Rattle.std.proofs.lemmas.List.{take_at, take_all, take-append-drop, length-append, length-take}
use Rattle.topo_base.specs.declared.rows.Counters.{Counters}
use Rattle.table_dump.specs.Dump.{is_counters}
use Rattle.table_dump.specs.Lines.{words_of}
use Rattle.table_dump.specs.Rows.{DumpRow, Node, Edge, Universal, Face, Layer, Feature, Relation, next_in, row_in}
use Rattle.table_dump.specs.Steps.{Front, may_follow, with_row}
use Rattle.table_dump.proofs.Loops.{same_found}
use Rattle.table_dump.proofs.RowLaws.{node_spell, edge_spell, face_spell, layer_spell, feature_spell, relation_spell, counters_spell, is_row, row_words, next_words, row_takes, row_again, next_takes, next_again}
use Rattle.table_dump.proofs.Spellings.{row_are_words, next_are_words}
use Rattle.table_dump.proofs.Lines.{words_apart, words_joined}

abbrev pub row_line : DumpRow → List ℕ
row_line x = join_with_byte 32 (row_words x)

abbrev pub next_line : Counters → List ℕ
next_line n = join_with_byte 32 (next_words n)

abbrev pub Follow : Front → List DumpRow → Type 0
Follow f [] = Unit {0}
Follow f (x ∷ xs) = IsTrue (is_row x) × IsTrue (may_follow f x) × Follow (with_row f x) xs

abbrev pub reach : Front → List DumpRow → Front
reach f [] = f
reach f (x ∷ xs) = reach (with_row f x) xs

pub follow_push : (f : Front) (xs : List DumpRow) (x : DumpRow) → Follow f xs → IsTrue (is_row x) → IsTrue (may_follow (reach f xs) x) → Follow f (xs ++ x ∷ [])
follow_push f [] x h good may = (good, may, tt)
follow_push f (y ∷ ys) x h good may = (h.0, h.1, follow_push (with_row f y) ys x h.2 good may)

pub reach_push : (f : Front) (xs : List DumpRow) (x : DumpRow) → reach f (xs ++ x ∷ []) ≡ with_row (reach f xs) x
reach_push f [] x = refl
reach_push f (y ∷ ys) x = reach_push (with_row f y) ys x

-- ---- a line is that of one row
pub row_apart : (x : DumpRow) → IsTrue (is_row x) → words_of (row_line x) ≡ row_words x
row_apart (Node n) h = words_apart (codes "node") (node_spell n) (row_are_words (Node n) h)
row_apart (Edge e) h = words_apart (codes "edge") (edge_spell e) (row_are_words (Edge e) h)
row_apart Universal h = words_apart (codes "face") (codes "0" ∷ codes "-" ∷ []) (row_are_words Universal h)
row_apart (Face f) h = words_apart (codes "face") (face_spell f) (row_are_words (Face f) h)
row_apart (Layer l) h = words_apart (codes "layer") (layer_spell l) (row_are_words (Layer l) h)
row_apart (Feature t) h = words_apart (codes "feature") (feature_spell t) (row_are_words (Feature t) h)
row_apart (Relation r) h = words_apart (codes "relation") (relation_spell r) (row_are_words (Relation r) h)

-- the row is read from its line, and only from that
pub row_read : (line : List ℕ) (x : DumpRow) → IsTrue (is_row x) → line ≡ row_line x → row_in (words_of line) ≡ Some x
row_read line x h e = ap (λ l. row_in (words_of l)) e ∙ ap row_in (row_apart x h) ∙ row_again x h

pub row_of : (line : List ℕ) (x : DumpRow) → row_in (words_of line) ≡ Some x → IsTrue (is_row x) × (line ≡ row_line x)
row_of line x e = let t = row_takes (words_of line) x e in (t.0, sym (words_joined line) ∙ ap (join_with_byte 32) t.1)

pub row_same : (x y : DumpRow) → IsTrue (is_row x) → IsTrue (is_row y) → row_line x ≡ row_line y → x ≡ y
row_same x y g h e = same_found x y (sym (row_read (row_line x) x g refl) ∙ row_read (row_line x) y h e)

next_apart : (n : Counters) → IsTrue (is_counters n) → words_of (next_line n) ≡ next_words n
next_apart n h = words_apart (codes "next") (counters_spell n) (next_are_words n h)

pub next_read : (line : List ℕ) (n : Counters) → IsTrue (is_counters n) → line ≡ next_line n → next_in (words_of line) ≡ Some n
next_read line n h e = ap (λ l. next_in (words_of l)) e ∙ ap next_in (next_apart n h) ∙ next_again n h

pub next_of : (line : List ℕ) (n : Counters) → next_in (words_of line) ≡ Some n → IsTrue (is_counters n) × (line ≡ next_line n)
next_of line n e = let t = next_takes (words_of line) n e in (t.0, sym (words_joined line) ∙ ap (join_with_byte 32) t.1)

pub next_same : (m n : Counters) → IsTrue (is_counters m) → IsTrue (is_counters n) → next_line m ≡ next_line n → m ≡ n
next_same m n g h e = same_found m n (sym (next_read (next_line m) m g refl) ∙ next_read (next_line m) n h e)

-- ---- lists of lines
head : List (List ℕ) → List ℕ → List ℕ
head ls d = get_or ls 0 d

pub rows_same : (f : Front) (xs ys : List DumpRow) → Follow f xs → Follow f ys → map row_line xs ≡ map row_line ys → xs ≡ ys
rows_same f [] [] g h e = refl
rows_same f [] (y ∷ ys) g h e = absurd cc
rows_same f (x ∷ xs) [] g h e = absurd cc
rows_same f (x ∷ xs) (y ∷ ys) g h e =
    let first = row_same x y g.0 h.0 (ap (λ ls. get_or ls 0 []) e) in
    let rest = rows_same (with_row f x) xs ys g.2 (subst (λ z. Follow (with_row f z) ys) (sym first) h.2) (ap (drop 1) e) in
    λ i. first i ∷ rest i

-- where no row of a line may stand behind some rows, no rows that follow one another have their lines and this line
pub stuck : (f : Front) (done : List DumpRow) (line : List ℕ) (more : List (List ℕ)) (xs : List DumpRow) → Follow f done → Follow f xs → map row_line xs ≡ map row_line done ++ line ∷ more
    → ((x : DumpRow) → row_in (words_of line) ≡ Some x → IsTrue (may_follow (reach f done) x) → ⊥) → ⊥
stuck f [] line more [] g h e none = absurd cc
stuck f [] line more (x ∷ xs) g h e none = none x (row_read line x h.0 (sym (ap (λ ls. get_or ls 0 []) e))) h.1
stuck f (d ∷ ds) line more [] g h e none = absurd cc
stuck f (d ∷ ds) line more (x ∷ xs) g h e none =
    let first = row_same x d h.0 g.0 (ap (λ ls. get_or ls 0 []) e) in
    stuck (with_row f d) ds line more xs g.2 (subst (λ z. Follow (with_row f z) xs) first h.2) (ap (drop 1) e) none

-- lines that begin with the same ones
pub front_same : (k : ℕ) (front : List (List ℕ)) (line : List ℕ) (rest others : List (List ℕ)) → k ≡ length front + 1 → take k (front ++ line ∷ rest) ≡ take k others → others ≡ front ++ line ∷ drop k others
front_same k front line rest others is e =
    let size : length (front ++ line ∷ []) ≡ k = omega (arith, length-append front (line ∷ []), is) in
    let all : take k (front ++ line ∷ rest) ≡ front ++ line ∷ [] = ap (take k) (sym (append_assoc front (line ∷ []) rest)) ∙ take_at (front ++ line ∷ []) rest k size in
    sym (take-append-drop k others) ∙ ap (λ l. l ++ drop k others) (sym e ∙ all) ∙ append_assoc front (line ∷ []) (drop k others)

pub all_same : (k : ℕ) (lines others : List (List ℕ)) → k ≡ length lines + 1 → take k lines ≡ take k others → others ≡ lines
all_same k lines others is e =
    let all : take k lines ≡ lines = take_all k lines (omega arith) in
    let size : length (take k others) ≡ length lines = ap length (sym e ∙ all) in
    let few : length others ≤ k = omega (arith, length-take k others, size, is) in
    sym (take_all k others few) ∙ sym e ∙ all

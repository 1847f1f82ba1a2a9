-- A line of a script is known by its words.
use Rattle.std.proofs.Common.{◌≡◌, ℕ, ◌+◌, ◌*◌, Bool, ◌&&◌, List, [], ◌∷◌, ◌++◌, length, nat_le, get_or, drop, Option, Some, None, IsTrue, refl, sym, ap, ◌∙◌, arith}
use Rattle.std.specs.Fmt.{signed_decimal}
use Rattle.std.specs.List.{list_all}
use Rattle.std.proofs.lemmas.Bool.{and_parts, true≢false}
use Rattle.topo_base.specs.Point.{Point}
use Rattle.topo_base.specs.Names.{is_name}
use Rattle.topo_base.specs.ScriptLines.{ScriptLine}
use Rattle.topo_base.specs.declared.kind.Kind.{Kind}
use Rattle.topo_base.specs.declared.kind.Kind.TheVariants.{Puntal, Lineal, Areal}
use Rattle.topo_base.specs.declared.named.IdWord.{IdWord}
use Rattle.topo_base.specs.declared.named.NamedEdit.{NamedEdit}
use Rattle.topo_base.specs.declared.named.NamedEdit.TheVariants.{AddIsoNode, MoveIsoNode, RemoveIsoNode, AddIsoEdge, RemoveIsoEdge, AddEdgeModFace, AddEdgeNewFaces, RemEdgeModFace, RemEdgeNewFace, ModEdgeSplit, NewEdgesSplit, ModEdgeHeal, NewEdgeHeal, AddLayer, CreateTopoGeom, AddElement, RemElement, DropFeature}
use Rattle.drawing.specs.InRange.{is_grid_point}
use Rattle.drawing.specs.Accepted.{is_line_short}
use Rattle.script_model.specs.NamedRange.{is_id_word, is_option_id_word, is_named_pair, is_new_line, is_named_edit, is_script_line}
use Rattle.script_model.specs.NamedWords.{id_word, option_id_word, named_words, names_words, script_words}
use Rattle.script_model.specs.Words.{line_words, kind_word}
use Rattle.script_model.proofs.WordsUnique.{point_unique}
use Rattle.script_model.proofs.IdWords.{id_unique, option_id_unique, pair_unique, each_unique, not_id}
use Rattle.script_model.proofs.NameWords.{names_unique}

-- ---- the words of an edit, counted from 0
abbrev word : ℕ → List (List ℕ) → List ℕ
word k words = get_or words k []

-- the bytes of a word as the digits of a number
abbrev word_number : List ℕ → ℕ
word_number [] = 0
word_number (c ∷ cs) = c + 256 * word_number cs

abbrev edit_number : List (List ℕ) → ℕ
edit_number words = word_number (word 0 words)

kind_unique : (k l : Kind) → kind_word k ≡ kind_word l → k ≡ l
kind_unique Puntal Puntal e = refl
kind_unique Lineal Lineal e = refl
kind_unique Areal Areal e = refl
kind_unique k l e = absurd (let numbers = ap word_number e in omega arith)

points_unique : (xs ys : List Point) → IsTrue (list_all is_grid_point xs) → IsTrue (list_all is_grid_point ys) → line_words xs ≡ line_words ys → xs ≡ ys
points_unique xs ys g h e = each_unique is_grid_point (λ p. signed_decimal p.x) (λ p. signed_decimal p.y) point_unique xs ys g h e

line_unique : (xs ys : List Point) → IsTrue (is_new_line xs) → IsTrue (is_new_line ys) → line_words xs ≡ line_words ys → xs ≡ ys
line_unique xs ys g h e = points_unique xs ys (and_parts (is_line_short xs) (list_all is_grid_point xs) g).1 (and_parts (is_line_short ys) (list_all is_grid_point ys) h).1 e

-- ---- the fields of an edit
place_fields : (v w : IdWord) (p q : Point) (a b : List ℕ) → IsTrue (is_id_word v && is_grid_point p) → IsTrue (is_id_word w && is_grid_point q)
    → a ∷ id_word v ∷ signed_decimal p.x ∷ signed_decimal p.y ∷ [] ≡ b ∷ id_word w ∷ signed_decimal q.x ∷ signed_decimal q.y ∷ [] → (v ≡ w) × (p ≡ q)
place_fields v w p q a b g h e =
    let x = and_parts (is_id_word v) (is_grid_point p) g in
    let y = and_parts (is_id_word w) (is_grid_point q) h in
    (id_unique v w x.0 y.0 (ap (word 1) e), point_unique p q x.1 y.1 (ap (word 2) e) (ap (word 3) e))

two_fields : (v w v' w' : IdWord) (a b : List ℕ) (rest bs : List (List ℕ)) → IsTrue (is_id_word v && is_id_word w) → IsTrue (is_id_word v' && is_id_word w')
    → a ∷ id_word v ∷ id_word w ∷ rest ≡ b ∷ id_word v' ∷ id_word w' ∷ bs → (v ≡ v') × (w ≡ w')
two_fields v w v' w' a b rest bs g h e =
    let x = and_parts (is_id_word v) (is_id_word w) g in
    let y = and_parts (is_id_word v') (is_id_word w') h in
    (id_unique v v' x.0 y.0 (ap (word 1) e), id_unique w w' x.1 y.1 (ap (word 2) e))

three_fields : (v w t v' w' t' : IdWord) (a b : List ℕ) → IsTrue (is_id_word v && is_id_word w && is_id_word t) → IsTrue (is_id_word v' && is_id_word w' && is_id_word t')
    → a ∷ id_word v ∷ id_word w ∷ id_word t ∷ [] ≡ b ∷ id_word v' ∷ id_word w' ∷ id_word t' ∷ [] → (v ≡ v') × (w ≡ w') × (t ≡ t')
three_fields v w t v' w' t' a b g h e =
    let x = and_parts (is_id_word v && is_id_word w) (is_id_word t) g in
    let y = and_parts (is_id_word v' && is_id_word w') (is_id_word t') h in
    let front = two_fields v w v' w' a b (id_word t ∷ []) (id_word t' ∷ []) x.0 y.0 e in
    (front.0, front.1, id_unique t t' x.1 y.1 (ap (word 3) e))

edge_fields : (v w : IdWord) (line : List Point) (v' w' : IdWord) (line' : List Point) (a b : List ℕ) → IsTrue (is_id_word v && is_id_word w && is_new_line line) → IsTrue (is_id_word v' && is_id_word w' && is_new_line line')
    → a ∷ id_word v ∷ id_word w ∷ line_words line ≡ b ∷ id_word v' ∷ id_word w' ∷ line_words line' → (v ≡ v') × (w ≡ w') × (line ≡ line')
edge_fields v w line v' w' line' a b g h e =
    let x = and_parts (is_id_word v && is_id_word w) (is_new_line line) g in
    let y = and_parts (is_id_word v' && is_id_word w') (is_new_line line') h in
    let front = two_fields v w v' w' a b (line_words line) (line_words line') x.0 y.0 e in
    (front.0, front.1, line_unique line line' x.1 y.1 (ap (drop 3) e))

-- ---- an edit
pub edit_unique : (d e : NamedEdit) → IsTrue (is_named_edit d) → IsTrue (is_named_edit e) → named_words d ≡ named_words e → d ≡ e
edit_unique (AddIsoNode f p) (AddIsoNode g q) h k same =
    let x = and_parts (is_option_id_word f) (is_grid_point p) h in
    let y = and_parts (is_option_id_word g) (is_grid_point q) k in
    let face = option_id_unique f g x.0 y.0 (ap (word 1) same) in
    let point = point_unique p q x.1 y.1 (ap (word 2) same) (ap (word 3) same) in
    λ i. AddIsoNode (face i) (point i)
edit_unique (MoveIsoNode v p) (MoveIsoNode w q) h k same = let f = place_fields v w p q _ _ h k same in λ i. MoveIsoNode (f.0 i) (f.1 i)
edit_unique (RemoveIsoNode v) (RemoveIsoNode w) h k same = ap RemoveIsoNode (id_unique v w h k (ap (word 1) same))
edit_unique (AddIsoEdge v w l) (AddIsoEdge v' w' l') h k same = let f = edge_fields v w l v' w' l' _ _ h k same in λ i. AddIsoEdge (f.0 i) (f.1 i) (f.2 i)
edit_unique (RemoveIsoEdge v) (RemoveIsoEdge w) h k same = ap RemoveIsoEdge (id_unique v w h k (ap (word 1) same))
edit_unique (AddEdgeModFace v w l) (AddEdgeModFace v' w' l') h k same = let f = edge_fields v w l v' w' l' _ _ h k same in λ i. AddEdgeModFace (f.0 i) (f.1 i) (f.2 i)
edit_unique (AddEdgeNewFaces v w l) (AddEdgeNewFaces v' w' l') h k same = let f = edge_fields v w l v' w' l' _ _ h k same in λ i. AddEdgeNewFaces (f.0 i) (f.1 i) (f.2 i)
edit_unique (RemEdgeModFace v) (RemEdgeModFace w) h k same = ap RemEdgeModFace (id_unique v w h k (ap (word 1) same))
edit_unique (RemEdgeNewFace v) (RemEdgeNewFace w) h k same = ap RemEdgeNewFace (id_unique v w h k (ap (word 1) same))
edit_unique (ModEdgeSplit v p) (ModEdgeSplit w q) h k same = let f = place_fields v w p q _ _ h k same in λ i. ModEdgeSplit (f.0 i) (f.1 i)
edit_unique (NewEdgesSplit v p) (NewEdgesSplit w q) h k same = let f = place_fields v w p q _ _ h k same in λ i. NewEdgesSplit (f.0 i) (f.1 i)
edit_unique (ModEdgeHeal v w) (ModEdgeHeal v' w') h k same = let f = two_fields v w v' w' _ _ [] [] h k same in λ i. ModEdgeHeal (f.0 i) (f.1 i)
edit_unique (NewEdgeHeal v w) (NewEdgeHeal v' w') h k same = let f = two_fields v w v' w' _ _ [] [] h k same in λ i. NewEdgeHeal (f.0 i) (f.1 i)
edit_unique (AddLayer name kind child) (AddLayer name' kind' child') h k same =
    let x = and_parts (is_name name) (is_option_id_word child) h in
    let y = and_parts (is_name name') (is_option_id_word child') k in
    let names = ap (word 1) same in
    let kinds = kind_unique kind kind' (ap (word 2) same) in
    let children = option_id_unique child child' x.1 y.1 (ap (word 3) same) in
    λ i. AddLayer (names i) (kinds i) (children i)
edit_unique (CreateTopoGeom l xs) (CreateTopoGeom l' xs') h k same =
    let x = and_parts (is_id_word l && nat_le (length xs) 4096) (list_all is_named_pair xs) h in
    let y = and_parts (is_id_word l' && nat_le (length xs') 4096) (list_all is_named_pair xs') k in
    let layers = id_unique l l' (and_parts (is_id_word l) (nat_le (length xs) 4096) x.0).0 (and_parts (is_id_word l') (nat_le (length xs') 4096) y.0).0 (ap (word 1) same) in
    let pairs = each_unique is_named_pair (λ z. id_word z.id) (λ z. id_word z.element_type) pair_unique xs xs' x.1 y.1 (ap (drop 2) same) in
    λ i. CreateTopoGeom (layers i) (pairs i)
edit_unique (AddElement v w t) (AddElement v' w' t') h k same = let f = three_fields v w t v' w' t' _ _ h k same in λ i. AddElement (f.0 i) (f.1 i) (f.2 i)
edit_unique (RemElement v w t) (RemElement v' w' t') h k same = let f = three_fields v w t v' w' t' _ _ h k same in λ i. RemElement (f.0 i) (f.1 i) (f.2 i)
edit_unique (DropFeature v) (DropFeature w) h k same = ap DropFeature (id_unique v w h k (ap (word 1) same))
edit_unique d e h k same = absurd (let numbers = ap edit_number same in omega arith)

-- ---- a line with names isn't one without
id_no_equals : (w : IdWord) → IsTrue (is_id_word w) → id_word w ≡ 61 ∷ [] → ⊥
id_no_equals w h e = not_id 61 [] w h (omega arith) (λ same. omega arith) (sym e)

first_no_equals : (w : IdWord) (b : Bool) → IsTrue (is_id_word w && b) → id_word w ≡ 61 ∷ [] → ⊥
first_no_equals w b h e = id_no_equals w (and_parts (is_id_word w) b h).0 e

front_no_equals : (w : IdWord) (b c : Bool) → IsTrue (is_id_word w && b && c) → id_word w ≡ 61 ∷ [] → ⊥
front_no_equals w b c h e = first_no_equals w b (and_parts (is_id_word w && b) c h).0 e

option_no_equals : (w : Option IdWord) → IsTrue (is_option_id_word w) → option_id_word w ≡ 61 ∷ [] → ⊥
option_no_equals None h e = let bytes = ap word_number e in omega arith
option_no_equals (Some w) h e = id_no_equals w h e

name_no_equals : (name : List ℕ) → IsTrue (is_name name) → name ≡ 61 ∷ [] → ⊥
name_no_equals name h e = true≢false (sym h ∙ ap is_name e)

-- no edit has = as its second word
second_word : (e : NamedEdit) → IsTrue (is_named_edit e) → word 1 (named_words e) ≡ 61 ∷ [] → ⊥
second_word (AddIsoNode face p) h e = option_no_equals face (and_parts (is_option_id_word face) (is_grid_point p) h).0 e
second_word (MoveIsoNode n p) h e = first_no_equals n (is_grid_point p) h e
second_word (RemoveIsoNode n) h e = id_no_equals n h e
second_word (AddIsoEdge a b line) h e = front_no_equals a (is_id_word b) (is_new_line line) h e
second_word (RemoveIsoEdge n) h e = id_no_equals n h e
second_word (AddEdgeModFace a b line) h e = front_no_equals a (is_id_word b) (is_new_line line) h e
second_word (AddEdgeNewFaces a b line) h e = front_no_equals a (is_id_word b) (is_new_line line) h e
second_word (RemEdgeModFace n) h e = id_no_equals n h e
second_word (RemEdgeNewFace n) h e = id_no_equals n h e
second_word (ModEdgeSplit n p) h e = first_no_equals n (is_grid_point p) h e
second_word (NewEdgesSplit n p) h e = first_no_equals n (is_grid_point p) h e
second_word (ModEdgeHeal n f) h e = first_no_equals n (is_id_word f) h e
second_word (NewEdgeHeal n f) h e = first_no_equals n (is_id_word f) h e
second_word (AddLayer name kind child) h e = name_no_equals name (and_parts (is_name name) (is_option_id_word child) h).0 e
second_word (CreateTopoGeom l xs) h e = front_no_equals l (nat_le (length xs) 4096) (list_all is_named_pair xs) h e
second_word (AddElement t id type) h e = front_no_equals t (is_id_word id) (is_id_word type) h e
second_word (RemElement t id type) h e = front_no_equals t (is_id_word id) (is_id_word type) h e
second_word (DropFeature t) h e = id_no_equals t h e

-- ---- a line
lines_unique : (names names' : List (List ℕ)) (d e : NamedEdit) → IsTrue (list_all is_name names) → IsTrue (list_all is_name names') → IsTrue (is_named_edit d) → IsTrue (is_named_edit e)
    → names_words names ++ named_words d ≡ names_words names' ++ named_words e → (names ≡ names') × (named_words d ≡ named_words e)
lines_unique [] [] d e g h k l same = (refl, same)
lines_unique [] (b ∷ bs) d e g h k l same = absurd (second_word d k (ap (word 1) same))
lines_unique (a ∷ rest) [] d e g h k l same = absurd (second_word e l (sym (ap (word 1) same)))
lines_unique (a ∷ rest) (b ∷ bs) d e g h k l same = (names_unique a rest b bs g h (ap (word 0) same), ap (drop 2) same)

pub words_unique : (k l : ScriptLine) → IsTrue (is_script_line k) → IsTrue (is_script_line l) → script_words k ≡ script_words l → k ≡ l
words_unique k l g h e =
    let x = and_parts (list_all is_name k.names) (is_named_edit k.edit) g in
    let y = and_parts (list_all is_name l.names) (is_named_edit l.edit) h in
    let parts = lines_unique k.names l.names k.edit l.edit x.0 y.0 x.1 y.1 e in
    let edits = edit_unique k.edit l.edit x.1 y.1 parts.1 in
    λ i. record { names = parts.0 i; edit = edits i }

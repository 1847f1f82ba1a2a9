-- What an edit is written with are words.
use Rattle.std.proofs.Common.{◌≡◌, ℕ, ◌<◌, ◌^◌, ℤ, pos, negsuc, suc, Bool, true, false, ◌&&◌, List, [], ◌∷◌, length, nat_le, flat_map, Option, Some, None, IsTrue, refl, ◌∙◌, arith, ltb-true, le-leb}
use Rattle.std.specs.Fmt.{decimal, signed_decimal}
use Rattle.std.specs.Int.Signed.{mag}
use Rattle.std.specs.List.{list_all}
use Rattle.std.specs.Str.Parse.{AllDigits}
use Rattle.std.proofs.lemmas.Bool.{and_parts, and_from}
use Rattle.std.proofs.lemmas.Bool.Decides.{nat_tests}
use Rattle.std.proofs.lemmas.Fmt.{decimal_is_IsNumeral}
use Rattle.std.proofs.lemmas.List.Folds.{list_all-append}
use Rattle.std.proofs.lemmas.Str.Parse.{digit_from_value}
use Rattle.topo_base.specs.Names.{is_name_byte, is_name}
use Rattle.topo_base.specs.Point.{Point}
use Rattle.topo_base.specs.declared.kind.Kind.{Kind}
use Rattle.topo_base.specs.declared.kind.Kind.TheVariants.{Puntal, Lineal, Areal}
use Rattle.topo_base.specs.declared.named.IdWord.{IdWord}
use Rattle.topo_base.specs.declared.named.IdWord.TheVariants.{Number, Bound}
use Rattle.topo_base.specs.declared.named.NamedPair.{NamedPair}
use Rattle.topo_base.specs.declared.named.NamedEdit.{NamedEdit}
use Rattle.topo_base.specs.declared.named.NamedEdit.TheVariants.{AddIsoNode, MoveIsoNode, RemoveIsoNode, AddIsoEdge, RemoveIsoEdge, AddEdgeModFace, AddEdgeNewFaces, RemEdgeModFace, RemEdgeNewFace, ModEdgeSplit, NewEdgesSplit, ModEdgeHeal, NewEdgeHeal, AddLayer, CreateTopoGeom, AddElement, RemElement, DropFeature}
use Rattle.drawing.specs.InRange.{is_grid_point}
use Rattle.drawing.specs.Accepted.{is_line_short}
use Rattle.script_model.specs.NamedRange.{is_id_word, is_option_id_word, is_named_pair, is_new_line, is_named_edit}
use Rattle.script_model.specs.NamedWords.{id_word, option_id_word, named_pair_words, named_words}
use Rattle.script_model.specs.Script.{is_comment}
use Rattle.script_model.specs.Words.{point_words, line_words, kind_word}
use Rattle.script_model.proofs.WordsUnique.{coordinate_mag, point_in_range}
use Rattle.plane.proofs.ListTests.{all_weaker}
use Rattle.script_model.proofs.NameWords.{name_bytes}
use Rattle.script_model.proofs.LinesApart.{is_visible, is_word, word_visible}

-- ---- numbers
digits_visible : (ds : List ℕ) → AllDigits 10 ds → IsTrue (list_all is_visible ds)
digits_visible [] h = refl
digits_visible (c ∷ cs) h =
    let digit = digit_from_value c h.0 in
    and_from (is_visible c) (list_all is_visible cs) (le-leb 33 c (omega arith)) (digits_visible cs h.1)

digits_word : (ds : List ℕ) → 0 < length ds → AllDigits 10 ds → IsTrue (is_word ds)
digits_word [] some h = absurd (omega arith)
digits_word (c ∷ cs) some h = digits_visible (c ∷ cs) h

decimal_word : (n : ℕ) → n < 2 ^ 64 → IsTrue (is_word (decimal n))
decimal_word n h = let digits = decimal_is_IsNumeral n h in digits_word (decimal n) digits.0.0 digits.0.1

signed_word : (z : ℤ) → mag z < 2 ^ 63 → IsTrue (is_word (signed_decimal z))
signed_word (pos n) h = decimal_word n (omega arith)
signed_word (negsuc n) h = word_visible (decimal (suc n)) (decimal_word (suc n) (omega arith))

point_word : (p : Point) → IsTrue (is_grid_point p) → IsTrue (list_all is_word (point_words p))
point_word p h =
    let range = point_in_range p h in
    let x = signed_word p.x (coordinate_mag p.x range.0) in
    let y = signed_word p.y (coordinate_mag p.y range.1) in
    and_from (is_word (signed_decimal p.x)) (is_word (signed_decimal p.y) && true) x (and_from (is_word (signed_decimal p.y)) true y refl)

-- ---- names and ids
byte_visible : (c : ℕ) → IsTrue (is_name_byte c) → IsTrue (is_visible c)
byte_visible c h = grind (arith, nat_tests)

name_visible : (name : List ℕ) → IsTrue (is_name name) → IsTrue (list_all is_visible name)
name_visible name h = all_weaker is_name_byte is_visible byte_visible name (name_bytes name h)

name_word : (name : List ℕ) → IsTrue (is_name name) → IsTrue (is_word name)
name_word [] h = h
name_word (c ∷ cs) h = name_visible (c ∷ cs) h

spelled : (w : IdWord) → IsTrue (is_id_word w) → IsTrue (is_word (id_word w))
spelled (Number n) h = let small = ltb-true n (2 ^ 32) h in decimal_word n (omega arith)
spelled (Bound name) h = name_visible name h

option_spelled : (w : Option IdWord) → IsTrue (is_option_id_word w) → IsTrue (is_word (option_id_word w))
option_spelled None h = refl
option_spelled (Some w) h = spelled w h

kind_spelled : (kind : Kind) → IsTrue (is_word (kind_word kind))
kind_spelled Puntal = refl
kind_spelled Lineal = refl
kind_spelled Areal = refl

-- ---- lists
all_spelled : {A : Type 0} (good : A → Bool) (words : A → List (List ℕ)) → ((x : A) → IsTrue (good x) → IsTrue (list_all is_word (words x)))
    → (xs : List A) → IsTrue (list_all good xs) → IsTrue (list_all is_word (flat_map words xs))
all_spelled good words one [] h = refl
all_spelled good words one (x ∷ xs) h =
    let here = and_parts (good x) (list_all good xs) h in
    list_all-append is_word (words x) (flat_map words xs)
    ∙ and_from (list_all is_word (words x)) (list_all is_word (flat_map words xs)) (one x here.0) (all_spelled good words one xs here.1)

line_spelled : (line : List Point) → IsTrue (is_new_line line) → IsTrue (list_all is_word (line_words line))
line_spelled line h = all_spelled is_grid_point point_words point_word line (and_parts (is_line_short line) (list_all is_grid_point line) h).1

-- ---- an id and what follows it
with_id : (w : IdWord) (ws : List (List ℕ)) → IsTrue (is_id_word w) → IsTrue (list_all is_word ws) → IsTrue (list_all is_word (id_word w ∷ ws))
with_id w ws h k = and_from (is_word (id_word w)) (list_all is_word ws) (spelled w h) k

with_ids : (v w : IdWord) (ws : List (List ℕ)) → IsTrue (is_id_word v && is_id_word w) → IsTrue (list_all is_word ws) → IsTrue (list_all is_word (id_word v ∷ id_word w ∷ ws))
with_ids v w ws h k = let x = and_parts (is_id_word v) (is_id_word w) h in with_id v (id_word w ∷ ws) x.0 (with_id w ws x.1 k)

pair_spelled : (x : NamedPair) → IsTrue (is_named_pair x) → IsTrue (list_all is_word (named_pair_words x))
pair_spelled x h = with_ids x.id x.element_type [] h refl

place_spelled : (w : IdWord) (p : Point) → IsTrue (is_id_word w && is_grid_point p) → IsTrue (list_all is_word (id_word w ∷ point_words p))
place_spelled w p h = let x = and_parts (is_id_word w) (is_grid_point p) h in with_id w (point_words p) x.0 (point_word p x.1)

edge_spelled : (v w : IdWord) (line : List Point) → IsTrue (is_id_word v && is_id_word w && is_new_line line) → IsTrue (list_all is_word (id_word v ∷ id_word w ∷ line_words line))
edge_spelled v w line h =
    let x = and_parts (is_id_word v && is_id_word w) (is_new_line line) h in
    with_ids v w (line_words line) x.0 (line_spelled line x.1)

three_spelled : (v w t : IdWord) → IsTrue (is_id_word v && is_id_word w && is_id_word t) → IsTrue (list_all is_word (id_word v ∷ id_word w ∷ id_word t ∷ []))
three_spelled v w t h =
    let x = and_parts (is_id_word v && is_id_word w) (is_id_word t) h in
    with_ids v w (id_word t ∷ []) x.0 (with_id t [] x.1 refl)

-- ---- an edit
pub edit_spelled : (e : NamedEdit) → IsTrue (is_named_edit e) → IsTrue (list_all is_word (named_words e))
edit_spelled (AddIsoNode face p) h =
    let x = and_parts (is_option_id_word face) (is_grid_point p) h in
    and_from (is_word (option_id_word face)) (list_all is_word (point_words p)) (option_spelled face x.0) (point_word p x.1)
edit_spelled (MoveIsoNode n p) h = place_spelled n p h
edit_spelled (RemoveIsoNode n) h = with_id n [] h refl
edit_spelled (AddIsoEdge a b line) h = edge_spelled a b line h
edit_spelled (RemoveIsoEdge n) h = with_id n [] h refl
edit_spelled (AddEdgeModFace a b line) h = edge_spelled a b line h
edit_spelled (AddEdgeNewFaces a b line) h = edge_spelled a b line h
edit_spelled (RemEdgeModFace n) h = with_id n [] h refl
edit_spelled (RemEdgeNewFace n) h = with_id n [] h refl
edit_spelled (ModEdgeSplit n p) h = place_spelled n p h
edit_spelled (NewEdgesSplit n p) h = place_spelled n p h
edit_spelled (ModEdgeHeal n f) h = with_ids n f [] h refl
edit_spelled (NewEdgeHeal n f) h = with_ids n f [] h refl
edit_spelled (AddLayer name kind child) h =
    let x = and_parts (is_name name) (is_option_id_word child) h in
    let behind = and_from (is_word (option_id_word child)) true (option_spelled child x.1) refl in
    and_from (is_word name) (is_word (kind_word kind) && (is_word (option_id_word child) && true)) (name_word name x.0)
    (and_from (is_word (kind_word kind)) (is_word (option_id_word child) && true) (kind_spelled kind) behind)
edit_spelled (CreateTopoGeom l xs) h =
    let x = and_parts (is_id_word l && nat_le (length xs) 4096) (list_all is_named_pair xs) h in
    with_id l (flat_map named_pair_words xs) (and_parts (is_id_word l) (nat_le (length xs) 4096) x.0).0 (all_spelled is_named_pair named_pair_words pair_spelled xs x.1)
edit_spelled (AddElement t id type) h = three_spelled t id type h
edit_spelled (RemElement t id type) h = three_spelled t id type h
edit_spelled (DropFeature t) h = with_id t [] h refl

-- no edit is a comment
pub not_comment : (e : NamedEdit) → is_comment (named_words e) ≡ false
not_comment (AddIsoNode face p) = refl
not_comment e = refl

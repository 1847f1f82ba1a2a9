-- The words of the rows of a dump have no spaces and no line feeds.
use Rattle.std.proofs.Common.{◌≡◌, ℕ, ◌<◌, ◌^◌, ℤ, pos, negsuc, suc, Bool, true, false, not, ◌&&◌, ◌==◌, List, [], ◌∷◌, ◌++◌, length, nat_le, Option, Some, None, IsTrue, refl, ap, arith, leb-true, le-leb, ne_eqb}
use Rattle.std.specs.Fmt.{decimal, signed_decimal}
use Rattle.std.specs.Int.Signed.{mag}
use Rattle.std.specs.List.{list_all}
use Rattle.std.specs.Str.Parse.{AllDigits}
use Rattle.std.proofs.lemmas.Bool.{and_parts, and_from}
use Rattle.std.proofs.lemmas.Bool.Decides.{nat_tests}
use Rattle.std.proofs.lemmas.Fmt.{decimal_is_IsNumeral}
use Rattle.std.proofs.lemmas.Str.Parse.{digit_from_value}
use Rattle.topo_base.specs.Names.{is_name_byte, is_name}
use Rattle.topo_base.specs.Kinds.{kind_number}
use Rattle.topo_base.specs.Point.{Point}
use Rattle.topo_base.specs.declared.kind.Kind.{Kind}
use Rattle.topo_base.specs.declared.kind.Kind.TheVariants.{Puntal, Lineal, Areal}
use Rattle.topo_base.specs.declared.rows.EdgeRow.{EdgeRow}
use Rattle.topo_base.specs.declared.rows.Box4.{Box4}
use Rattle.topo_base.specs.declared.rows.Counters.{Counters}
use Rattle.drawing.specs.InRange.{is_grid_point}
use Rattle.script_model.specs.Script.{is_whole, is_line_feed}
use Rattle.script_model.specs.Words.{option_word, dart_word, point_words, line_words}
use Rattle.script_model.proofs.WordsUnique.{coordinate_mag, point_in_range}
use Rattle.script_model.proofs.NameWords.{name_bytes}
use Rattle.script_model.proofs.LinesApart.{is_visible, is_word, word_visible}
use Rattle.table_dump.specs.Lines.{is_space}
use Rattle.table_dump.specs.Dump.{is_named, is_own, is_next, is_option_named, is_dart, is_count, is_box, low_corner, high_corner, are_corners, is_counters, is_edge_row}
use Rattle.table_dump.specs.Rows.{DumpRow, Node, Edge, Universal, Face, Layer, Feature, Relation}
use Rattle.table_dump.proofs.RowLaws.{is_row, row_words, next_words}

-- a test that follows from another one, over a list
all_weaker : {X : Type 0} (p q : X → Bool) → ((x : X) → IsTrue (p x) → IsTrue (q x)) → (xs : List X) → IsTrue (list_all p xs) → IsTrue (list_all q xs)
all_weaker p q weaker [] h = refl
all_weaker p q weaker (x ∷ xs) h =
    let here = and_parts (p x) (list_all p xs) h in
    and_from (q x) (list_all q xs) (weaker x here.0) (all_weaker p q weaker xs here.1)

-- ---- words
abbrev pub are_words : List (List ℕ) → Bool
are_words ws = list_all is_word ws

digits_visible : (ds : List ℕ) → AllDigits 10 ds → IsTrue (list_all is_visible ds)
digits_visible [] h = refl
digits_visible (c ∷ cs) h =
    let digit = digit_from_value c h.0 in
    and_from (is_visible c) (list_all is_visible cs) (le-leb 33 c (omega arith)) (digits_visible cs h.1)

digits_word : (ds : List ℕ) → 0 < length ds → AllDigits 10 ds → IsTrue (is_word ds)
digits_word [] some h = absurd (omega arith)
digits_word (c ∷ cs) some h = digits_visible (c ∷ cs) h

decimal_word : (n : ℕ) → n < 2 ^ 64 → IsTrue (is_word (decimal n))
decimal_word n h = let digits = decimal_is_IsNumeral n h in digits_word (decimal n) digits.0.0 digits.0.1

signed_word : (z : ℤ) → mag z < 2 ^ 63 → IsTrue (is_word (signed_decimal z))
signed_word (pos n) h = decimal_word n (omega arith)
signed_word (negsuc n) h = word_visible (decimal (suc n)) (decimal_word (suc n) (omega arith))

abbrev All : List (List ℕ) → Type 0
All [] = Unit {0}
All (w ∷ ws) = IsTrue (is_word w) × All ws

all_words : (ws : List (List ℕ)) → All ws → IsTrue (are_words ws)
all_words [] h = refl
all_words (w ∷ ws) h = and_from (is_word w) (are_words ws) h.0 (all_words ws h.1)

named_word : (n : ℕ) → IsTrue (is_named n) → IsTrue (is_word (decimal n))
named_word n h = let le = leb-true n 16777215 h in decimal_word n (omega arith)

own_word : (n : ℕ) → IsTrue (is_own n) → IsTrue (is_word (decimal n))
own_word n h = named_word n (and_parts (nat_le n 16777215) (nat_le 1 n) h).0

next_word : (n : ℕ) → IsTrue (is_next n) → IsTrue (is_word (decimal n))
next_word n h = let le = leb-true n 16777216 (and_parts (nat_le n 16777216) (nat_le 1 n) h).0 in decimal_word n (omega arith)

option_is_word : (o : Option ℕ) → IsTrue (is_option_named o) → IsTrue (is_word (option_word o))
option_is_word None h = refl
option_is_word (Some n) h = named_word n h

dart_is_word : (edge : ℕ) (forward : Bool) → IsTrue (is_own edge) → IsTrue (is_word (dart_word (record { edge = edge; forward = forward })))
dart_is_word edge true h = own_word edge h
dart_is_word edge false h = word_visible (decimal edge) (own_word edge h)

-- a point in front of other words, and some points in front of none
with_point : (p : Point) (ws : List (List ℕ)) → IsTrue (is_grid_point p) → All ws → All (point_words p ++ ws)
with_point p ws h k =
    let range = point_in_range p h in
    (signed_word p.x (coordinate_mag p.x range.0), (signed_word p.y (coordinate_mag p.y range.1), k))

points_all : (ps : List Point) → IsTrue (list_all is_grid_point ps) → All (line_words ps)
points_all [] h = tt
points_all (p ∷ ps) h =
    let here = and_parts (is_grid_point p) (list_all is_grid_point ps) h in
    with_point p (line_words ps) here.0 (points_all ps here.1)

byte_visible : (c : ℕ) → IsTrue (is_name_byte c) → IsTrue (is_visible c)
byte_visible c h = grind (arith, nat_tests)

name_is_word : (name : List ℕ) → IsTrue (is_name name) → IsTrue (is_word name)
name_is_word [] h = absurd cc
name_is_word (c ∷ cs) h = all_weaker is_name_byte is_visible byte_visible (c ∷ cs) (name_bytes (c ∷ cs) h)

kind_is_word : (k : Kind) → IsTrue (is_word (decimal (kind_number k)))
kind_is_word Puntal = decimal_word 1 (omega arith)
kind_is_word Lineal = decimal_word 2 (omega arith)
kind_is_word Areal = decimal_word 3 (omega arith)

-- ---- rows
face_all : (id : ℕ) (mbr : Option Box4) → IsTrue (is_own id && is_box mbr) → All (row_words (Face (record { face_id = id; mbr = mbr })))
face_all id None h = absurd (no (and_parts (is_own id) false h).1)
  where
    no : IsTrue false → ⊥
    no e = cc
face_all id (Some b) h =
    let p = and_parts (is_own id) (is_box (Some b)) h in
    let q = and_parts (is_grid_point (low_corner b) && is_grid_point (high_corner b)) (are_corners (low_corner b) (high_corner b)) p.1 in
    let r = and_parts (is_grid_point (low_corner b)) (is_grid_point (high_corner b)) q.0 in
    (refl, (own_word id p.0, with_point (low_corner b) (point_words (high_corner b)) r.0 (with_point (high_corner b) [] r.1 tt)))

edge_all : (e : EdgeRow) → IsTrue (is_edge_row e) → All (row_words (Edge e))
edge_all e h =
    let a = and_parts (is_own e.edge_id) _ h in
    let b = and_parts (is_named e.start_node) _ a.1 in
    let c = and_parts (is_named e.end_node) _ b.1 in
    let d = and_parts (is_dart e.next_left_edge) _ c.1 in
    let f = and_parts (is_dart e.next_right_edge) _ d.1 in
    let g = and_parts (is_named e.left_face) _ f.1 in
    let i = and_parts (is_named e.right_face) _ g.1 in
    let j = and_parts (is_count (length e.geom)) (list_all is_grid_point e.geom) i.1 in
    let k = and_parts (nat_le (length e.geom) 16777215) (nat_le 2 (length e.geom)) j.0 in
    let points : All (line_words e.geom) = points_all e.geom j.1 in (
      refl,
      (
        own_word e.edge_id a.0,
        (
          named_word e.start_node b.0,
          (
            named_word e.end_node c.0,
            (
              dart_is_word e.next_left_edge.edge e.next_left_edge.forward d.0,
              (
                dart_is_word e.next_right_edge.edge e.next_right_edge.forward f.0,
                (named_word e.left_face g.0, (named_word e.right_face i.0, (named_word (length e.geom) k.0, points))),
              ),
            ),
          ),
        ),
      ),
    )

row_all : (row : DumpRow) → IsTrue (is_row row) → All (row_words row)
row_all (Node n) h =
    let a = and_parts (is_own n.node_id) _ h in
    let b = and_parts (is_option_named n.containing_face) _ a.1 in
    (refl, (own_word n.node_id a.0, (option_is_word n.containing_face b.0, with_point n.geom [] b.1 tt)))
row_all (Edge e) h = edge_all e h
row_all Universal h = (refl, (refl, (refl, tt)))
row_all (Face f) h = face_all f.face_id f.mbr h
row_all (Layer l) h =
    let a = and_parts (is_own l.layer_id) _ h in
    let b = and_parts (is_named l.level) _ a.1 in
    let c = and_parts (is_option_named l.child_id) (is_name l.name) b.1 in
    (refl, (own_word l.layer_id a.0, (named_word l.level b.0, (option_is_word l.child_id c.0, (kind_is_word l.feature_type, (name_is_word l.name c.1, tt))))))
row_all (Feature t) h =
    let a = and_parts (is_own t.feature_id) (is_named t.layer_id) h in
    (refl, (own_word t.feature_id a.0, (named_word t.layer_id a.1, tt)))
row_all (Relation r) h =
    let a = and_parts (is_named r.topogeo_id) _ h in
    let b = and_parts (is_named r.layer_id) _ a.1 in
    let c = and_parts (is_named r.element_id) (is_named r.element_type) b.1 in
    (refl, (named_word r.topogeo_id a.0, (named_word r.layer_id b.0, (named_word r.element_id c.0, (named_word r.element_type c.1, tt)))))

pub row_are_words : (row : DumpRow) → IsTrue (is_row row) → IsTrue (are_words (row_words row))
row_are_words row h = all_words (row_words row) (row_all row h)

pub next_are_words : (n : Counters) → IsTrue (is_counters n) → IsTrue (are_words (next_words n))
next_are_words n h =
    let a = and_parts (is_next n.node) _ h in
    let b = and_parts (is_next n.edge) _ a.1 in
    let c = and_parts (is_next n.face) _ b.1 in
    let d = and_parts (is_next n.layer) (is_next n.feature) c.1 in
    all_words (next_words n) (refl, (next_word n.node a.0, (next_word n.edge b.0, (next_word n.face c.0, (next_word n.layer d.0, (next_word n.feature d.1, tt))))))

-- ---- no byte of such a word is a space or a line feed
other : (d c : ℕ) → d < 33 → IsTrue (is_visible c) → (c == d) ≡ false
other d c low h = let high = leb-true 33 c h in ne_eqb c d (λ same. omega arith)

pub no_space : (c : ℕ) → IsTrue (is_visible c) → is_space c ≡ false
no_space c h = other 32 c (omega arith) h

pub no_feed : (c : ℕ) → IsTrue (is_visible c) → is_line_feed c ≡ false
no_feed c h = other 10 c (omega arith) h

word_whole : (parts : ℕ → Bool) → ((c : ℕ) → IsTrue (is_visible c) → parts c ≡ false) → (w : List ℕ) → IsTrue (is_word w) → IsTrue (is_whole parts w)
word_whole parts none w h = all_weaker is_visible (λ c. not (parts c)) (λ c seen. ap not (none c seen)) w (word_visible w h)

pub words_whole : (parts : ℕ → Bool) → ((c : ℕ) → IsTrue (is_visible c) → parts c ≡ false) → (ws : List (List ℕ)) → IsTrue (are_words ws) → IsTrue (list_all (is_whole parts) ws)
words_whole parts none ws h = all_weaker is_word (is_whole parts) (word_whole parts none) ws h

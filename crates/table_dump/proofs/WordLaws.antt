-- The laws of each field of a row.
use Rattle.std.proofs.Common.{◌≡◌, ℕ, ℤ, ◌≤◌, nat_le, leb-true, Bool, ◌&&◌, IsTrue, List, [], ◌∷◌, ◌++◌, length, Option, Some, option_and_then, refl, sym, ap, subst, ◌∙◌, arith}
use Rattle.std.specs.Fmt.{decimal, signed_decimal}
use Rattle.std.specs.List.{list_all}
use Rattle.std.proofs.lemmas.Bool.{and_parts, and_from}
use Rattle.topo_base.specs.Names.{is_name}
use Rattle.topo_base.specs.Point.{Point}
use Rattle.topo_base.specs.declared.ids.Dart.{Dart}
use Rattle.topo_base.specs.declared.kind.Kind.{Kind}
use Rattle.topo_base.specs.declared.rows.Box4.{Box4}
use Rattle.drawing.specs.InRange.{is_grid_point}
use Rattle.script_model.specs.Words.{option_word, dart_word, point_words, line_words}
use Rattle.script_model.proofs.WordsUnique.{point_in_range}
use Rattle.table_dump.specs.Dump.{is_named, is_own, is_next, is_count, is_option_named, is_dart, is_line, is_box, low_corner, high_corner, are_corners}
use Rattle.table_dump.specs.Words.{Reads, where_good, made, both, many, word_at, spelled, tested, up_to, between, named_at, own_at, next_at, count_at, option_in, option_at, dart_in, dart_at, is_wide, integer_in, integer_at, point_of, point_at, line_at, box_of, box_at, kind_in, kind_at, name_at}
use Rattle.table_dump.proofs.Loops.{then_read, found, same_found, many_length}
use Rattle.table_dump.proofs.FieldLaws.{IsField, both_field, where_field, made_takes, made_again, many_takes, many_again}
use Rattle.table_dump.proofs.Numbers.{IsSpelled, wide_coordinate, up_to_spelled, between_spelled, option_spelled, dart_spelled, integer_spelled, any_kind, kind_word, kind_spelled, same_word, name_spelled}

-- a field of one word
abbrev pub one : {A : Type 0} → (A → List ℕ) → A → List (List ℕ)
one word x = word x ∷ []

spelled_takes : (A : Type 0) (good : A → Bool) (word : A → List ℕ) (value : List ℕ → Option A) → IsSpelled A good word value
    → (words : List (List ℕ)) (x : A) (rest : List (List ℕ)) → spelled value words ≡ Some (x, rest) → IsTrue (good x) × (words ≡ one word x ++ rest)
unfolding word_at
spelled_takes A good word value s [] x rest e = absurd cc
spelled_takes A good word value s (w ∷ ws) x rest e =
    let first = then_read (value w) (λ (y : A). found (y, ws)) (x, rest) e in
    let read : A × List (List ℕ) = (first.0, ws) in
    let t = s.takes w first.0 first.1 in
    subst (λ (q : A × List (List ℕ)). IsTrue (good q.0) × (w ∷ ws ≡ one word q.0 ++ q.1)) (same_found read (x, rest) first.2) (t.0, ap (λ v. v ∷ ws) t.1)

spelled_again : (A : Type 0) (good : A → Bool) (word : A → List ℕ) (value : List ℕ → Option A) → IsSpelled A good word value
    → (x : A) (rest : List (List ℕ)) → IsTrue (good x) → spelled value (one word x ++ rest) ≡ Some (x, rest)
unfolding word_at
spelled_again A good word value s x rest h = ap (option_and_then (λ (y : A). found (y, rest))) (s.again x h)

pub spelled_field : (A : Type 0) (good : A → Bool) (word : A → List ℕ) (value : List ℕ → Option A) → IsSpelled A good word value → IsField A good (one word) (spelled value)
spelled_field A good word value s = record { takes = spelled_takes A good word value s; again = spelled_again A good word value s }

-- a value made of another, of which that is a part
pub made_field : (A B : Type 0) (good : A → Bool) (spell : A → List (List ℕ)) (read : Reads A) → IsField A good spell read → (make : A → B) (part : B → A) → ((x : A) → part (make x) ≡ x) → ((y : B) → make (part y) ≡ y)
    → IsField B (λ y. good (part y)) (λ y. spell (part y)) (made make read)
made_field A B good spell read f make part back there =
    record {
      takes = λ words y rest e.
          let t = made_takes A B good spell read f make words y rest e in
          let same : t.0 ≡ part y = sym (back t.0) ∙ ap part t.1 in
          subst (λ x. IsTrue (good x) × (words ≡ spell x ++ rest)) same (t.2, t.3);
      again = λ y rest h. made_again A B good spell read f make (part y) rest h ∙ ap (λ z. found (z, rest)) (there y);
    }

-- the same field under another test
pub field_where : (A : Type 0) (good better : A → Bool) (spell : A → List (List ℕ)) (read : Reads A) → IsField A good spell read → ((x : A) → IsTrue (good x) → IsTrue (better x)) → ((x : A) → IsTrue (better x) → IsTrue (good x))
    → IsField A better spell read
field_where A good better spell read f to back =
    record {
      takes = λ words x rest e. let t = f.takes words x rest e in (to x t.0, t.1);
      again = λ x rest h. f.again x rest (back x h);
    }

-- ---- fields of one word
pub named_field : IsField ℕ is_named (one decimal) named_at
unfolding named_at
named_field = spelled_field ℕ is_named decimal (up_to 16777215) (up_to_spelled 16777215 (omega arith))

pub own_field : IsField ℕ is_own (one decimal) own_at
unfolding own_at
own_field = spelled_field ℕ is_own decimal (between 1 16777215) (between_spelled 1 16777215 (omega arith))

pub next_field : IsField ℕ is_next (one decimal) next_at
unfolding next_at
next_field = spelled_field ℕ is_next decimal (between 1 16777216) (between_spelled 1 16777216 (omega arith))

count_field : IsField ℕ is_count (one decimal) count_at
unfolding count_at
count_field = spelled_field ℕ is_count decimal (between 2 16777215) (between_spelled 2 16777215 (omega arith))

pub option_field : IsField (Option ℕ) is_option_named (one option_word) option_at
unfolding option_at
option_field = spelled_field (Option ℕ) is_option_named option_word option_in option_spelled

pub dart_field : IsField Dart is_dart (one dart_word) dart_at
unfolding dart_at
dart_field = spelled_field Dart is_dart dart_word dart_in dart_spelled

integer_field : IsField ℤ is_wide (one signed_decimal) integer_at
unfolding integer_at
integer_field = spelled_field ℤ is_wide signed_decimal integer_in integer_spelled

pub kind_field : IsField Kind any_kind (one kind_word) kind_at
unfolding kind_at
kind_field = spelled_field Kind any_kind kind_word kind_in kind_spelled

pub name_field : IsField (List ℕ) is_name (one same_word) name_at
unfolding name_at
name_field = spelled_field (List ℕ) is_name same_word (tested is_name) name_spelled

-- ---- points
abbrev parts_of : Point → ℤ × ℤ
parts_of p = (p.x, p.y)

abbrev is_wide_point : Point → Bool
is_wide_point p = is_wide p.x && is_wide p.y

wide_point : (p : Point) → IsTrue (is_grid_point p) → IsTrue (is_wide_point p)
wide_point p h = let range = point_in_range p h in and_from (is_wide p.x) (is_wide p.y) (wide_coordinate p.x range.0) (wide_coordinate p.y range.1)

pub point_field : IsField Point is_grid_point point_words point_at
unfolding point_at
point_field =
    let two = both_field ℤ ℤ is_wide is_wide (one signed_decimal) (one signed_decimal) integer_at integer_at integer_field integer_field in
    let any = made_field (ℤ × ℤ) Point (λ x. is_wide x.0 && is_wide x.1) (λ x. one signed_decimal x.0 ++ one signed_decimal x.1) (both integer_at integer_at) two point_of parts_of (λ x. refl) (λ p. refl) in
    let good = where_field Point is_wide_point is_grid_point point_words (made point_of (both integer_at integer_at)) any in
    field_where Point (λ p. is_wide_point p && is_grid_point p) is_grid_point point_words point_at good
    (λ p h. (and_parts (is_wide_point p) (is_grid_point p) h).1) (λ p h. and_from (is_wide_point p) (is_grid_point p) (wide_point p h) h)

-- ---- lines
abbrev pub line_spell : List Point → List (List ℕ)
line_spell line = decimal (length line) ∷ line_words line

line_takes : (words : List (List ℕ)) (line : List Point) (rest : List (List ℕ)) → line_at words ≡ Some (line, rest) → IsTrue (is_line line) × (words ≡ line_spell line ++ rest)
unfolding line_at
line_takes words line rest e =
    let n = then_read (count_at words) (λ m. many point_at m.0 m.1) (line, rest) e in
    let counted = count_field.takes words n.0.0 n.0.1 n.1 in
    let points = many_takes Point is_grid_point point_words point_at point_field n.0.0 n.0.1 line rest n.2 in
    let size = many_length point_at n.0.0 n.0.1 line rest n.2 in (
      and_from (is_count (length line)) (list_all is_grid_point line) (subst (λ k. IsTrue (is_count k)) (sym size) counted.0) points.0,
      counted.1 ∙ (λ i. decimal (sym size i) ∷ points.1 i),
    )

line_again : (line : List Point) (rest : List (List ℕ)) → IsTrue (is_line line) → line_at (line_spell line ++ rest) ≡ Some (line, rest)
unfolding line_at
line_again line rest h =
    let p = and_parts (is_count (length line)) (list_all is_grid_point line) h in
    ap (option_and_then (λ (m : ℕ × List (List ℕ)). many point_at m.0 m.1)) (count_field.again (length line) (line_words line ++ rest) p.0)
    ∙ many_again Point is_grid_point point_words point_at point_field line rest p.1

pub line_field : IsField (List Point) is_line line_spell line_at
line_field = record { takes = line_takes; again = line_again }

-- ---- boxes
abbrev corners_of : Box4 → Point × Point
corners_of b = (low_corner b, high_corner b)

abbrev pub is_good_box : Box4 → Bool
is_good_box b = is_box (Some b)

abbrev pub box_spell : Box4 → List (List ℕ)
box_spell b = point_words (low_corner b) ++ point_words (high_corner b)

pub box_field : IsField Box4 is_good_box box_spell box_at
unfolding box_at
box_field =
    let two = both_field Point Point is_grid_point is_grid_point point_words point_words point_at point_at point_field point_field in
    let good = where_field (Point × Point) (λ x. is_grid_point x.0 && is_grid_point x.1) (λ x. are_corners x.0 x.1) (λ x. point_words x.0 ++ point_words x.1) (both point_at point_at) two in
    made_field (Point × Point) Box4 (λ x. (is_grid_point x.0 && is_grid_point x.1) && are_corners x.0 x.1) (λ x. point_words x.0 ++ point_words x.1) (where_good (λ x. are_corners x.0 x.1) (both point_at point_at)) good
    box_of corners_of (λ x. refl) (λ b. refl)

pub count_is : (words : List (List ℕ)) (n : ℕ) (rest : List (List ℕ)) → count_at words ≡ Some (n, rest) → 2 ≤ n
count_is words n rest e = leb-true 2 n (and_parts (nat_le n 16777215) (nat_le 2 n) (count_field.takes words n rest e).0).1

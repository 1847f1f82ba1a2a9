-- The fields of a row, read from the words in front: a field is a value and the words behind it.
use Rattle.std.specs.Prelude.{◌≡◌, ℕ, zero, suc, ℤ, ◌^◌, pos, neg_ℤ, Bool, true, false, ◌&&◌, ◌==◌, nat_le, int_le, List, [], ◌∷◌, drop, Option, Some, None, option_and_then, if◌then◌else◌, codes, Result, Ok, Err}
use Rattle.std.specs.Fmt.{decimal, signed_decimal}
use Rattle.std.specs.Str.{bytes_eq}
use Rattle.std.specs.Str.Parse.{digits_value}
use Rattle.topo_base.specs.Names.{is_name}
use Rattle.topo_base.specs.Point.{Point}
use Rattle.topo_base.specs.declared.ids.Dart.{Dart}
use Rattle.topo_base.specs.declared.kind.Kind.{Kind}
use Rattle.topo_base.specs.declared.kind.Kind.TheVariants.{Puntal, Lineal, Areal}
use Rattle.topo_base.specs.declared.rows.Box4.{Box4}
use Rattle.drawing.specs.InRange.{is_grid_point}
use Rattle.table_dump.specs.Dump.{are_corners}
use Rattle.table_dump.specs.declared.ends.LineEnd.{LineEnd}
use Rattle.table_dump.specs.declared.ends.LineEnd.TheVariants.{Bad, Memory}

-- what was answered, seen by view, is what is read, unless memory ran out
abbrev pub Fails : {Y : Type 0} → LineEnd → Option Y → Type 0
Fails Memory read = Unit {0}
Fails Bad read = read ≡ None

abbrev pub Gives : {X Y : Type 0} → (X → Y) → Result X LineEnd → Option Y → Type 0
Gives view (Ok x) read = read ≡ Some (view x)
Gives view (Err e) read = Fails e read

abbrev pub Reads : Type 0 → Type 0
Reads A = List (List ℕ) → Option (A × List (List ℕ))

-- a value that meets a test; a field's value made another one; one field and then another; so many of a field; with nothing
-- behind it
abbrev pub tested : {A : Type 0} → (A → Bool) → A → Option A
tested good x = if good x then Some x else None

abbrev pub first_tested : {A : Type 0} → (A → Bool) → A × List (List ℕ) → Option (A × List (List ℕ))
first_tested good x = if good x.0 then Some x else None

abbrev pub where_good : {A : Type 0} → (A → Bool) → Reads A → Reads A
where_good good read words = option_and_then (first_tested good) (read words)

abbrev pub made : {A B : Type 0} → (A → B) → Reads A → Reads B
made make read words = option_and_then (λ x. Some (make x.0, x.1)) (read words)

abbrev pub with_next : {A B : Type 0} → Reads B → A × List (List ℕ) → Option ((A × B) × List (List ℕ))
with_next next x = option_and_then (λ y. Some ((x.0, y.0), y.1)) (next x.1)

abbrev pub both : {A B : Type 0} → Reads A → Reads B → Reads (A × B)
both first next words = option_and_then (with_next next) (first words)

abbrev pub many : {A : Type 0} → Reads A → ℕ → Reads (List A)
many read zero words = Some ([], words)
many read (suc n) words = option_and_then (λ x. option_and_then (λ xs. Some (x.0 ∷ xs.0, xs.1)) (many read n x.1)) (read words)

abbrev pub whole : {A : Type 0} → A × List (List ℕ) → Option A
whole (x, []) = Some x
whole (x, w ∷ ws) = None

-- a word, and what it spells
unfoldable pub word_at : Reads (List ℕ)
word_at [] = None
word_at (w ∷ ws) = Some (w, ws)

abbrev pub spelled : {A : Type 0} → (List ℕ → Option A) → Reads A
spelled value words = option_and_then (λ w. option_and_then (λ x. Some (x, w.1)) (value w.0)) (word_at words)

-- the number whose decimal the word is, up to a bound, and from another one on
unfoldable pub up_to : ℕ → List ℕ → Option ℕ
up_to high w = if bytes_eq (decimal (digits_value 10 w)) w && nat_le (digits_value 10 w) high then Some (digits_value 10 w) else None

unfoldable pub between : ℕ → ℕ → List ℕ → Option ℕ
between low high w = option_and_then (tested (nat_le low)) (up_to high w)

unfoldable pub named_at : Reads ℕ
named_at = spelled (up_to 16777215)

unfoldable pub own_at : Reads ℕ
own_at = spelled (between 1 16777215)

unfoldable pub next_at : Reads ℕ
next_at = spelled (between 1 16777216)

unfoldable pub count_at : Reads ℕ
count_at = spelled (between 2 16777215)

unfoldable pub option_in : List ℕ → Option (Option ℕ)
option_in w = if bytes_eq w (codes "-") then Some None else option_and_then (λ n. Some (Some n)) (up_to 16777215 w)

unfoldable pub option_at : Reads (Option ℕ)
option_at = spelled option_in

-- an edge, walked back where there is a minus
abbrev pub has_minus : List ℕ → Bool
has_minus [] = false
has_minus (c ∷ cs) = c == 45

abbrev pub dart_of : Bool → ℕ → Option Dart
dart_of forward edge = Some (record { edge = edge; forward = forward })

unfoldable pub dart_in : List ℕ → Option Dart
dart_in w =
    if has_minus w then option_and_then (dart_of false) (between 1 16777215 (drop 1 w)) else option_and_then (dart_of true) (between 1 16777215 w)

unfoldable pub dart_at : Reads Dart
dart_at = spelled dart_in

-- the whole number of 64 bits whose decimal the word is
abbrev pub signed_value : List ℕ → ℤ
signed_value w = if has_minus w then neg_ℤ (pos (digits_value 10 (drop 1 w))) else pos (digits_value 10 w)

abbrev pub is_wide : ℤ → Bool
is_wide z = int_le (neg_ℤ (pos (2 ^ 63))) z && int_le z (pos (9223372036854775807))

unfoldable pub integer_in : List ℕ → Option ℤ
integer_in w = if bytes_eq (signed_decimal (signed_value w)) w && is_wide (signed_value w) then Some (signed_value w) else None

unfoldable pub integer_at : Reads ℤ
integer_at = spelled integer_in

-- points, lines and boxes
abbrev pub point_of : ℤ × ℤ → Point
point_of p = record { x = p.0; y = p.1 }

unfoldable pub point_at : Reads Point
point_at = where_good is_grid_point (made point_of (both integer_at integer_at))

unfoldable pub line_at : Reads (List Point)
line_at words = option_and_then (λ n. many point_at n.0 n.1) (count_at words)

abbrev pub box_of : Point × Point → Box4
box_of p = record { min_x = p.0.x; min_y = p.0.y; max_x = p.1.x; max_y = p.1.y }

unfoldable pub box_at : Reads Box4
box_at = made box_of (where_good (λ p. are_corners p.0 p.1) (both point_at point_at))

-- a layer's type and its name
unfoldable pub kind_in : List ℕ → Option Kind
kind_in w = if bytes_eq w (codes "1") then Some Puntal else (if bytes_eq w (codes "2") then Some Lineal else (if bytes_eq w (codes "3") then Some Areal else None))

unfoldable pub kind_at : Reads Kind
kind_at = spelled kind_in

unfoldable pub name_at : Reads (List ℕ)
name_at = spelled (tested is_name)

-- The laws of each field of an edit.
use Rattle.std.proofs.Common.{◌≡◌, ◌⊎◌, inl, inr, ℕ, zero, suc, ◌-◌, ◌^◌, ℤ, pos, negsuc, Bool, true, false, ◌&&◌, cond, ◌==◌, IsTrue, List, [], ◌∷◌, ◌++◌, length, take, drop, flat_map, Option, Some, None, option_and_then, nat_le, FitsSigned, refl, sym, ap, subst, ◌∙◌, append_assoc, arith, leb-true, le-leb, lt-ltb, ltb-true}
use Rattle.std.specs.List.{list_all}
use Rattle.std.specs.Int.{w64, to_be_bytes, cast_unsigned}
use Rattle.std.proofs.lemmas.Bool.{and_parts, and_from, eqb-true}
use Rattle.std.proofs.lemmas.Int.{to_z-of_z, of_z-to_z}
use Rattle.std.proofs.lemmas.List.{take_at, drop_at, take-append-drop, length-append, length-take}
use Rattle.std.proofs.lemmas.Option.{cond_some}
use Rattle.topo_base.specs.Names.{is_name}
use Rattle.topo_base.specs.Kinds.{kind_number}
use Rattle.topo_base.specs.Point.{Point}
use Rattle.topo_base.specs.declared.kind.Kind.{Kind}
use Rattle.topo_base.specs.declared.kind.Kind.TheVariants.{Puntal, Lineal, Areal}
use Rattle.topo_base.specs.declared.edit.Pair.{Pair}
use Rattle.drawing.specs.InRange.{is_id, is_option_id, is_coordinate, is_grid_point, is_pair}
use Rattle.history_model.specs.Spelling.{number_bytes, point_bytes, option_bytes, line_bytes, pair_bytes, pairs_bytes, name_bytes}
use Rattle.history_model.proofs.Fronts.{wide_number}
use Rattle.entry_codec.specs.Reading.{Reads, tested, where_good, made, both, many, wide_at, number_at, option_at, point_of, point_at, counted, is_count_of_line, is_count_of_pairs, line_at, pair_of, pair_at, pairs_at, name_at, kind_at}
use Rattle.entry_codec.proofs.Loops.{then_read, found, same_found, many_length}
use Rattle.entry_codec.proofs.Grammar.{IsField, both_field, where_field, made_takes, made_again, many_takes, many_again, is_wide, number_field, wide_field}

-- ---- a number behind a flag
abbrev some : ℕ → Option ℕ
some n = Some n

option_takes : (bytes : List ℕ) (o : Option ℕ) (rest : List ℕ) → option_at bytes ≡ Some (o, rest) → IsTrue (is_option_id o) × (bytes ≡ option_bytes o ++ rest)
unfolding option_at
option_takes [] o rest e = absurd cc
option_takes (zero ∷ bytes) o rest e =
    let none : Option ℕ × List ℕ = (None, bytes) in
    subst (λ (q : Option ℕ × List ℕ). IsTrue (is_option_id q.0) × (0 ∷ bytes ≡ option_bytes q.0 ++ q.1)) (same_found none (o, rest) e) (refl, refl)
option_takes (suc zero ∷ bytes) o rest e =
    let t = made_takes ℕ (Option ℕ) is_id number_bytes number_at number_field some bytes o rest e in
    subst (λ (p : Option ℕ). IsTrue (is_option_id p) × (1 ∷ bytes ≡ option_bytes p ++ rest)) t.1 (t.2, ap (λ (l : List ℕ). 1 ∷ l) t.3)
option_takes (suc (suc b) ∷ bytes) o rest e = absurd cc

option_again : (o : Option ℕ) (rest : List ℕ) → IsTrue (is_option_id o) → option_at (option_bytes o ++ rest) ≡ Some (o, rest)
unfolding option_at
option_again None rest h = refl
option_again (Some n) rest h = made_again ℕ (Option ℕ) is_id number_bytes number_at number_field some n rest h

pub option_field : IsField (Option ℕ) is_option_id option_bytes option_at
option_field = record { takes = option_takes; again = option_again }

-- ---- points
abbrev two_bytes : ℕ × ℕ → List ℕ
two_bytes x = to_be_bytes w64 x.0 ++ to_be_bytes w64 x.1

abbrev are_wide : ℕ × ℕ → Bool
are_wide x = is_wide x.0 && is_wide x.1

abbrev wide_two : Reads (ℕ × ℕ)
wide_two = both (wide_at w64) (wide_at w64)

pub two_field : IsField (ℕ × ℕ) are_wide two_bytes wide_two
two_field = both_field ℕ ℕ is_wide is_wide (to_be_bytes w64) (to_be_bytes w64) (wide_at w64) (wide_at w64) wide_field wide_field

point_takes : (bytes : List ℕ) (p : Point) (rest : List ℕ) → point_at bytes ≡ Some (p, rest) → IsTrue (is_grid_point p) × (bytes ≡ point_bytes p ++ rest)
unfolding point_at
point_takes bytes p rest e =
    let one = then_read (made point_of wide_two bytes) (tested is_grid_point) (p, rest) e in
    let two = cond_some (is_grid_point one.0.0) one.0 (p, rest) one.2 in
    let t = made_takes (ℕ × ℕ) Point are_wide two_bytes wide_two two_field point_of bytes one.0.0 one.0.1 one.1 in
    let wide = and_parts (is_wide t.0.0) (is_wide t.0.1) t.2 in
    let x = of_z-to_z w64 t.0.0 (ltb-true t.0.0 (2 ^ 64) wide.0) in
    let y = of_z-to_z w64 t.0.1 (ltb-true t.0.1 (2 ^ 64) wide.1) in
    let spelled : point_bytes (point_of t.0) ≡ two_bytes t.0 = λ i. to_be_bytes w64 (x i) ++ to_be_bytes w64 (y i) in
    let parts : bytes ≡ point_bytes one.0.0 ++ one.0.1 = t.3 ∙ ap (λ (l : List ℕ). l ++ one.0.1) (sym spelled ∙ ap point_bytes t.1) in
    subst (λ (q : Point × List ℕ). IsTrue (is_grid_point q.0) × (bytes ≡ point_bytes q.0 ++ q.1)) two.1 (two.0, parts)

fits_wide : (z : ℤ) → IsTrue (is_coordinate z) → FitsSigned w64 z
fits_wide (pos n) h = let few = leb-true n (2 ^ 40) h in omega arith
fits_wide (negsuc n) h = let few = leb-true n (2 ^ 40 - 1) (and_parts _ true h).0 in omega arith

point_again : (p : Point) (rest : List ℕ) → IsTrue (is_grid_point p) → point_at (point_bytes p ++ rest) ≡ Some (p, rest)
unfolding point_at
point_again p rest h =
    let grid = and_parts (is_coordinate p.x) (is_coordinate p.y) h in
    let x : ℕ × ℕ = (cast_unsigned w64 p.x, cast_unsigned w64 p.y) in
    let wide : IsTrue (are_wide x) = and_from (is_wide x.0) (is_wide x.1) (lt-ltb x.0 (2 ^ 64) (wide_number p.x grid.0)) (lt-ltb x.1 (2 ^ 64) (wide_number p.y grid.1)) in
    let back : point_of x ≡ p = λ i. record { x = to_z-of_z w64 p.x (fits_wide p.x grid.0) i; y = to_z-of_z w64 p.y (fits_wide p.y grid.1) i } in
    let read : made point_of wide_two (point_bytes p ++ rest) ≡ Some (p, rest) = made_again (ℕ × ℕ) Point are_wide two_bytes wide_two two_field point_of x rest wide ∙ ap (λ (q : Point). found (q, rest)) back in
    ap (option_and_then (tested is_grid_point)) read ∙ ap (λ b. cond b (found (p, rest)) None) h

pub point_field : IsField Point is_grid_point point_bytes point_at
point_field = record { takes = point_takes; again = point_again }

-- ---- lists behind their lengths
module _ (A : Type 0) (good : A → Bool) (spell : A → List ℕ) (read : Reads A) (field : IsField A good spell read) (test : ℕ → Bool) (ids : (n : ℕ) → IsTrue (test n) → IsTrue (is_id n)) where
  count_field : IsField ℕ (λ n. is_id n && test n) number_bytes (where_good test number_at)
  count_field = where_field ℕ is_id test number_bytes number_at number_field

  counted_takes : (bytes : List ℕ) (xs : List A) (rest : List ℕ) → counted test read bytes ≡ Some (xs, rest)
      → IsTrue (test (length xs) && list_all good xs) × (bytes ≡ (number_bytes (length xs) ++ flat_map spell xs) ++ rest)
  counted_takes bytes xs rest e =
      let one = then_read (where_good test number_at bytes) (λ n. many read n.0 n.1) (xs, rest) e in
      let t = count_field.takes bytes one.0.0 one.0.1 one.1 in
      let u = many_takes A good spell read field one.0.0 one.0.1 xs rest one.2 in
      let size = many_length read one.0.0 one.0.1 xs rest one.2 in
      let counted_good : IsTrue (test (length xs)) = subst (λ n. IsTrue (test n)) (sym size) (and_parts (is_id one.0.0) (test one.0.0) t.0).1 in
      let parts : bytes ≡ (number_bytes (length xs) ++ flat_map spell xs) ++ rest =
      t.1 ∙ ap (λ (l : List ℕ). number_bytes one.0.0 ++ l) u.1 ∙ sym (append_assoc (number_bytes one.0.0) (flat_map spell xs) rest)
      ∙ ap (λ n. (number_bytes n ++ flat_map spell xs) ++ rest) (sym size) in
      (and_from (test (length xs)) (list_all good xs) counted_good u.0, parts)

  counted_again : (xs : List A) (rest : List ℕ) → IsTrue (test (length xs) && list_all good xs) → counted test read ((number_bytes (length xs) ++ flat_map spell xs) ++ rest) ≡ Some (xs, rest)
  counted_again xs rest h =
      let p = and_parts (test (length xs)) (list_all good xs) h in
      ap (counted test read) (append_assoc (number_bytes (length xs)) (flat_map spell xs) rest)
      ∙ ap (option_and_then (λ (n : ℕ × List ℕ). many read n.0 n.1)) (count_field.again (length xs) (flat_map spell xs ++ rest) (and_from (is_id (length xs)) (test (length xs)) (ids (length xs) p.0) p.0))
      ∙ many_again A good spell read field xs rest p.1

few_id : (n : ℕ) → IsTrue (is_count_of_pairs n) → IsTrue (is_id n)
few_id n h = lt-ltb n (2 ^ 32) (omega (arith, leb-true n 4096 h))

line_id : (n : ℕ) → IsTrue (is_count_of_line n) → IsTrue (is_id n)
line_id n h = few_id n (and_parts (nat_le 2 n) (nat_le n 4096) h).1

abbrev pub is_line : List Point → Bool
is_line line = is_count_of_line (length line) && list_all is_grid_point line

abbrev pub are_pairs : List Pair → Bool
are_pairs xs = is_count_of_pairs (length xs) && list_all is_pair xs

pub line_field : IsField (List Point) is_line line_bytes line_at
unfolding line_at
line_field = record {
  takes = counted_takes Point is_grid_point point_bytes point_at point_field is_count_of_line line_id;
  again = counted_again Point is_grid_point point_bytes point_at point_field is_count_of_line line_id;
}

-- ---- elements
abbrev two_numbers : ℕ × ℕ → List ℕ
two_numbers x = number_bytes x.0 ++ number_bytes x.1

abbrev are_ids : ℕ × ℕ → Bool
are_ids x = is_id x.0 && is_id x.1

pub ids_field : IsField (ℕ × ℕ) are_ids two_numbers (both number_at number_at)
ids_field = both_field ℕ ℕ is_id is_id number_bytes number_bytes number_at number_at number_field number_field

pair_takes : (bytes : List ℕ) (x : Pair) (rest : List ℕ) → pair_at bytes ≡ Some (x, rest) → IsTrue (is_pair x) × (bytes ≡ pair_bytes x ++ rest)
unfolding pair_at
pair_takes bytes x rest e =
    let t = made_takes (ℕ × ℕ) Pair are_ids two_numbers (both number_at number_at) ids_field pair_of bytes x rest e in
    subst (λ (y : Pair). IsTrue (is_pair y) × (bytes ≡ pair_bytes y ++ rest)) t.1 (t.2, t.3)

pair_again : (x : Pair) (rest : List ℕ) → IsTrue (is_pair x) → pair_at (pair_bytes x ++ rest) ≡ Some (x, rest)
unfolding pair_at
pair_again x rest h = made_again (ℕ × ℕ) Pair are_ids two_numbers (both number_at number_at) ids_field pair_of (x.id, x.element_type) rest h

pub pair_field : IsField Pair is_pair pair_bytes pair_at
pair_field = record { takes = pair_takes; again = pair_again }

pub pairs_field : IsField (List Pair) are_pairs pairs_bytes pairs_at
unfolding pairs_at
pairs_field = record {
  takes = counted_takes Pair is_pair pair_bytes pair_at pair_field is_count_of_pairs few_id;
  again = counted_again Pair is_pair pair_bytes pair_at pair_field is_count_of_pairs few_id;
}

-- ---- names
name_takes : (bytes name rest : List ℕ) → name_at bytes ≡ Some (name, rest) → IsTrue (is_name name) × (bytes ≡ name_bytes name ++ rest)
unfolding name_at
name_takes [] name rest e = absurd cc
name_takes (n ∷ bytes) name rest e =
    let read : List ℕ × List ℕ = (take n bytes, drop n bytes) in
    let one = cond_some (nat_le n (length bytes) && is_name (take n bytes)) read (name, rest) e in
    let tests = and_parts (nat_le n (length bytes)) (is_name (take n bytes)) one.0 in
    let size : length (take n bytes) ≡ n = omega (arith, length-take n bytes, leb-true n (length bytes) tests.0) in
    let parts : n ∷ bytes ≡ name_bytes (take n bytes) ++ drop n bytes = λ i. sym size i ∷ sym (take-append-drop n bytes) i in
    subst (λ (q : List ℕ × List ℕ). IsTrue (is_name q.0) × (n ∷ bytes ≡ name_bytes q.0 ++ q.1)) one.1 (tests.1, parts)

name_again : (name rest : List ℕ) → IsTrue (is_name name) → name_at (name_bytes name ++ rest) ≡ Some (name, rest)
unfolding name_at
name_again name rest h =
    let n = length name in
    let long : nat_le n (length (name ++ rest)) ≡ true = le-leb n (length (name ++ rest)) (omega (arith, length-append name rest)) in
    let front : take n (name ++ rest) ≡ name = take_at name rest n refl in
    let test : (nat_le n (length (name ++ rest)) && is_name (take n (name ++ rest))) ≡ true =
    and_from (nat_le n (length (name ++ rest))) (is_name (take n (name ++ rest))) long (ap is_name front ∙ h) in
    ap (λ b. cond b (found (take n (name ++ rest), drop n (name ++ rest))) None) test ∙ (λ i. found (front i, drop_at name rest n refl i))

pub name_field : IsField (List ℕ) is_name name_bytes name_at
name_field = record { takes = name_takes; again = name_again }

-- ---- types of features
pub chosen : {A : Type 0} (b : Bool) (x y z : A) → cond b x y ≡ z → ((b ≡ true) × (x ≡ z)) ⊎ ((b ≡ false) × (y ≡ z))
chosen true x y z e = inl (refl, e)
chosen false x y z e = inr (refl, e)

abbrev pub any_kind : Kind → Bool
any_kind k = true

abbrev pub kind_bytes : Kind → List ℕ
kind_bytes k = kind_number k ∷ []

abbrev kind_read : Kind → List ℕ → Option (Kind × List ℕ)
kind_read k bytes = Some (k, bytes)

one_kind : (b : ℕ) (bytes : List ℕ) (k l : Kind) (rest : List ℕ) → (b == kind_number k) ≡ true → kind_read k bytes ≡ kind_read l rest → IsTrue (any_kind l) × (b ∷ bytes ≡ kind_bytes l ++ rest)
one_kind b bytes k l rest is e =
    let read : Kind × List ℕ = (k, bytes) in
    let wanted : Kind × List ℕ = (l, rest) in
    let same = same_found read wanted e in
    (refl, ap (λ n. n ∷ bytes) (eqb-true b (kind_number k) is) ∙ ap (λ (q : Kind × List ℕ). kind_bytes q.0 ++ q.1) same)

kind_takes : (bytes : List ℕ) (k : Kind) (rest : List ℕ) → kind_at bytes ≡ Some (k, rest) → IsTrue (any_kind k) × (bytes ≡ kind_bytes k ++ rest)
unfolding kind_at
kind_takes [] k rest e = absurd cc
kind_takes (b ∷ bytes) k rest e =
    let none : Option (Kind × List ℕ) = None in
    let third = cond (b == 3) (kind_read Areal bytes) none in
    let second = cond (b == 2) (kind_read Lineal bytes) third in
    elim (chosen (b == 1) (kind_read Puntal bytes) second (kind_read k rest) e) [
      | inl p ↦ one_kind b bytes Puntal k rest p.0 p.1
      | inr q ↦ elim (chosen (b == 2) (kind_read Lineal bytes) third (kind_read k rest) q.1) [
        | inl p ↦ one_kind b bytes Lineal k rest p.0 p.1
        | inr r ↦ elim (chosen (b == 3) (kind_read Areal bytes) none (kind_read k rest) r.1) [
          | inl p ↦ one_kind b bytes Areal k rest p.0 p.1
          | inr p ↦ absurd (cc p.1)
        ]
      ]
    ]

kind_again : (k : Kind) (rest : List ℕ) → IsTrue (any_kind k) → kind_at (kind_bytes k ++ rest) ≡ Some (k, rest)
unfolding kind_at
kind_again Puntal rest h = refl
kind_again Lineal rest h = refl
kind_again Areal rest h = refl

pub kind_field : IsField Kind any_kind kind_bytes kind_at
kind_field = record { takes = kind_takes; again = kind_again }

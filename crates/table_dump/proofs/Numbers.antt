-- What a word of a dump spells: its value is read, and the value has this word.
use Rattle.std.proofs.Common.{◌≡◌, ◌⊎◌, inl, inr, ℕ, suc, ◌+◌, ◌≤◌, ◌<◌, ◌^◌, ℤ, pos, negsuc, neg_ℤ, Bool, true, false, ◌&&◌, cond, IsTrue, List, [], ◌∷◌, drop, Option, Some, None, option_and_then, nat_le, refl, sym, ap, subst, ◌∙◌, arith, leb-true, le-leb}
use Rattle.std.specs.Prelude.{codes, int_le, unsigned_abs, FitsSigned}
use Rattle.std.specs.Int.{w64, FitsUnsignedBits}
use Rattle.std.specs.Fmt.{decimal, signed_decimal}
use Rattle.std.specs.Str.{bytes_eq}
use Rattle.std.specs.Str.Parse.{AllDigits, digits_value}
use Rattle.std.proofs.lemmas.Bool.{and_parts, and_from, eqb-true}
use Rattle.std.proofs.lemmas.Fmt.{decimal_is_IsNumeral, decimal_digit}
use Rattle.std.proofs.lemmas.Int.{ints}
use Rattle.std.proofs.lemmas.Option.{cond_some}
use Rattle.std.proofs.lemmas.Slice.Eq.{bytes_eq-Decides}
use Rattle.topo_base.specs.Names.{is_name}
use Rattle.topo_base.specs.Kinds.{kind_number}
use Rattle.topo_base.specs.declared.ids.Dart.{Dart}
use Rattle.topo_base.specs.declared.kind.Kind.{Kind}
use Rattle.topo_base.specs.declared.kind.Kind.TheVariants.{Puntal, Lineal, Areal}
use Rattle.script_model.specs.Words.{option_word, dart_word}
use Rattle.topo_base.specs.Point.{IsCoordinate}
use Rattle.topo_io.specs.Decimal.{IsDecimal}
use Rattle.table_dump.specs.Dump.{is_own, is_option_named, is_dart}
use Rattle.table_dump.specs.Words.{tested, up_to, between, option_in, has_minus, dart_of, dart_in, signed_value, is_wide, integer_in, kind_in}
use Rattle.table_dump.proofs.Loops.{then_read, found, same_found}

pub record IsSpelled (A : Type 0) (good : A → Bool) (word : A → List ℕ) (value : List ℕ → Option A) : Type 0 where
  pub takes : (w : List ℕ) (x : A) → value w ≡ Some x → IsTrue (good x) × (w ≡ word x)
  pub again : (x : A) → IsTrue (good x) → value (word x) ≡ Some x

pub chosen : {A : Type 0} (b : Bool) (x y z : A) → cond b x y ≡ z → ((b ≡ true) × (x ≡ z)) ⊎ ((b ≡ false) × (y ≡ z))
chosen true x y z e = inl (refl, e)
chosen false x y z e = inr (refl, e)

pub is_false : (b : Bool) → (IsTrue b → ⊥) → b ≡ false
is_false true h = absurd (h refl)
is_false false h = refl

pub same_bytes : (w : List ℕ) → bytes_eq w w ≡ true
same_bytes w = (bytes_eq-Decides w w).1 refl

pub from_bytes : (v w : List ℕ) → bytes_eq v w ≡ true → v ≡ w
from_bytes v w h = (bytes_eq-Decides v w).0 h

pub other_bytes : (v w : List ℕ) → (v ≡ w → ⊥) → bytes_eq v w ≡ false
other_bytes v w h = is_false (bytes_eq v w) (λ e. h (from_bytes v w e))

-- ---- numbers
abbrev pub is_up_to : ℕ → ℕ → Bool
is_up_to high n = nat_le n high

value_of : (n : ℕ) → n < 2 ^ 64 → digits_value 10 (decimal n) ≡ n
value_of n h = (decimal_is_IsNumeral n h).1

up_to_takes : (high : ℕ) (w : List ℕ) (n : ℕ) → up_to high w ≡ Some n → IsTrue (nat_le n high) × (w ≡ decimal n)
unfolding up_to
up_to_takes high w n e =
    let m = digits_value 10 w in
    let one = cond_some (bytes_eq (decimal m) w && nat_le m high) m n e in
    let tests = and_parts (bytes_eq (decimal m) w) (nat_le m high) one.0 in
    subst (λ k. IsTrue (nat_le k high) × (w ≡ decimal k)) one.1 (tests.1, sym (from_bytes (decimal m) w tests.0))

up_to_again : (high : ℕ) → high < 2 ^ 32 → (n : ℕ) → IsTrue (nat_le n high) → up_to high (decimal n) ≡ Some n
unfolding up_to
up_to_again high small n h =
    let le = leb-true n high h in
    subst (λ m. cond (bytes_eq (decimal m) (decimal n) && nat_le m high) (found m) None ≡ Some n) (sym (value_of n (omega arith)))
    (ap (λ b. cond b (found n) None) (and_from (bytes_eq (decimal n) (decimal n)) (nat_le n high) (same_bytes (decimal n)) h))

pub up_to_spelled : (high : ℕ) → high < 2 ^ 32 → IsSpelled ℕ (λ n. nat_le n high) decimal (up_to high)
up_to_spelled high small = record { takes = up_to_takes high; again = up_to_again high small }

tested_takes : (A : Type 0) (good test : A → Bool) (word : A → List ℕ) (value : List ℕ → Option A) → IsSpelled A good word value
    → (w : List ℕ) (x : A) → option_and_then (tested test) (value w) ≡ Some x → IsTrue (good x && test x) × (w ≡ word x)
tested_takes A good test word value s w x e =
    let one = then_read (value w) (tested test) x e in
    let two = cond_some (test one.0) one.0 x one.2 in
    let t = s.takes w one.0 one.1 in
    subst (λ y. IsTrue (good y && test y) × (w ≡ word y)) two.1 (and_from (good one.0) (test one.0) t.0 two.0, t.1)

tested_again : (A : Type 0) (good test : A → Bool) (word : A → List ℕ) (value : List ℕ → Option A) → IsSpelled A good word value
    → (x : A) → IsTrue (good x && test x) → option_and_then (tested test) (value (word x)) ≡ Some x
tested_again A good test word value s x h =
    let p = and_parts (good x) (test x) h in
    ap (option_and_then (tested test)) (s.again x p.0) ∙ ap (λ b. cond b (found x) None) p.1

pub between_spelled : (low high : ℕ) → high < 2 ^ 32 → IsSpelled ℕ (λ n. nat_le n high && nat_le low n) decimal (between low high)
unfolding between
between_spelled low high small =
    record {
      takes = tested_takes ℕ (λ n. nat_le n high) (nat_le low) decimal (up_to high) (up_to_spelled high small);
      again = tested_again ℕ (λ n. nat_le n high) (nat_le low) decimal (up_to high) (up_to_spelled high small);
    }

-- no other number is spelled, and no word spells two
pub up_to_none : (high : ℕ) (w : List ℕ) → ((n : ℕ) → n ≤ high → w ≡ decimal n → ⊥) → up_to high w ≡ None
up_to_none high w none = elim (up_to high w) as (λ o. up_to high w ≡ o → o ≡ None) [
  | Some n ↦ λ e. let t = up_to_takes high w n e in absurd (none n (leb-true n high t.0) t.1)
  | None ↦ λ e. refl
] refl

-- ---- ids that may be missing
no_decimal : (cs : List ℕ) (n : ℕ) → n < 2 ^ 64 → 45 ∷ cs ≡ decimal n → ⊥
no_decimal cs n small e = let digits = subst (AllDigits 10) (sym e) (decimal_is_IsNumeral n small).0.1 in omega (arith, digits.0)

option_takes : (w : List ℕ) (o : Option ℕ) → option_in w ≡ Some o → IsTrue (is_option_named o) × (w ≡ option_word o)
unfolding option_in
option_takes w o e =
    let none : Option ℕ = None in
    elim (chosen (bytes_eq w (codes "-")) (found none) (option_and_then (λ n. found (found n)) (up_to 16777215 w)) (Some o) e) [
      | inl p ↦ subst (λ q. IsTrue (is_option_named q) × (w ≡ option_word q)) (same_found none o p.1) (refl, from_bytes w (codes "-") p.0)
      | inr p ↦
          let one = then_read (up_to 16777215 w) (λ n. found (found n)) o p.1 in
          let t = up_to_takes 16777215 w one.0 one.1 in
          subst (λ q. IsTrue (is_option_named q) × (w ≡ option_word q)) (same_found (found one.0) o one.2) t
    ]

option_again : (o : Option ℕ) → IsTrue (is_option_named o) → option_in (option_word o) ≡ Some o
unfolding option_in
option_again None h = refl
option_again (Some n) h =
    let small = leb-true n 16777215 h in
    ap (λ b. cond b (found None) (option_and_then (λ m. found (found m)) (up_to 16777215 (decimal n)))) (other_bytes (decimal n) (codes "-") (λ e. no_decimal [] n (omega arith) (sym e)))
    ∙ ap (option_and_then (λ m. found (found m))) (up_to_again 16777215 (omega arith) n h)

pub option_spelled : IsSpelled (Option ℕ) is_option_named option_word option_in
option_spelled = record { takes = option_takes; again = option_again }

-- ---- edges that are walked
minus_front : (w : List ℕ) → has_minus w ≡ true → w ≡ 45 ∷ drop 1 w
minus_front [] h = absurd cc
minus_front (c ∷ cs) h = ap (λ d. d ∷ cs) (eqb-true c 45 h)

no_minus : (n : ℕ) → n < 2 ^ 64 → has_minus (decimal n) ≡ false
no_minus n small = is_false (has_minus (decimal n)) (λ h. no_decimal (drop 1 (decimal n)) n small (sym (minus_front (decimal n) h)))

own_spelled : IsSpelled ℕ is_own decimal (between 1 16777215)
own_spelled = between_spelled 1 16777215 (omega arith)

dart_takes : (w : List ℕ) (d : Dart) → dart_in w ≡ Some d → IsTrue (is_dart d) × (w ≡ dart_word d)
unfolding dart_in
dart_takes w d e =
    let back = option_and_then (dart_of false) (between 1 16777215 (drop 1 w)) in
    let on = option_and_then (dart_of true) (between 1 16777215 w) in
    elim (chosen (has_minus w) back on (Some d) e) [
      | inl p ↦
          let one = then_read (between 1 16777215 (drop 1 w)) (dart_of false) d p.1 in
          let t = own_spelled.takes (drop 1 w) one.0 one.1 in
          let read : Dart = record { edge = one.0; forward = false } in
          subst (λ q. IsTrue (is_dart q) × (w ≡ dart_word q)) (same_found read d one.2) (t.0, minus_front w p.0 ∙ ap (λ ds. 45 ∷ ds) t.1)
      | inr p ↦
          let one = then_read (between 1 16777215 w) (dart_of true) d p.1 in
          let t = own_spelled.takes w one.0 one.1 in
          let read : Dart = record { edge = one.0; forward = true } in
          subst (λ q. IsTrue (is_dart q) × (w ≡ dart_word q)) (same_found read d one.2) t
    ]

dart_again' : (edge : ℕ) (forward : Bool) → IsTrue (is_own edge) → dart_in (dart_word (record { edge = edge; forward = forward })) ≡ Some (record { edge = edge; forward = forward })
unfolding dart_in
dart_again' edge true h =
    let small = leb-true edge 16777215 (and_parts (nat_le edge 16777215) (nat_le 1 edge) h).0 in
    ap (λ b. cond b (option_and_then (dart_of false) (between 1 16777215 (drop 1 (decimal edge)))) (option_and_then (dart_of true) (between 1 16777215 (decimal edge)))) (no_minus edge (omega arith))
    ∙ ap (option_and_then (dart_of true)) (own_spelled.again edge h)
dart_again' edge false h = ap (option_and_then (dart_of false)) (own_spelled.again edge h)

pub dart_spelled : IsSpelled Dart is_dart dart_word dart_in
dart_spelled = record { takes = dart_takes; again = λ d h. dart_again' d.edge d.forward h }

-- ---- whole numbers
wide_above : (z : ℤ) → IsTrue (is_wide z) → signed_value (signed_decimal z) ≡ z
wide_above (pos n) h =
    let small = leb-true n 9223372036854775807 (and_parts (int_le (neg_ℤ (pos (2 ^ 63))) (pos n)) (int_le (pos n) (pos 9223372036854775807)) h).1 in
    ap (λ b. cond b (neg_ℤ (pos (digits_value 10 (drop 1 (decimal n))))) (pos (digits_value 10 (decimal n)))) (no_minus n (omega arith)) ∙ ap pos (value_of n (omega arith))
wide_above (negsuc n) h =
    let small = leb-true n 9223372036854775807 (and_parts (int_le (neg_ℤ (pos (2 ^ 63))) (negsuc n)) (int_le (negsuc n) (pos 9223372036854775807)) h).0 in
    ap (λ m. neg_ℤ (pos m)) (value_of (suc n) (omega arith))

integer_takes : (w : List ℕ) (z : ℤ) → integer_in w ≡ Some z → IsTrue (is_wide z) × (w ≡ signed_decimal z)
unfolding integer_in
integer_takes w z e =
    let m = signed_value w in
    let one = cond_some (bytes_eq (signed_decimal m) w && is_wide m) m z e in
    let tests = and_parts (bytes_eq (signed_decimal m) w) (is_wide m) one.0 in
    subst (λ k. IsTrue (is_wide k) × (w ≡ signed_decimal k)) one.1 (tests.1, sym (from_bytes (signed_decimal m) w tests.0))

integer_again : (z : ℤ) → IsTrue (is_wide z) → integer_in (signed_decimal z) ≡ Some z
unfolding integer_in
integer_again z h =
    subst (λ m. cond (bytes_eq (signed_decimal m) (signed_decimal z) && is_wide m) (found m) None ≡ Some z) (sym (wide_above z h))
    (ap (λ b. cond b (found z) None) (and_from (bytes_eq (signed_decimal z) (signed_decimal z)) (is_wide z) (same_bytes (signed_decimal z)) h))

pub integer_spelled : IsSpelled ℤ is_wide signed_decimal integer_in
integer_spelled = record { takes = integer_takes; again = integer_again }

-- a number of 64 bits
pub wide_from : (z : ℤ) → FitsSigned w64 z → IsTrue (is_wide z)
wide_from (pos n) h = and_from (int_le (neg_ℤ (pos (2 ^ 63))) (pos n)) (int_le (pos n) (pos 9223372036854775807)) refl (le-leb n 9223372036854775807 (omega (arith, h.sfits)))
wide_from (negsuc n) h = and_from (int_le (neg_ℤ (pos (2 ^ 63))) (negsuc n)) (int_le (negsuc n) (pos 9223372036854775807)) (le-leb n 9223372036854775807 (omega (arith, h.sfits))) refl

pub wide_coordinate : (z : ℤ) → IsCoordinate z → IsTrue (is_wide z)
wide_coordinate (pos n) h = and_from (int_le (neg_ℤ (pos (2 ^ 63))) (pos n)) (int_le (pos n) (pos 9223372036854775807)) refl (le-leb n 9223372036854775807 (omega (arith, ints, h.high)))
wide_coordinate (negsuc n) h = and_from (int_le (neg_ℤ (pos (2 ^ 63))) (negsuc n)) (int_le (negsuc n) (pos 9223372036854775807)) (le-leb n 9223372036854775807 (omega (arith, ints, h.low))) refl

pub integer_found : (w : List ℕ) (z : ℤ) → IsDecimal w z → integer_in w ≡ Some z
integer_found w z h = ap integer_in h.spelled ∙ integer_again z (wide_from z h.fits)

-- ---- what the reader of numbers found
pub up_to_found : (high : ℕ) (w : List ℕ) (n : ℕ) → high < 2 ^ 32 → n ≤ high → IsDecimal w (pos n) → up_to high w ≡ Some n
up_to_found high w n small le h = ap (up_to high) h.spelled ∙ up_to_again high small n (le-leb n high le)

pub pos_of : (z : ℤ) → FitsUnsignedBits 32 z → z ≡ pos (unsigned_abs z)
pos_of (pos n) h = refl
pos_of (negsuc n) h = absurd h

pub up_to_other : (high : ℕ) (w : List ℕ) → high < 2 ^ 32 → ((n : ℕ) → n ≤ high → IsDecimal w (pos n) → ⊥) → up_to high w ≡ None
up_to_other high w small none = up_to_none high w (λ n le is. none n le (record { fits = record { sfits = omega arith }; spelled = is }))

pub integer_none : (w : List ℕ) → ((z : ℤ) → IsTrue (is_wide z) → w ≡ signed_decimal z → ⊥) → integer_in w ≡ None
integer_none w none = elim (integer_in w) as (λ o. integer_in w ≡ o → o ≡ None) [
  | Some z ↦ λ e. let t = integer_takes w z e in absurd (none z t.0 t.1)
  | None ↦ λ e. refl
] refl

-- ---- types of features and names
abbrev pub any_kind : Kind → Bool
any_kind k = true

abbrev pub kind_word : Kind → List ℕ
kind_word k = decimal (kind_number k)

pub digit_word : (n : ℕ) → n < 10 → decimal n ≡ (48 + n) ∷ []
digit_word n h = decimal_digit n h

kind_takes : (w : List ℕ) (k : Kind) → kind_in w ≡ Some k → IsTrue (any_kind k) × (w ≡ kind_word k)
unfolding kind_in
kind_takes w k e =
    let none : Option Kind = None in
    let third = cond (bytes_eq w (codes "3")) (found Areal) none in
    let second = cond (bytes_eq w (codes "2")) (found Lineal) third in
    elim (chosen (bytes_eq w (codes "1")) (found Puntal) second (Some k) e) [
      | inl p ↦ (refl, from_bytes w (codes "1") p.0 ∙ sym (digit_word 1 (omega arith)) ∙ ap kind_word (same_found Puntal k p.1))
      | inr q ↦ elim (chosen (bytes_eq w (codes "2")) (found Lineal) third (Some k) q.1) [
        | inl p ↦ (refl, from_bytes w (codes "2") p.0 ∙ sym (digit_word 2 (omega arith)) ∙ ap kind_word (same_found Lineal k p.1))
        | inr r ↦ elim (chosen (bytes_eq w (codes "3")) (found Areal) none (Some k) r.1) [
          | inl p ↦ (refl, from_bytes w (codes "3") p.0 ∙ sym (digit_word 3 (omega arith)) ∙ ap kind_word (same_found Areal k p.1))
          | inr p ↦ absurd (cc p.1)
        ]
      ]
    ]

kind_again : (k : Kind) → IsTrue (any_kind k) → kind_in (kind_word k) ≡ Some k
unfolding kind_in
kind_again Puntal h = ap kind_in (digit_word 1 (omega arith))
kind_again Lineal h = ap kind_in (digit_word 2 (omega arith))
kind_again Areal h = ap kind_in (digit_word 3 (omega arith))

pub kind_spelled : IsSpelled Kind any_kind kind_word kind_in
kind_spelled = record { takes = kind_takes; again = kind_again }

abbrev pub same_word : List ℕ → List ℕ
same_word w = w

name_takes : (w name : List ℕ) → tested is_name w ≡ Some name → IsTrue (is_name name) × (w ≡ name)
name_takes w name e = let one = cond_some (is_name w) w name e in (subst (λ n. IsTrue (is_name n)) one.1 one.0, one.1)

pub name_spelled : IsSpelled (List ℕ) is_name same_word (tested is_name)
name_spelled = record { takes = name_takes; again = λ w h. ap (λ b. cond b (found w) None) h }

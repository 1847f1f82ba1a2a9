-- An id is known by its word.
use Rattle.std.proofs.Common.{◌≡◌, ℕ, ◌≤◌, ◌^◌, Bool, List, [], ◌∷◌, flat_map, Option, Some, None, IsTrue, refl, sym, ap, subst, arith, get_or, drop, ltb-true}
use Rattle.std.specs.Fmt.{decimal}
use Rattle.std.specs.Char.{digit_value}
use Rattle.std.specs.Str.Parse.{AllDigits}
use Rattle.std.specs.List.{list_all}
use Rattle.std.proofs.lemmas.Bool.{and_parts}
use Rattle.std.proofs.lemmas.Fmt.{decimal_injective, decimal_is_IsNumeral}
use Rattle.topo_base.specs.declared.named.IdWord.{IdWord}
use Rattle.topo_base.specs.declared.named.IdWord.TheVariants.{Number, Bound}
use Rattle.topo_base.specs.declared.named.NamedPair.{NamedPair}
use Rattle.drawing.specs.InRange.{is_id}
use Rattle.script_model.specs.NamedRange.{is_id_word, is_option_id_word, is_named_pair}
use Rattle.script_model.specs.NamedWords.{id_word, option_id_word}

-- a decimal begins with a digit
pub not_decimal : (c : ℕ) (cs : List ℕ) (n : ℕ) → IsTrue (is_id n) → 10 ≤ digit_value c → c ∷ cs ≡ decimal n → ⊥
not_decimal c cs n small other e =
    let bound = ltb-true n (2 ^ 32) small in
    let digits = subst (AllDigits 10) (sym e) (decimal_is_IsNumeral n (omega arith)).0.1 in
    omega (arith, digits.0)

pub number_unique : (m n : ℕ) → IsTrue (is_id m) → IsTrue (is_id n) → decimal m ≡ decimal n → m ≡ n
number_unique m n g h e =
    let small_m = ltb-true m (2 ^ 32) g in
    let small_n = ltb-true n (2 ^ 32) h in
    decimal_injective m n (omega arith) (omega arith) e

pub id_unique : (v w : IdWord) → IsTrue (is_id_word v) → IsTrue (is_id_word w) → id_word v ≡ id_word w → v ≡ w
id_unique (Number m) (Number n) g h e = ap Number (number_unique m n g h e)
id_unique (Number m) (Bound b) g h e = absurd (not_decimal 36 b m g (omega arith) (sym e))
id_unique (Bound a) (Number n) g h e = absurd (not_decimal 36 a n h (omega arith) e)
id_unique (Bound a) (Bound b) g h e = ap Bound (ap (drop 1) e)

-- no id is written as a word that begins with a byte that is neither a digit nor $
pub not_id : (c : ℕ) (cs : List ℕ) (w : IdWord) → IsTrue (is_id_word w) → 10 ≤ digit_value c → (c ≡ 36 → ⊥) → c ∷ cs ≡ id_word w → ⊥
not_id c cs (Number n) h other one e = not_decimal c cs n h other e
not_id c cs (Bound a) h other one e = one (ap (λ word. get_or word 0 0) e)

pub option_id_unique : (v w : Option IdWord) → IsTrue (is_option_id_word v) → IsTrue (is_option_id_word w) → option_id_word v ≡ option_id_word w → v ≡ w
option_id_unique None None g h e = refl
option_id_unique None (Some w) g h e = absurd (not_id 45 [] w h (omega arith) (λ same. omega arith) e)
option_id_unique (Some v) None g h e = absurd (not_id 45 [] v g (omega arith) (λ same. omega arith) (sym e))
option_id_unique (Some v) (Some w) g h e = ap Some (id_unique v w g h e)

pub pair_unique : (x y : NamedPair) → IsTrue (is_named_pair x) → IsTrue (is_named_pair y) → id_word x.id ≡ id_word y.id → id_word x.element_type ≡ id_word y.element_type → x ≡ y
pair_unique x y g h id type =
    let p = and_parts (is_id_word x.id) (is_id_word x.element_type) g in
    let q = and_parts (is_id_word y.id) (is_id_word y.element_type) h in
    let ids = id_unique x.id y.id p.0 q.0 id in
    let types = id_unique x.element_type y.element_type p.1 q.1 type in
    λ i. record { id = ids i; element_type = types i }

-- things that are each known by two words are known by all of their words
pub each_unique : {A : Type 0} (good : A → Bool) (first second : A → List ℕ) → ((x y : A) → IsTrue (good x) → IsTrue (good y) → first x ≡ first y → second x ≡ second y → x ≡ y)
    → (xs ys : List A) → IsTrue (list_all good xs) → IsTrue (list_all good ys) → flat_map (λ x. first x ∷ second x ∷ []) xs ≡ flat_map (λ x. first x ∷ second x ∷ []) ys → xs ≡ ys
each_unique good first second one [] [] g h e = refl
each_unique good first second one [] (y ∷ ys) g h e = absurd cc
each_unique good first second one (x ∷ xs) [] g h e = absurd cc
each_unique good first second one (x ∷ xs) (y ∷ ys) g h e =
    let p = and_parts (good x) (list_all good xs) g in
    let q = and_parts (good y) (list_all good ys) h in
    let here = one x y p.0 q.0 (ap (λ ws. get_or ws 0 []) e) (ap (λ ws. get_or ws 1 []) e) in
    let rest = each_unique good first second one xs ys p.1 q.1 (ap (drop 2) e) in
    λ i. here i ∷ rest i

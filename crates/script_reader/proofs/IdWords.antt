-- The words of ids and points.
use Rattle.std.proofs.Common.{◌≡◌, ℕ, ◌<◌, ◌^◌, ℤ, pos, negsuc, List, ◌∷◌, Option, Some, None, IsTrue, false, refl, sym, ap, subst, ◌∙◌, arith, ltb-true}
use Rattle.std.specs.Prelude.{FitsSigned, codes, IsSome, IfSome, ◌↔◌}
use Rattle.std.specs.Fmt.{decimal, signed_decimal}
use Rattle.std.specs.Int.{w64}
use Rattle.std.specs.Str.Parse.{AllDigits}
use Rattle.std.proofs.lemmas.Fmt.{decimal_is_IsNumeral}
use Rattle.std.proofs.lemmas.Int.{ints}
use Rattle.topo_base.specs.Names.{is_name}
use Rattle.topo_base.specs.Point.{Point, IsCoordinate, IsOnGrid}
use Rattle.topo_base.specs.declared.named.IdWord.{IdWord}
use Rattle.topo_base.specs.declared.named.IdWord.TheVariants.{Number, Bound}
use Rattle.topo_io.specs.Decimal.{IsDecimal}
use Rattle.topo_io.proofs.Decimals.{decimal_unique}
use Rattle.drawing.specs.InRange.{is_id}
use Rattle.script_model.specs.NamedRange.{is_id_word, is_option_id_word}
use Rattle.script_model.specs.NamedWords.{id_word, option_id_word}
use Rattle.script_reader.specs.Reading.{Finds, IsIdWord, IsOptionIdWord, IsPoint}

-- an id has 64 bits
pub id_fits : (n : ℕ) → IsTrue (is_id n) → FitsSigned w64 (pos n)
id_fits n h = let small = ltb-true n (2 ^ 32) h in record { sfits = omega arith }

-- a decimal begins neither with $ nor with =
no_dollar : (n : ℕ) (cs : List ℕ) → n < 2 ^ 32 → 36 ∷ cs ≡ decimal n → ⊥
no_dollar n cs small e = let digits = subst (AllDigits 10) (sym e) (decimal_is_IsNumeral n (omega arith)).0.1 in omega (arith, digits.0)

no_equals : (n : ℕ) → n < 2 ^ 32 → codes "=" ≡ decimal n → ⊥
no_equals n small e = let digits = subst (AllDigits 10) (sym e) (decimal_is_IsNumeral n (omega arith)).0.1 in omega (arith, digits.0)

-- `$` and what is no name is no id
pub no_bound : (word name : List ℕ) → word ≡ 36 ∷ name → is_name name ≡ false → (w : IdWord) → IsIdWord word w → ⊥
no_bound word name e other (Number n) h = no_dollar n name (ltb-true n (2 ^ 32) h.good) (sym e ∙ h.spelled)
no_bound word name e other (Bound m) h = let good = h.good in let spelled = h.spelled in let same : m ≡ name = cc in cc

-- a word that doesn't begin with `$` and is no small decimal is no id
pub no_id : (word : List ℕ) → ((rest : List ℕ) → word ≡ 36 ∷ rest → ⊥) → ((n : ℕ) → IsTrue (is_id n) × (word ≡ decimal n) → ⊥) → (w : IdWord) → IsIdWord word w → ⊥
no_id word any none (Number n) h = none n (h.good, h.spelled)
no_id word any none (Bound name) h = any name h.spelled

pub no_option : (word : List ℕ) → (word ≡ codes "-" → ⊥) → ((w : IdWord) → IsIdWord word w → ⊥) → (o : Option IdWord) → IsOptionIdWord word o → ⊥
no_option word any none None h = any h.spelled
no_option word any none (Some w) h = none w (record { good = h.good; spelled = h.spelled })

-- no id is =
bound_not_equals : (name : List ℕ) → 36 ∷ name ≡ codes "=" → ⊥
bound_not_equals name e = cc

pub id_not_equals : (w : IdWord) → IsTrue (is_id_word w) → id_word w ≡ codes "=" → ⊥
id_not_equals (Number n) h e = no_equals n (ltb-true n (2 ^ 32) h) (sym e)
id_not_equals (Bound name) h e = bound_not_equals name e

any_not_equals : codes "-" ≡ codes "=" → ⊥
any_not_equals e = cc

pub option_id_not_equals : (o : Option IdWord) → IsTrue (is_option_id_word o) → option_id_word o ≡ codes "=" → ⊥
option_id_not_equals None h e = any_not_equals e
option_id_not_equals (Some w) h e = id_not_equals w h e

-- ---- points
-- a coordinate has 64 bits
coordinate_fits : (n : ℤ) → IsCoordinate n → FitsSigned w64 n
coordinate_fits (pos n) h = record { sfits = omega (arith, ints, h.high) }
coordinate_fits (negsuc n) h = record { sfits = omega (arith, ints, h.low) }

-- the words of a point are decimals
x_decimal : (x y : List ℕ) (p : Point) → IsPoint x y p → IsDecimal x p.x
x_decimal x y p h = record { fits = coordinate_fits p.x h.grid.0; spelled = h.x_is }

y_decimal : (x y : List ℕ) (p : Point) → IsPoint x y p → IsDecimal y p.y
y_decimal x y p h = record { fits = coordinate_fits p.y h.grid.1; spelled = h.y_is }

-- what is found for two decimals
pub point_found : (x y : List ℕ) (m n a b : ℤ) → IsDecimal x m → IsDecimal y n → a ≡ m → b ≡ n
    → (r : Option Point) → (IsSome r ↔ IsOnGrid (record { x = a; y = b })) → IfSome r (λ p. p ≡ record { x = a; y = b }) → Finds (IsPoint x y) r
point_found x y m n a b d e am bn (Some p) range value = record {
  grid = subst IsOnGrid (sym value) (range.0 refl);
  x_is = d.spelled ∙ ap signed_decimal (sym am ∙ sym (ap (λ q. q.x) value));
  y_is = e.spelled ∙ ap signed_decimal (sym bn ∙ sym (ap (λ q. q.y) value));
}
point_found x y m n a b d e am bn None range value = λ p h.
    let on : IsOnGrid (record { x = a; y = b }) =
    (subst IsCoordinate (decimal_unique x p.x m (x_decimal x y p h) d ∙ sym am) h.grid.0, subst IsCoordinate (decimal_unique y p.y n (y_decimal x y p h) e ∙ sym bn) h.grid.1) in
    let some = range.1 on in cc

-- Lists of numbers of which one has ended.
use Rattle.std.proofs.Common.{◌≡◌, ℕ, ◌<◌, ◌≤◌, Bool, true, false, List, [], ◌∷◌, length, refl, sym, ap, ◌∙◌, eqb, eqb-true, arith}
use Rattle.std.proofs.lemmas.Bool.Decides.{nat_tests}
use Rattle.drawing.specs.RemoveEdge.{same_numbers}

none_and_some : (ys : List ℕ) → 0 < length ys → false ≡ same_numbers [] ys
none_and_some [] some = absurd (omega (arith, some))
none_and_some (y ∷ ys) some = refl

some_and_none : (xs : List ℕ) → 0 < length xs → false ≡ same_numbers xs []
some_and_none [] some = absurd (omega (arith, some))
some_and_none (x ∷ xs) some = refl

less : (at end : ℕ) → at ≤ end → eqb at end ≡ false → at < end
less at end within other = grind (arith, nat_tests)

pub below : (at end : ℕ) → at ≤ end → (at ≡ end → ⊥) → at < end
below at end within other = by (eqb at end) refl
  where
    by : (b : Bool) → eqb at end ≡ b → at < end
    by true e = absurd (other (eqb-true at end e))
    by false e = less at end within e

-- the first list has ended
pub first_ended : (xs ys : List ℕ) (at end : ℕ) → xs ≡ [] → at ≤ end → (at ≡ end → ys ≡ []) → (at < end → 0 < length ys) → eqb at end ≡ same_numbers xs ys
first_ended xs ys at end none within last some = by (eqb at end) refl
  where
    by : (b : Bool) → eqb at end ≡ b → eqb at end ≡ same_numbers xs ys
    by true e = e ∙ (λ i. same_numbers (sym none i) (sym (last (eqb-true at end e)) i))
    by false e = e ∙ none_and_some ys (some (less at end within e)) ∙ ap (λ (zs : List ℕ). same_numbers zs ys) (sym none)

-- the second has, and the first hasn't
pub second_ended : (xs ys : List ℕ) → ys ≡ [] → 0 < length xs → false ≡ same_numbers xs ys
second_ended xs ys none some = some_and_none xs some ∙ ap (same_numbers xs) (sym none)

-- A list from which one element was taken.
use Rattle.std.proofs.Common.{Option, Some, None, MatchOption, IfSome, [], ◌≡◌, ◌∙◌, ◌<◌, List, ◌∷◌, Bool, true, false, ◌||◌, ◌&&◌, not, IsTrue, sym, refl, length, ap, arith, IsPermutation}
use Rattle.std.specs.List.{Contains, list_all, list_any}
use Rattle.std.proofs.lemmas.List.Sorted.{length_permutation, list_any-IsPermutation, Contains-permutation, IsPermutation-sym}
use Rattle.std.proofs.lemmas.Bool.{and_parts}

all_and_any : (a b : Bool) → (a && not b) ≡ not (not a || b)
all_and_any true true = refl
all_and_any true false = refl
all_and_any false true = refl
all_and_any false false = refl

all_as_any : {X : Type 0} (p : X → Bool) (xs : List X) → list_all p xs ≡ not (list_any (λ x. not (p x)) xs)
all_as_any p [] = refl
all_as_any p (x ∷ xs) = ap (λ (b : Bool). p x && b) (all_as_any p xs) ∙ all_and_any (p x) (list_any (λ x. not (p x)) xs)

-- a list and its permutation pass a test alike
pub all_permuted : {X : Type 0} (p : X → Bool) (xs ys : List X) → IsPermutation xs ys → list_all p xs ≡ list_all p ys
all_permuted p xs ys moved = all_as_any p xs ∙ ap not (list_any-IsPermutation (λ x. not (p x)) xs ys moved) ∙ sym (all_as_any p ys)

module _ {X : Type 0} (xs ys : List X) (x : X) (moved : IsPermutation xs (x ∷ ys)) where
  pub all_taken : (p : X → Bool) → IsTrue (list_all p xs) → IsTrue (p x) × IsTrue (list_all p ys)
  all_taken p all = and_parts (p x) (list_all p ys) (sym (all_permuted p xs (x ∷ ys) moved) ∙ all)

  pub any_taken : (p : X → Bool) → p x ≡ true → list_any p xs ≡ true
  any_taken p yes_here = list_any-IsPermutation p xs (x ∷ ys) moved ∙ ap (λ (b : Bool). b || list_any p ys) yes_here

  pub any_left : (p : X → Bool) → p x ≡ false → list_any p xs ≡ list_any p ys
  any_left p not_here = list_any-IsPermutation p xs (x ∷ ys) moved ∙ ap (λ (b : Bool). b || list_any p ys) not_here

  pub is_there : Contains xs x
  is_there = Contains-permutation (x ∷ ys) xs x (IsPermutation-sym xs (x ∷ ys) moved) (0, omega arith, refl)

  pub shorter : length ys < length xs
  shorter = omega (arith, length_permutation xs (x ∷ ys) moved)

pub shorter_found : {X : Type 0} (o : Option X) (xs ys : List X) → MatchOption o (xs ≡ []) (λ x. IsPermutation xs (x ∷ ys)) → IfSome o (λ _. length ys < length xs)
shorter_found None xs ys found = tt
shorter_found (Some x) xs ys found = shorter xs ys x found

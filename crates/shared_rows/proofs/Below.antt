-- Children one behind the other.
use Rattle.std.proofs.Common.{◌≡◌, ℕ, zero, suc, List, [], ◌∷◌, ◌++◌, length, Option, Some, refl, arith}
use Rattle.shared_rows.specs.Places.{SameBelow}

-- a child more behind both
pub pushed_below : {C X : Type 0} (below : Option C → ℕ → X) (xs ys : List C) (x y : C) → length xs ≡ length ys → SameBelow below xs ys → ((k : ℕ) → below (Some x) k ≡ below (Some y) k) → SameBelow below (xs ++ x ∷ []) (ys ++ y ∷ [])
pushed_below below [] [] x y e same is zero k = is k
pushed_below below [] [] x y e same is (suc j) k = refl
pushed_below below [] (b ∷ ys) x y e same is j k = absurd (omega arith)
pushed_below below (a ∷ xs) [] x y e same is j k = absurd (omega arith)
pushed_below below (a ∷ xs) (b ∷ ys) x y e same is zero k = same zero k
pushed_below below (a ∷ xs) (b ∷ ys) x y e same is (suc j) k = pushed_below below xs ys x y (omega arith) (λ i. same (suc i)) is j k

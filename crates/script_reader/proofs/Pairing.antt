-- The elements of a list with names, one more at a time.
use Rattle.std.proofs.Common.{◌≡◌, ℕ, zero, suc, ◌+◌, ◌<◌, List, [], ◌∷◌, ◌++◌, length, take, get_or, Option, None, Some, refl, sym, ap, ◌∙◌, arith}
use Rattle.std.proofs.lemmas.List.{take_more}
use Rattle.topo_base.specs.declared.edit.Pair.{Pair}
use Rattle.topo_base.specs.declared.named.NamedPair.{NamedPair}
use Rattle.script_model.specs.Bindings.{Names, pair_of, pairs_of, onto_pairs}

onto_pairs-push : (x : Option Pair) (o more : Option (List Pair)) (ys : List Pair) (y : Pair) → ((zs : List Pair) → o ≡ Some zs → more ≡ Some (zs ++ y ∷ [])) → onto_pairs x o ≡ Some ys → onto_pairs x more ≡ Some (ys ++ y ∷ [])
onto_pairs-push None o more ys y rest e = absurd cc
onto_pairs-push (Some x) None more ys y rest e = absurd cc
onto_pairs-push (Some x) (Some zs) more ys y rest e = let same : x ∷ zs ≡ ys = cc in ap (onto_pairs (Some x)) (rest zs refl) ∙ ap (λ l. Some (l ++ y ∷ [])) same

-- an element more, whose names are bound
pairs_of-push : (b : Names) (xs : List NamedPair) (x : NamedPair) (ys : List Pair) (y : Pair) → pairs_of b xs ≡ Some ys → pair_of b x ≡ Some y → pairs_of b (xs ++ x ∷ []) ≡ Some (ys ++ y ∷ [])
pairs_of-push b [] x ys y e f = let same : [] ≡ ys = cc in ap (λ o. onto_pairs o (Some [])) f ∙ ap (λ l. Some (l ++ y ∷ [])) same
pairs_of-push b (z ∷ xs) x ys y e f = onto_pairs-push (pair_of b z) (pairs_of b xs) (pairs_of b (xs ++ x ∷ [])) ys y (λ zs is. pairs_of-push b xs x zs y is f) e

-- the element at a place, whose names are bound
pub pairs_of-take_more : (b : Names) (xs : List NamedPair) (i : ℕ) (x : NamedPair) (ys : List Pair) (y : Pair) → i < length xs → x ≡ get_or xs i x → pairs_of b (take i xs) ≡ Some ys → pair_of b x ≡ Some y → pairs_of b (take (i + 1) xs) ≡ Some (ys ++ y ∷ [])
pairs_of-take_more b xs i x ys y lt is found this =
    ap (pairs_of b) (take_more xs i x lt ∙ ap (λ z. take i xs ++ z ∷ []) (sym is)) ∙ pairs_of-push b (take i xs) x ys y found this

-- no elements, where a name of one isn't bound
onto_none : (o : Option Pair) → onto_pairs o None ≡ None
onto_none None = refl
onto_none (Some p) = refl

pub pairs_of-unbound : (b : Names) (xs : List NamedPair) (i : ℕ) (x : NamedPair) → i < length xs → x ≡ get_or xs i x → pair_of b x ≡ None → pairs_of b xs ≡ None
pairs_of-unbound b [] i x lt is none = absurd (omega arith)
pairs_of-unbound b (z ∷ xs) zero x lt is none = ap (λ o. onto_pairs o (pairs_of b xs)) (ap (pair_of b) (sym is) ∙ none)
pairs_of-unbound b (z ∷ xs) (suc i) x lt is none = ap (onto_pairs (pair_of b z)) (pairs_of-unbound b xs i x (omega arith) is none) ∙ onto_none (pair_of b z)

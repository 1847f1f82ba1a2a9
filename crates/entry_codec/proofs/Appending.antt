-- Bytes that are appended part by part.
use Rattle.std.proofs.Common.{◌≡◌, ℕ, ◌+◌, ◌<◌, Bool, ◌&&◌, IsTrue, List, [], ◌∷◌, ◌++◌, length, take, get_or, flat_map, Result, OnOk, sym, ap, subst, ◌∙◌, append_assoc}
use Rattle.std.proofs.lemmas.List.{take_more, append-nil}
use Rattle.std.specs.List.{list_all}
use Rattle.std.proofs.lemmas.List.Folds.{list_all_more}
use Rattle.std.proofs.lemmas.Grind.{flat_map-append}

pub flat_more : {X : Type 0} (f : X → List ℕ) (front : List ℕ) (xs : List X) (i : ℕ) (x : X) (now next : List ℕ) → i < length xs → x ≡ get_or xs i x
    → now ≡ front ++ flat_map f (take i xs) → next ≡ now ++ f x → next ≡ front ++ flat_map f (take (i + 1) xs)
flat_more f front xs i x now next within is so_far more =
    more ∙ ap (λ (t : List ℕ). t ++ f x) so_far ∙ append_assoc front (flat_map f (take i xs)) (f x)
    ∙ ap (λ (t : List ℕ). front ++ (flat_map f (take i xs) ++ t)) (sym (append-nil (f x)))
    ∙ ap (λ (t : List ℕ). front ++ t) (sym (flat_map-append f (take i xs) (x ∷ [])))
    ∙ ap (λ y. front ++ flat_map f (take i xs ++ y ∷ [])) is
    ∙ ap (λ ys. front ++ flat_map f ys) (sym (take_more xs i x within))

pub joined : {A E : Type 0} (r : Result A E) (old mid new a b : List ℕ) → mid ≡ old ++ a → OnOk r (new ≡ mid ++ b) → OnOk r (new ≡ old ++ (a ++ b))
joined r old mid new a b first second = subst (λ (t : List ℕ). OnOk r (new ≡ t)) (ap (λ (t : List ℕ). t ++ b) first ∙ append_assoc old a b) second

pub all_more : {X : Type 0} (p : X → Bool) (xs : List X) (i : ℕ) (x : X) → i < length xs → x ≡ get_or xs i x → IsTrue (list_all p (take i xs)) → IsTrue (p x)
    → IsTrue (list_all p (take (i + 1) xs))
all_more p xs i x within is so_far more =
    list_all_more p xs i x within ∙ ap (λ y. list_all p (take i xs) && p y) (sym is) ∙ ap (λ b. b && p x) so_far ∙ more

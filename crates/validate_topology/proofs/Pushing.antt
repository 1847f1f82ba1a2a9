-- Lines that are pushed one list after another.
use Rattle.std.proofs.Common.{◌≡◌, ◌∙◌, ℕ, ◌+◌, ◌<◌, List, [], ◌∷◌, ◌++◌, flat_map, length, take, get_or, sym, ap, append_assoc, append-nil}
use Rattle.std.proofs.lemmas.Grind.{flat_map-append}
use Rattle.std.proofs.lemmas.List.{take_more}

pub three_pushed : {A : Type 0} (old n m new a b c : List A) → n ≡ old ++ a → m ≡ n ++ b → new ≡ m ++ c → new ≡ old ++ (a ++ b ++ c)
three_pushed old n m new a b c e f g = g ∙ ap (λ l. l ++ c) (f ∙ ap (λ l. l ++ b) e) ∙ joined
  where
    joined : old ++ a ++ b ++ c ≡ old ++ (a ++ b ++ c)
    joined = simp append_assoc

pub four_pushed : {A : Type 0} (old n m k new a b c d : List A) → n ≡ old ++ a → m ≡ n ++ b → k ≡ m ++ c → new ≡ k ++ d → new ≡ old ++ (a ++ b ++ c ++ d)
four_pushed old n m k new a b c d e f g h =
    h ∙ ap (λ l. l ++ d) (g ∙ ap (λ l. l ++ c) (f ∙ ap (λ l. l ++ b) e)) ∙ joined
  where
    joined : old ++ a ++ b ++ c ++ d ≡ old ++ (a ++ b ++ c ++ d)
    joined = simp append_assoc

pub lines_more : {X A : Type 0} (f : X → List A) (xs : List X) (i : ℕ) (x : X) (old so_far now : List A) → i < length xs → x ≡ get_or xs i x → so_far ≡ old ++ flat_map f (take i xs) → now ≡ so_far ++ f x → now ≡ old ++ flat_map f (take (i + 1) xs)
lines_more f xs i x old so_far now h is before more =
    more ∙ ap (λ ls. ls ++ f x) before ∙ append_assoc old (flat_map f (take i xs)) (f x) ∙ ap (λ ls. old ++ ls) (sym one_more)
  where
    one_more : flat_map f (take (i + 1) xs) ≡ flat_map f (take i xs) ++ f x
    one_more =
        ap (flat_map f) (take_more xs i x h ∙ ap (λ y. take i xs ++ y ∷ []) (sym is)) ∙ flat_map-append f (take i xs) (x ∷ [])
        ∙ ap (λ ls. flat_map f (take i xs) ++ ls) (append-nil (f x))

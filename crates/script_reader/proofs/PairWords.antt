-- The words of elements.
use Rattle.std.proofs.Common.{◌≡◌, ℕ, zero, suc, ◌≤◌, List, [], ◌∷◌, ◌++◌, length, drop, get_or, IsTrue, sym, ap, ◌∙◌, arith}
use Rattle.std.specs.Prelude.{flat_map}
use Rattle.std.specs.List.{list_all}
use Rattle.std.proofs.lemmas.Bool.{and_parts}
use Rattle.std.proofs.lemmas.List.{drop_all}
use Rattle.topo_base.specs.declared.named.NamedPair.{NamedPair}
use Rattle.script_model.specs.NamedRange.{is_named_pair}
use Rattle.script_model.specs.NamedWords.{named_pair_words}
use Rattle.script_reader.specs.Reading.{IsPair, ArePairs}

-- the words behind those of the first elements are those of the others
pub words_left : (done xs : List NamedPair) (rest : List (List ℕ)) → flat_map named_pair_words done ++ rest ≡ flat_map named_pair_words xs → rest ≡ flat_map named_pair_words (drop (length done) xs)
words_left [] xs rest e = e
words_left (y ∷ done) [] rest e = absurd cc
words_left (y ∷ done) (x ∷ xs) rest e = words_left done xs rest (ap (drop 2) e)

good_left : (n : ℕ) (xs : List NamedPair) → IsTrue (list_all is_named_pair xs) → IsTrue (list_all is_named_pair (drop n xs))
good_left zero xs h = h
good_left (suc n) [] h = h
good_left (suc n) (x ∷ xs) h = good_left n xs (and_parts (is_named_pair x) (list_all is_named_pair xs) h).1

-- two words that are no element
not_first : (a b : List ℕ) (after : List (List ℕ)) (xs : List NamedPair) → IsTrue (list_all is_named_pair xs) → ((x : NamedPair) → IsPair a b x → ⊥) → a ∷ b ∷ after ≡ flat_map named_pair_words xs → ⊥
not_first a b after [] good none e = cc
not_first a b after (x ∷ xs) good none e =
    none x (record { good = (and_parts (is_named_pair x) (list_all is_named_pair xs) good).0; id_is = ap (λ ws. get_or ws 0 []) e; type_is = ap (λ ws. get_or ws 1 []) e })

pub no_pair : (words rest after : List (List ℕ)) (done : List NamedPair) (a b : List ℕ) → words ≡ flat_map named_pair_words done ++ rest → rest ≡ a ∷ b ∷ after → ((x : NamedPair) → IsPair a b x → ⊥)
    → (xs : List NamedPair) → ArePairs words xs → ⊥
no_pair words rest after done a b h rest_is none xs are =
    let left = words_left done xs rest (sym h ∙ are.spelled) in
    not_first a b after (drop (length done) xs) (good_left (length done) xs are.good) none (sym rest_is ∙ left)

-- more words behind 4096 elements
pub too_many : (words rest after : List (List ℕ)) (done : List NamedPair) (a b : List ℕ) → words ≡ flat_map named_pair_words done ++ rest → rest ≡ a ∷ b ∷ after → length done ≡ 4096
    → (xs : List NamedPair) → ArePairs words xs → ⊥
too_many words rest after done a b h rest_is full xs are =
    let few = are.few in
    let left = words_left done xs rest (sym h ∙ are.spelled) in
    let none : drop (length done) xs ≡ [] = drop_all (length done) xs (omega arith) in
    let bad : a ∷ b ∷ after ≡ [] = sym rest_is ∙ left ∙ ap (flat_map named_pair_words) none in
    cc

-- one word behind the elements
not_single : (a : List ℕ) (after : List (List ℕ)) (xs : List NamedPair) → ((b c : List ℕ) (ws : List (List ℕ)) → a ∷ after ≡ b ∷ c ∷ ws → ⊥) → a ∷ after ≡ flat_map named_pair_words xs → ⊥
not_single a after [] none e = cc
not_single a after (x ∷ xs) none e = none _ _ _ e

pub odd_count : (words rest after : List (List ℕ)) (done : List NamedPair) (a : List ℕ) → words ≡ flat_map named_pair_words done ++ rest → rest ≡ a ∷ after
    → ((b c : List ℕ) (ws : List (List ℕ)) → rest ≡ b ∷ c ∷ ws → ⊥) → (xs : List NamedPair) → ArePairs words xs → ⊥
odd_count words rest after done a h rest_is none xs are =
    let left = words_left done xs rest (sym h ∙ are.spelled) in
    not_single a after (drop (length done) xs) (λ b c ws e. none b c ws (rest_is ∙ e)) (sym rest_is ∙ left)

-- The first place at which an element passes a test.
use Rattle.std.proofs.Common.{◌≡◌, ℕ, ◌+◌, ◌<◌, ◌≤◌, refl, sym, ◌∙◌, subst, arith, ⊎_elim, Bool, true, false, not, cond, suc, List, [], ◌∷◌, length, get_or}
use Rattle.std.specs.List.{position_or_len}
use Rattle.std.specs.Prelude.{Any, IsTrue, nat_lt, ◌↔◌}
use Rattle.std.proofs.lemmas.Bool.{cases_lt, ltb-true, lt-ltb}
use Rattle.std.proofs.lemmas.List.{get_or_default}
use Rattle.std.proofs.lemmas.List.Sums.{position_or_len_is, prefix_len_passes, prefix_len-le-length}

pub first_at : {X : Type 0} (p : X → Bool) (xs : List X) (i : ℕ) (d x : X) → i < length xs → ((k : ℕ) → k < i → p (get_or xs k d) ≡ false) → x ≡ get_or xs i x → p x ≡ true → i ≡ position_or_len p xs
first_at p xs i d x within before is h =
    sym (position_or_len_is p xs i d (omega arith) before (λ _. subst (λ z. p z ≡ true) (is ∙ get_or_default xs i x d within) h))

pub none_yet : {X : Type 0} (p : X → Bool) (xs : List X) (i : ℕ) (d x : X) → i < length xs → ((k : ℕ) → k < i → p (get_or xs k d) ≡ false) → x ≡ get_or xs i x → p x ≡ false → (k : ℕ) → k < i + 1 → p (get_or xs k d) ≡ false
none_yet p xs i d x within before is h k below =
    ⊎_elim
    (λ (g : k < i). before k g)
    (λ (g : i ≤ k). let e : i ≡ k = omega arith in subst (λ j. p (get_or xs j d) ≡ false) e (subst (λ z. p z ≡ false) (is ∙ get_or_default xs i x d within) h))
    (cases_lt k i)

pub none_at_all : {X : Type 0} (p : X → Bool) (xs : List X) (i : ℕ) (d : X) → i ≤ length xs → length xs ≤ i → ((k : ℕ) → k < i → p (get_or xs k d) ≡ false) → length xs ≡ position_or_len p xs
none_at_all p xs i d below above before =
    let e : i ≡ length xs = omega arith in
    sym (position_or_len_is p xs (length xs) d (omega arith) (λ k h. before k (omega arith)) (λ h. absurd (omega arith)))

-- one passes, so there is a first
pub some_first : {X : Type 0} (p : X → Bool) (xs : List X) → Any (λ x. IsTrue (p x)) xs → position_or_len p xs < length xs
some_first {X = X} p xs any =
    ⊎_elim
    (λ (h : position_or_len p xs < length xs). h)
    (λ (h : length xs ≤ position_or_len p xs).
    let fails : not (p (get_or xs any.0 any.1)) ≡ true = prefix_len_passes (λ x. not (p x)) xs any.0 any.1 (omega (arith, any.2)) in
    absurd (clash (p any.1) any.4 (subst (λ (x : X). not (p x) ≡ true) any.3 fails)))
    (cases_lt (position_or_len p xs) (length xs))
  where
    clash : (b : Bool) → b ≡ true → not b ≡ true → ⊥
    clash true h k = cc
    clash false h k = cc

pub within_length : {X : Type 0} (p : X → Bool) (xs : List X) → position_or_len p xs ≤ length xs
within_length p xs = prefix_len-le-length (λ x. not (p x)) xs

pub place_within : {X : Type 0} (p : X → Bool) (xs ys : List X) (n : ℕ) → n ≡ position_or_len p xs → xs ≡ ys → Any (λ x. IsTrue (p x)) ys → n < length xs
place_within {X = X} p xs ys n is e any = subst (λ k. k < length xs) (sym is) (subst (λ (zs : List X). position_or_len p zs < length zs) (sym e) (some_first p ys any))

-- and where there is a first, one passes
pub first_passes : {X : Type 0} (p : X → Bool) (xs : List X) → position_or_len p xs < length xs → Any (λ x. IsTrue (p x)) xs
first_passes p [] h = absurd (omega arith)
first_passes {X = X} p (y ∷ ys) h = by_test (λ g. first_passes p ys g) (p y) refl
  where
    by_test : (position_or_len p ys < length ys → Any (λ x. IsTrue (p x)) ys) → (b : Bool) → p y ≡ b → Any (λ x. IsTrue (p x)) (y ∷ ys)
    by_test rest true e = (0, y, omega arith, refl, e)
    by_test rest false e =
        let long : 1 + position_or_len p ys < length (y ∷ ys) = subst (λ c. cond (not c) (1 + position_or_len p ys) 0 < length (y ∷ ys)) e h in
        let r = rest (omega arith) in
        let w = r.2 in
        (suc r.0, r.1, omega arith, r.3, r.4)

pub has_first : {X : Type 0} (p : X → Bool) (xs : List X) → IsTrue (nat_lt (position_or_len p xs) (length xs)) ↔ Any (λ x. IsTrue (p x)) xs
has_first p xs = (λ h. first_passes p xs (ltb-true (position_or_len p xs) (length xs) h), λ any. lt-ltb (position_or_len p xs) (length xs) (some_first p xs any))

pub has_place : {X : Type 0} (p : X → Bool) (xs ys : List X) (n : ℕ) → n ≡ position_or_len p xs → xs ≡ ys → IsTrue (nat_lt n (length xs)) ↔ Any (λ x. IsTrue (p x)) ys
has_place {X = X} p xs ys n is e =
    subst (λ (zs : List X). IsTrue (nat_lt n (length xs)) ↔ Any (λ x. IsTrue (p x)) zs) e (subst (λ k. IsTrue (nat_lt k (length xs)) ↔ Any (λ x. IsTrue (p x)) xs) (sym is) (has_first p xs))

-- Tests over a list, and its elements.
use Rattle.std.proofs.Common.{◌≡◌, ℕ, zero, suc, refl, sym, ap, subst, arith, ◌⊎◌, inl, inr, ⊎_elim, Bool, true, false, IsTrue, List, [], ◌∷◌, slice_get, Some, None, unwrap_or}
use Rattle.std.specs.List.{list_all, list_any, All, Contains}
use Rattle.std.specs.Bool.{Decides}
use Rattle.std.proofs.lemmas.Bool.{and_parts, and_from, or_left, or_right, or_cases}
use Rattle.std.proofs.lemmas.Bool.Decides.{Decides-by_and}

pub some_same : {X : Type 0} (x y : X) → Some x ≡ Some y → x ≡ y
some_same x y e = ap (λ o. unwrap_or o x) e

pub contains_here : {X : Type 0} (x : X) (xs : List X) → Contains (x ∷ xs) x
contains_here x xs = (0, omega arith, refl)

pub contains_there : {X : Type 0} (x y : X) (xs : List X) → Contains xs x → Contains (y ∷ xs) x
contains_there x y xs (k, within, is) = (suc k, omega arith, is)

pub contains_cases : {X : Type 0} (x y : X) (xs : List X) → Contains (y ∷ xs) x → (y ≡ x) ⊎ Contains xs x
contains_cases x y xs (zero, within, is) = inl is
contains_cases x y xs (suc k, within, is) = inr (k, omega arith, is)

pub contains_none : {X : Type 0} (x : X) → Contains [] x → ⊥
contains_none x (k, within, is) = omega arith

-- some element meets P
abbrev pub Some_of : {X : Type 0} → (X → Type 0) → List X → Type 0
Some_of {X = X} P xs = (x : X) × (Contains xs x × P x)

pub Decides-any : {X : Type 0} (p : X → Bool) (P : X → Type 0) → ((x : X) → Decides (p x) (P x)) → (xs : List X) → Decides (list_any p xs) (Some_of P xs)
Decides-any p P each [] = (λ h. absurd (no h), λ f. absurd (contains_none f.0 f.1.0))
  where
    no : false ≡ true → ⊥
    no h = cc
Decides-any p P each (x ∷ xs) =
    let rest = Decides-any p P each xs in (
      λ h.
          ⊎_elim
          (λ (e : p x ≡ true). (x, (contains_here x xs, (each x).0 e)))
          (λ (e : list_any p xs ≡ true). let s = rest.0 e in (s.0, (contains_there s.0 x xs s.1.0, s.1.1)))
          (or_cases (p x) (list_any p xs) h),
      λ s.
          ⊎_elim
          (λ (e : x ≡ s.0). or_left (p x) (list_any p xs) ((each x).1 (subst P (sym e) s.1.1)))
          (λ (c : Contains xs s.0). or_right (p x) (list_any p xs) (rest.1 (s.0, (c, s.1.1))))
          (contains_cases s.0 x xs s.1.0),
    )

pub Decides-all : {X : Type 0} (p : X → Bool) (P : X → Type 0) → ((x : X) → Decides (p x) (P x)) → (xs : List X) → Decides (list_all p xs) (All P xs)
Decides-all p P each xs = Decides-by_and p P (list_all p) each refl (λ x ys. refl) xs

-- a test of all holds at each place
pub all_at : {X : Type 0} (p : X → Bool) (xs : List X) (k : ℕ) (x : X) → list_all p xs ≡ true → slice_get xs k ≡ Some x → p x ≡ true
all_at p [] k x h e = absurd (no e)
  where
    no : {X : Type 0} {x : X} → None ≡ Some x → ⊥
    no e = cc
all_at p (y ∷ ys) zero x h e = subst (λ z. p z ≡ true) (some_same y x e) (and_parts (p y) (list_all p ys) h).0
all_at p (y ∷ ys) (suc k) x h e = all_at p ys k x (and_parts (p y) (list_all p ys) h).1 e

-- a weaker test
pub all_weaker : {A : Type 0} (p q : A → Bool) → ((x : A) → IsTrue (p x) → IsTrue (q x)) → (xs : List A) → IsTrue (list_all p xs) → IsTrue (list_all q xs)
all_weaker p q weaker [] h = refl
all_weaker p q weaker (x ∷ xs) h = let here = and_parts (p x) (list_all p xs) h in and_from (q x) (list_all q xs) (weaker x here.0) (all_weaker p q weaker xs here.1)

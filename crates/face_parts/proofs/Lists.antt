-- Lists: the one element that meets a test, the rows after a change, and darts that are gathered.
use Rattle.std.proofs.Common.{◌≡◌, ℕ, refl, sym, ◌∙◌, ap, subst, ⊎_elim, Bool, true, false, cond, eqb, eq-eqb, List, [], ◌∷◌, map, Some}
use Rattle.std.specs.Prelude.{find, flat_map}
use Rattle.std.specs.List.{Contains}
use Rattle.std.proofs.lemmas.Bool.{false≢true, or_left, or_right}
use Rattle.std.proofs.lemmas.List.Elements.{Contains-append_left, Contains-append_right, Contains-append_cases}
use Rattle.drawing.specs.Rows.{has_row}
use Rattle.plane.proofs.ListTests.{contains_here, contains_there, contains_cases, contains_none}

-- the one element that meets a test is found
pub found_one : {X : Type 0} (p : X → Bool) (xs : List X) (x : X) → Contains xs x → p x ≡ true → ((y : X) → Contains xs y → p y ≡ true → y ≡ x) → find p xs ≡ Some x
found_one p [] x c is one = absurd (contains_none x c)
found_one {X = X} p (y ∷ xs) x c is one = by (p y) refl (λ k. found_one p xs x k is (λ z m e. one z (contains_there z y xs m) e))
  where
    by : (b : Bool) → p y ≡ b → (Contains xs x → find p xs ≡ Some x) → cond b (Some y) (find p xs) ≡ Some x
    by true e rest = ap Some (one y (contains_here y xs) e)
    by false e rest = ⊎_elim (λ (q : y ≡ x). absurd (false≢true (sym e ∙ ap p q ∙ is))) (λ (k : Contains xs x). rest k) (contains_cases x y xs c)

-- two maps that agree on the elements of a list
pub map_agree : {X Y : Type 0} (f g : X → Y) (xs : List X) → ((x : X) → Contains xs x → f x ≡ g x) → map f xs ≡ map g xs
map_agree f g [] each = refl
map_agree f g (x ∷ xs) each = let rest = map_agree f g xs (λ y c. each y (contains_there y x xs c)) in let first = each x (contains_here x xs) in λ i. first i ∷ rest i

pub map_twice : {X Y Z : Type 0} (g : Y → Z) (f : X → Y) (xs : List X) → map g (map f xs) ≡ map (λ x. g (f x)) xs
map_twice g f [] = refl
map_twice g f (x ∷ xs) = ap (λ zs. g (f x) ∷ zs) (map_twice g f xs)

-- what is gathered of some elements
pub gathered : {X A : Type 0} (g : X → List A) (xs : List X) (x : X) (a : A) → Contains xs x → Contains (g x) a → Contains (flat_map g xs) a
gathered g [] x a c k = absurd (contains_none x c)
gathered g (y ∷ xs) x a c k =
    ⊎_elim
    (λ (p : y ≡ x). Contains-append_left (g y) (flat_map g xs) a (subst (λ z. Contains (g z) a) (sym p) k))
    (λ (d : Contains xs x). Contains-append_right (g y) (flat_map g xs) a (gathered g xs x a d k))
    (contains_cases x y xs c)

pub gathered_from : {X A : Type 0} (g : X → List A) (xs : List X) (a : A) → Contains (flat_map g xs) a → (x : X) × (Contains xs x × Contains (g x) a)
gathered_from g [] a c = absurd (contains_none a c)
gathered_from {X = X} {A = A} g (y ∷ xs) a c =
    ⊎_elim
    (λ (k : Contains (g y) a). (y, (contains_here y xs, k)))
    (λ (k : Contains (flat_map g xs) a). let (x, (m, d)) = gathered_from g xs a k in (x, (contains_there x y xs m, d)))
    (Contains-append_cases (g y) (flat_map g xs) a c)

pub has_listed : {R : Type 0} (id : R → ℕ) (rows : List R) (r : R) → Contains rows r → has_row id rows (id r) ≡ true
has_listed id [] r c = absurd (contains_none r c)
has_listed id (s ∷ rows) r c =
    ⊎_elim
    (λ (p : s ≡ r). or_left (eqb (id s) (id r)) (has_row id rows (id r)) (eq-eqb (id s) (id r) (ap id p)))
    (λ (k : Contains rows r). or_right (eqb (id s) (id r)) (has_row id rows (id r)) (has_listed id rows r k))
    (contains_cases r s rows c)

-- Steps in lists, said by In and by Contains, and lists without repeats.
use Rattle.std.proofs.Common.{◌≡◌, ℕ, suc, refl, sym, subst, arith, inl, inr, ⊎_elim, List, [], ◌∷◌, slice_get, Some}
use Rattle.std.specs.Prelude.{flat_map}
use Rattle.std.specs.List.{Contains}
use Rattle.plane.specs.Segment.{Segment}
use Rattle.plane.proofs.ListTests.{contains_here, contains_there, contains_cases, contains_none}
use Rattle.plane.proofs.LineCuts.{place_of, at_place}
use Rattle.drawing.proofs.Members.{Pairwise}
use Rattle.parity_laws.specs.Rings.{In, Once}
use Rattle.parity_laws.proofs.Lists.{in_left, in_right, in_cases, once_append}

-- ---- membership
pub in_contains : (s : Segment) (T : List Segment) → In s T → Contains T s
in_contains s [] i = absurd i
in_contains s (t ∷ T) i = ⊎_elim (λ (e : s ≡ t). subst (Contains (t ∷ T)) (sym e) (contains_here t T)) (λ (j : In s T). contains_there s t T (in_contains s T j)) i

pub contains_in : (s : Segment) (T : List Segment) → Contains T s → In s T
contains_in s [] c = absurd (contains_none s c)
contains_in s (t ∷ T) c = ⊎_elim (λ (e : t ≡ s). inl (sym e)) (λ (d : Contains T s). inr (contains_in s T d)) (contains_cases s t T c)

pub place_in : (s : Segment) (T : List Segment) → In s T → (i : ℕ) × (slice_get T i ≡ Some s)
place_in s T i = place_of s T (in_contains s T i)

pub in_place : (s : Segment) (T : List Segment) (i : ℕ) → slice_get T i ≡ Some s → In s T
in_place s T i e = contains_in s T (at_place s T i e)

-- ---- lists joined out of others
pub in_joined : {A : Type 0} (f : A → List Segment) (xs : List A) (x : A) (s : Segment) → Contains xs x → In s (f x) → In s (flat_map f xs)
in_joined f [] x s c i = absurd (contains_none x c)
in_joined f (y ∷ xs) x s c i =
    ⊎_elim
    (λ (e : y ≡ x). in_left s (f y) (flat_map f xs) (subst (λ z. In s (f z)) (sym e) i))
    (λ (d : Contains xs x). in_right s (f y) (flat_map f xs) (in_joined f xs x s d i))
    (contains_cases x y xs c)

pub from_joined : {A : Type 0} (f : A → List Segment) (xs : List A) (s : Segment) → In s (flat_map f xs) → (x : A) × (Contains xs x × In s (f x))
from_joined f [] s i = absurd i
from_joined f (y ∷ xs) s i =
    ⊎_elim
    (λ (j : In s (f y)). (y, (contains_here y xs, j)))
    (λ (j : In s (flat_map f xs)). let (x, (c, k)) = from_joined f xs s j in (x, (contains_there x y xs c, k)))
    (in_cases s (f y) (flat_map f xs) i)

-- ---- no repeats
pub once_placed : (T : List Segment) → ((i j : ℕ) (s : Segment) → slice_get T i ≡ Some s → slice_get T j ≡ Some s → i ≡ j) → Once T
once_placed [] one = tt
once_placed (t ∷ T) one = (
  λ i. let p = place_in t T i in let e = one 0 (suc p.0) t refl p.1 in omega arith,
  once_placed T (λ i j s e f. let g = one (suc i) (suc j) s e f in omega arith),
)

pub once_joined : {A : Type 0} (f : A → List Segment) (xs : List A) → Pairwise (λ x y. x ≡ y → ⊥) xs → ((x : A) → Contains xs x → Once (f x)) →
    ((x y : A) (s : Segment) → Contains xs x → Contains xs y → In s (f x) → In s (f y) → x ≡ y) → Once (flat_map f xs)
once_joined f [] differ each one = tt
once_joined f (x ∷ xs) differ each one =
    once_append (f x) (flat_map f xs) (each x (contains_here x xs))
    (once_joined f xs differ.1 (λ y c. each y (contains_there y x xs c)) (λ y z s c d i j. one y z s (contains_there y x xs c) (contains_there z x xs d) i j))
    (λ s i j. let (y, (c, k)) = from_joined f xs s j in differ.0 y c (one x y s (contains_here x xs) (contains_there y x xs c) i k))

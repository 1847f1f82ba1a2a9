-- What a list contains after a map, a filter or a search, and lists in which each two elements meet a relation.
use Rattle.std.proofs.Common.{◌≡◌, ◌≢◌, ℕ, ◌+◌, ◌<◌, ◌≤◌, refl, sym, ◌∙◌, subst, arith, ⊎_elim, Bool, true, false, cond, List, [], ◌∷◌, ◌++◌, map, filter, Option, Some, None}
use Rattle.std.specs.List.{Contains, find}
use Rattle.std.proofs.lemmas.Bool.{cond_both}
use Rattle.std.proofs.lemmas.List.Elements.{Contains-push_cases}
use Rattle.plane.proofs.ListTests.{some_same, contains_here, contains_there, contains_cases, contains_none}
use Rattle.drawing.proofs.Ordering.{InOrder, first_of}

-- ---- what a list contains
pub contains-map : {X Y : Type 0} (f : X → Y) (x : X) (xs : List X) → Contains xs x → Contains (map f xs) (f x)
contains-map f x [] c = absurd (contains_none x c)
contains-map f x (y ∷ ys) c =
    ⊎_elim
    (λ (e : y ≡ x). subst (λ z. Contains (map f (y ∷ ys)) (f z)) e (contains_here (f y) (map f ys)))
    (λ (k : Contains ys x). contains_there (f x) (f y) (map f ys) (contains-map f x ys k))
    (contains_cases x y ys c)

pub contains-mapped : {X Y : Type 0} (f : X → Y) (y : Y) (xs : List X) → Contains (map f xs) y → (x : X) × (Contains xs x × (f x ≡ y))
contains-mapped f y [] c = absurd (contains_none y c)
contains-mapped f y (x ∷ xs) c =
    ⊎_elim
    (λ (e : f x ≡ y). (x, (contains_here x xs, e)))
    (λ (k : Contains (map f xs) y). let r = contains-mapped f y xs k in (r.0, (contains_there r.0 x xs r.1.0, r.1.1)))
    (contains_cases y (f x) (map f xs) c)

pub contains-filter : {X : Type 0} (p : X → Bool) (x : X) (xs : List X) → Contains xs x → p x ≡ true → Contains (filter p xs) x
contains-filter p x [] c h = c
contains-filter p x (y ∷ ys) c h =
    cond_both (p y) (y ∷ filter p ys) (filter p ys) (λ zs. Contains zs x)
    (λ _. ⊎_elim (λ (e : y ≡ x). subst (λ z. Contains (y ∷ filter p ys) z) e (contains_here y (filter p ys))) (λ (k : Contains ys x). contains_there x y (filter p ys) (contains-filter p x ys k h)) (contains_cases x y ys c))
    (λ g. ⊎_elim (λ (e : y ≡ x). absurd (clash (p x) h (subst (λ z. p z ≡ false) e g))) (λ (k : Contains ys x). contains-filter p x ys k h) (contains_cases x y ys c))
  where
    clash : (b : Bool) → b ≡ true → b ≡ false → ⊥
    clash b h g = cc

filtered_step : {X : Type 0} (p : X → Bool) (x y : X) (ys zs : List X) (b : Bool) → p y ≡ b → (Contains zs x → Contains ys x × (p x ≡ true)) → Contains (cond b (y ∷ zs) zs) x
    → Contains (y ∷ ys) x × (p x ≡ true)
filtered_step p x y ys zs true h rest c =
    ⊎_elim
    (λ (e : y ≡ x). (subst (λ z. Contains (y ∷ ys) z) e (contains_here y ys), subst (λ z. p z ≡ true) e h))
    (λ (k : Contains zs x). let r = rest k in (contains_there x y ys r.0, r.1))
    (contains_cases x y zs c)
filtered_step p x y ys zs false h rest c = let r = rest c in (contains_there x y ys r.0, r.1)

pub contains-filtered : {X : Type 0} (p : X → Bool) (x : X) (xs : List X) → Contains (filter p xs) x → Contains xs x × (p x ≡ true)
contains-filtered p x [] c = absurd (contains_none x c)
contains-filtered p x (y ∷ ys) c = filtered_step p x y ys (filter p ys) (p y) refl (λ k. contains-filtered p x ys k) c

found_step : {X : Type 0} (p : X → Bool) (x y : X) (ys : List X) (found : Option X) (b : Bool) → p y ≡ b → (found ≡ Some x → Contains ys x × (p x ≡ true)) → cond b (Some y) found ≡ Some x
    → Contains (y ∷ ys) x × (p x ≡ true)
found_step p x y ys found true h rest e = let is = some_same y x e in (subst (λ z. Contains (y ∷ ys) z) is (contains_here y ys), subst (λ z. p z ≡ true) is h)
found_step p x y ys found false h rest e = let r = rest e in (contains_there x y ys r.0, r.1)

pub contains-found : {X : Type 0} (p : X → Bool) (x : X) (xs : List X) → find p xs ≡ Some x → Contains xs x × (p x ≡ true)
contains-found p x [] e = absurd (no e)
  where
    no : {X : Type 0} {x : X} → None ≡ Some x → ⊥
    no e = cc
contains-found p x (y ∷ ys) e = found_step p x y ys (find p ys) (p y) refl (λ k. contains-found p x ys k) e

-- ---- each two elements, the earlier one first
abbrev pub Pairwise : {X : Type 0} → (X → X → Type 0) → List X → Type 0
Pairwise R [] = Unit {0}
Pairwise {X = X} R (x ∷ xs) = ((y : X) → Contains xs y → R x y) × Pairwise R xs

pub pairwise-map : {X : Type 0} (R Q : X → X → Type 0) (f : X → X) (xs : List X) → ((x y : X) → Contains xs x → Contains xs y → R x y → Q (f x) (f y)) → Pairwise R xs → Pairwise Q (map f xs)
pairwise-map R Q f [] keeps h = tt
pairwise-map {X = X} R Q f (x ∷ xs) keeps h =
    let first : (y : X) → Contains (map f xs) y → Q (f x) y =
    λ y c. let r = contains-mapped f y xs c in subst (λ z. Q (f x) z) r.1.1 (keeps x r.0 (contains_here x xs) (contains_there r.0 x xs r.1.0) (h.0 r.0 r.1.0)) in
    (first, pairwise-map R Q f xs (λ a b ca cb. keeps a b (contains_there a x xs ca) (contains_there b x xs cb)) h.1)

pub pairwise-filter : {X : Type 0} (R : X → X → Type 0) (p : X → Bool) (xs : List X) → Pairwise R xs → Pairwise R (filter p xs)
pairwise-filter R p [] h = tt
pairwise-filter R p (x ∷ xs) h =
    let rest = pairwise-filter R p xs h.1 in
    cond_both (p x) (x ∷ filter p xs) (filter p xs) (λ zs. Pairwise R zs) (λ _. (λ y c. h.0 y (contains-filtered p y xs c).0, rest)) (λ _. rest)

pub pairwise-push : {X : Type 0} (R : X → X → Type 0) (xs : List X) (y : X) → ((x : X) → Contains xs x → R x y) → Pairwise R xs → Pairwise R (xs ++ y ∷ [])
pairwise-push R [] y each h = (λ x c. absurd (contains_none x c), tt)
pairwise-push {X = X} R (x ∷ xs) y each h =
    let first : (z : X) → Contains (xs ++ y ∷ []) z → R x z =
    λ z c. ⊎_elim (λ (k : Contains xs z). h.0 z k) (λ (e : y ≡ z). subst (λ w. R x w) e (each x (contains_here x xs))) (Contains-push_cases xs y z c) in
    (first, pairwise-push R xs y (λ z c. each z (contains_there z x xs c)) h.1)

-- both relations
pub pairwise-both : {X : Type 0} (R Q : X → X → Type 0) (xs : List X) → Pairwise R xs → Pairwise Q xs → Pairwise (λ x y. R x y × Q x y) xs
pairwise-both R Q [] h k = tt
pairwise-both R Q (x ∷ xs) h k = (λ y c. (h.0 y c, k.0 y c), pairwise-both R Q xs h.1 k.1)

-- two elements that do not meet it in either order are one
pub pairwise-same : {X : Type 0} (R : X → X → Type 0) (xs : List X) (x y : X) → Pairwise R xs → Contains xs x → Contains xs y → (R x y → ⊥) → (R y x → ⊥) → x ≡ y
pairwise-same R [] x y h cx cy far back = absurd (contains_none x cx)
pairwise-same R (z ∷ zs) x y h cx cy far back =
    ⊎_elim
    (λ (e : z ≡ x).
    ⊎_elim
    (λ (f : z ≡ y). sym e ∙ f)
    (λ (f : Contains zs y). absurd (far (subst (λ w. R w y) e (h.0 y f))))
    (contains_cases y z zs cy))
    (λ (e : Contains zs x).
    ⊎_elim
    (λ (f : z ≡ y). absurd (back (subst (λ w. R w x) f (h.0 x e))))
    (λ (f : Contains zs y). pairwise-same R zs x y h.1 e f far back)
    (contains_cases y z zs cy))
    (contains_cases x z zs cx)

-- ---- rows in the order of their ids
pub ids_within : {R : Type 0} (id : R → ℕ) (low next : ℕ) (rows : List R) (r : R) → InOrder id low next rows → Contains rows r → (low ≤ id r) × (id r < next)
ids_within id low next [] r h c = absurd (contains_none r c)
ids_within id low next (s ∷ rows) r h c =
    let parts = first_of id low next s rows h in
    let above = parts.0 in
    let below = parts.1 in
    ⊎_elim
    (λ (e : s ≡ r). subst (λ t. (low ≤ id t) × (id t < next)) e (above, below))
    (λ (k : Contains rows r). let w = ids_within id (id s + 1) next rows r parts.2 k in let u = w.0 in (omega arith, w.1))
    (contains_cases r s rows c)

pub ids_differ : {R : Type 0} (id : R → ℕ) (low next : ℕ) (rows : List R) → InOrder id low next rows → Pairwise (λ r s. id r ≢ id s) rows
ids_differ id low next [] h = tt
ids_differ id low next (r ∷ rows) h =
    let rest = (first_of id low next r rows h).2 in
    (λ s c. let above = (ids_within id (id r + 1) next rows s rest c).0 in omega arith, ids_differ id (id r + 1) next rows rest)

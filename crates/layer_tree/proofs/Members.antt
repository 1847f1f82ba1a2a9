-- Lists of numbers with the same members, and numbers ascending.
use Rattle.std.proofs.Common.{◌≡◌, ◌∙◌, ℕ, zero, suc, ◌<◌, ◌≤◌, Bool, true, false, cond, ◌||◌, ◌==◌, nat_lt, eqb, eqb-true, eq-eqb, List, [], ◌∷◌, length, get_or, arith, refl, sym, ap, subst}
use Rattle.std.specs.List.{Contains, dedup}
use Rattle.std.specs.List.Sorted.{IsPermutation, IsSorted}
use Rattle.std.specs.List.Retain.{IsFiltered, DiffersFromLast}
use Rattle.std.specs.Ordering.{nat_cmp}
use Rattle.std.proofs.lemmas.Bool.Decides.{nat_tests}
use Rattle.std.proofs.lemmas.List.Filters.{dedup_is}
use Rattle.std.proofs.lemmas.List.Kept.{Contains-dedup_nat, Contains-from_dedup}
use Rattle.std.proofs.lemmas.List.Sorted.{Contains-permutation, IsPermutation-sym}
use Rattle.std.proofs.lemmas.Map.Keys.{IsStrictlyIncreasing-dedup, below_from_sorted, sorted_from_strictly_increasing}
use Rattle.drawing.specs.Descent.{ascending, insert_number}
use Rattle.drawing.specs.Relations.{is_among}

abbrev pub Same : List ℕ → List ℕ → Type 0
Same xs ys = (m : ℕ) → is_among m xs ≡ is_among m ys

-- ---- tests
pub same_bool : (a b : Bool) → (a ≡ true → b ≡ true) → (b ≡ true → a ≡ true) → a ≡ b
same_bool true b f g = sym (f refl)
same_bool false true f g = let e = g refl in absurd cc
same_bool false false f g = refl

itself : (n : ℕ) → (n == n) ≡ true
itself n = eq-eqb n n refl

unlike : (n m : ℕ) → n < m → (n == m) ≡ false
unlike n m h = grind (arith, nat_tests)

unlike' : (n m : ℕ) → m < n → (n == m) ≡ false
unlike' n m h = grind (arith, nat_tests)

swap : (a b c : Bool) → (a || (b || c)) ≡ (b || (a || c))
swap true true c = refl
swap true false c = refl
swap false b c = refl

twice : (a c : Bool) → (a || c) ≡ (a || (a || c))
twice true c = refl
twice false c = refl

-- ---- what ascending keeps
among_insert : (m n : ℕ) (xs : List ℕ) → is_among m (insert_number n xs) ≡ (n == m || is_among m xs)
among_insert m n [] = refl
among_insert m n (x ∷ xs) = by (nat_lt n x) (n == x) refl (among_insert m n xs)
  where
    by : (a b : Bool) → (n == x) ≡ b → is_among m (insert_number n xs) ≡ (n == m || is_among m xs)
        → is_among m (cond a (n ∷ x ∷ xs) (cond b (x ∷ xs) (x ∷ insert_number n xs))) ≡ (n == m || (x == m || is_among m xs))
    by true b q ih = refl
    by false true q ih =
        let same : n ≡ x = eqb-true n x q in
        subst (λ k. (x == m || is_among m xs) ≡ (k == m || (x == m || is_among m xs))) (sym same) (twice (x == m) (is_among m xs))
    by false false q ih = ap (λ c. x == m || c) ih ∙ swap (x == m) (n == m) (is_among m xs)

pub among_ascending : (m : ℕ) (xs : List ℕ) → is_among m (ascending xs) ≡ is_among m xs
among_ascending m [] = refl
among_ascending m (x ∷ xs) = among_insert m x (ascending xs) ∙ ap (λ c. x == m || c) (among_ascending m xs)

-- ---- numbers that rise from a number on
abbrev pub Rising : ℕ → List ℕ → Type 0
Rising low [] = Unit {0}
Rising low (x ∷ xs) = (low ≤ x) × Rising (suc x) xs

rising_insert : (low n : ℕ) (xs : List ℕ) → low ≤ n → Rising low xs → Rising low (insert_number n xs)
rising_insert low n [] h r = (h, tt)
rising_insert low n (x ∷ xs) h r = by (nat_lt n x) (n == x) refl refl (rising_insert (suc x) n xs)
  where
    by : (a b : Bool) → nat_lt n x ≡ a → (n == x) ≡ b → (suc x ≤ n → Rising (suc x) xs → Rising (suc x) (insert_number n xs))
        → Rising low (cond a (n ∷ x ∷ xs) (cond b (x ∷ xs) (x ∷ insert_number n xs)))
    by true b p q ih = (h, (grind (arith, nat_tests), r.1))
    by false true p q ih = r
    by false false p q ih = (r.0, ih (grind (arith, nat_tests)) r.1)

rising_ascending : (xs : List ℕ) → Rising 0 (ascending xs)
rising_ascending [] = tt
rising_ascending (x ∷ xs) = rising_insert 0 x (ascending xs) (omega arith) (rising_ascending xs)

not_below : (low m : ℕ) (xs : List ℕ) → Rising low xs → m < low → is_among m xs ≡ false
not_below low m [] r h = refl
not_below low m (x ∷ xs) r h =
    let first : (x == m) ≡ false = unlike' x m (omega (arith, r.0)) in
    let rest : is_among m xs ≡ false = not_below (suc x) m xs r.1 (omega (arith, r.0)) in
    ap (λ c. c || is_among m xs) first ∙ rest

-- two that rise and have the same members are one
no_first : (y x : ℕ) (xs ys : List ℕ) → Rising (suc y) ys → Same (x ∷ xs) (y ∷ ys) → x < y → ⊥
no_first y x xs ys r s h =
    let left : is_among x (x ∷ xs) ≡ true = ap (λ c. c || is_among x xs) (itself x) in
    let right : is_among x (y ∷ ys) ≡ false = ap (λ c. c || is_among x ys) (unlike' y x h) ∙ not_below (suc y) x ys r (omega arith) in
    let e : true ≡ false = sym left ∙ s x ∙ right in
    absurd cc

same_first : (x y : ℕ) (xs ys : List ℕ) → Rising (suc x) xs → Rising (suc y) ys → Same (x ∷ xs) (y ∷ ys) → x ≡ y
same_first x y xs ys r q s = by (nat_lt x y) (nat_lt y x) refl refl
  where
    by : (a b : Bool) → nat_lt x y ≡ a → nat_lt y x ≡ b → x ≡ y
    by true b p o = absurd (no_first y x xs ys q s (grind (arith, nat_tests)))
    by false true p o = absurd (no_first x y ys xs r (λ m. sym (s m)) (grind (arith, nat_tests)))
    by false false p o = grind (arith, nat_tests)

same_rest : (x : ℕ) (xs ys : List ℕ) → Rising (suc x) xs → Rising (suc x) ys → Same (x ∷ xs) (x ∷ ys) → Same xs ys
same_rest x xs ys r q s m = by (nat_lt x m) refl
  where
    by : (a : Bool) → nat_lt x m ≡ a → is_among m xs ≡ is_among m ys
    by true p =
        let other : (x == m) ≡ false = unlike x m (grind (arith, nat_tests)) in
        sym (ap (λ c. c || is_among m xs) other) ∙ s m ∙ ap (λ c. c || is_among m ys) other
    by false p = not_below (suc x) m xs r (grind (arith, nat_tests)) ∙ sym (not_below (suc x) m ys q (grind (arith, nat_tests)))

rising_same : (low high : ℕ) (xs ys : List ℕ) → Rising low xs → Rising high ys → Same xs ys → xs ≡ ys
rising_same low high [] [] r q s = refl
rising_same low high [] (y ∷ ys) r q s = let e : false ≡ true = s y ∙ ap (λ c. c || is_among y ys) (itself y) in absurd cc
rising_same low high (x ∷ xs) [] r q s = let e : true ≡ false = sym (ap (λ c. c || is_among x xs) (itself x)) ∙ s x in absurd cc
rising_same low high (x ∷ xs) (y ∷ ys) r q s =
    let first = same_first x y xs ys r.1 q.1 s in
    let behind : Rising (suc x) ys = subst (λ k. Rising (suc k) ys) (sym first) q.1 in
    let same : Same (x ∷ xs) (x ∷ ys) = subst (λ k. Same (x ∷ xs) (k ∷ ys)) (sym first) s in
    let rest = rising_same (suc x) (suc x) xs ys r.1 behind (same_rest x xs ys r.1 behind same) in
    ap (λ l. x ∷ l) rest ∙ ap (λ k. k ∷ ys) first

pub ascending_same : (xs ys : List ℕ) → Same xs ys → ascending xs ≡ ascending ys
ascending_same xs ys s =
    rising_same 0 0 (ascending xs) (ascending ys) (rising_ascending xs) (rising_ascending ys) (λ m. among_ascending m xs ∙ s m ∙ sym (among_ascending m ys))

-- ---- sorted, and then each once
contains_of : (m : ℕ) (xs : List ℕ) → is_among m xs ≡ true → Contains xs m
contains_of m [] h = absurd cc
contains_of m (x ∷ xs) h = by (x == m) refl h (contains_of m xs)
  where
    by : (a : Bool) → (x == m) ≡ a → (a || is_among m xs) ≡ true → (is_among m xs ≡ true → Contains xs m) → Contains (x ∷ xs) m
    by true p q rest = (0, omega arith, eqb-true x m p)
    by false p q rest = let c = rest q in (suc c.0, omega (arith, c.1), c.2)

among_at : (m k : ℕ) (xs : List ℕ) (c : Contains xs m) → c.0 ≡ k → is_among m xs ≡ true
among_at m k [] c e = absurd (omega (arith, c.1))
among_at m k (x ∷ xs) (zero, h, is) e = ap (λ b. b || is_among m xs) (eq-eqb x m is)
among_at m k (x ∷ xs) (suc i, h, is) e = by (x == m) (among_at m i xs (i, omega arith, is) refl)
  where
    by : (a : Bool) → is_among m xs ≡ true → (a || is_among m xs) ≡ true
    by true rest = refl
    by false rest = rest

among_of : (m : ℕ) (xs : List ℕ) → Contains xs m → is_among m xs ≡ true
among_of m xs c = among_at m c.0 xs c refl

-- each is below all later ones
abbrev Rise : List ℕ → Type 0
Rise xs = (i j : ℕ) → i < j → j < length xs → get_or xs i 0 < get_or xs j 0

rising_from : (x low : ℕ) (xs : List ℕ) → Rise (x ∷ xs) → low ≤ x → Rising low (x ∷ xs)
rising_from x low [] up h = (h, tt)
rising_from x low (y ∷ ys) up h =
    let next : x < y = up 0 1 (omega arith) (omega arith) in
    (h, rising_from y (suc x) ys (λ i j k m. up (suc i) (suc j) (omega arith) (omega arith)) next)

rising_of : (xs : List ℕ) → Rise xs → Rising 0 xs
rising_of [] up = tt
rising_of (x ∷ xs) up = rising_from x 0 xs up (omega arith)

pub sorted_ascending : (xs sorted ys : List ℕ) → IsPermutation xs sorted → IsSorted nat_cmp sorted → IsFiltered (DiffersFromLast eqb) [] sorted ys → ys ≡ ascending xs
sorted_ascending xs sorted ys p s f =
    let is : ys ≡ dedup eqb sorted = dedup_is eqb sorted ys f in
    let rises : Rising 0 (dedup eqb sorted) = rising_of (dedup eqb sorted) (λ i j h k. below_from_sorted (dedup eqb sorted) i j 0 (sorted_from_strictly_increasing (dedup eqb sorted) (IsStrictlyIncreasing-dedup sorted s)) h k) in
    is ∙ rising_same 0 0 (dedup eqb sorted) (ascending xs) rises (rising_ascending xs)
    (λ m. same_bool (is_among m (dedup eqb sorted)) (is_among m xs)
    (λ h. among_of m xs (Contains-permutation sorted xs m (IsPermutation-sym xs sorted p) (Contains-from_dedup eqb sorted m (contains_of m (dedup eqb sorted) h))))
    (λ h. among_of m (dedup eqb sorted) (Contains-dedup_nat sorted m (Contains-permutation xs sorted m p (contains_of m xs h))))
    ∙ sym (among_ascending m xs))

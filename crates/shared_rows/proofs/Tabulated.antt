-- Lists of the values of a function.
use Rattle.std.proofs.Common.{◌≡◌, ℕ, zero, suc, ◌+◌, ◌<◌, ◌≤◌, ◌≢◌, Bool, false, IsTrue, [], ◌∷◌, ◌++◌, length, Option, None, set, get_or, ap, ap₂, refl, arith, add-one}
use Rattle.shared_rows.specs.Places.{slot_at}
use Rattle.shared_rows.specs.Slotted.{tabulate}

pub length-tabulate : {X : Type 0} (f : ℕ → X) (n : ℕ) → length (tabulate f n) ≡ n
unfolding tabulate
length-tabulate f zero = refl
length-tabulate f (suc n) = ap suc (length-tabulate (λ k. f (suc k)) n)

-- functions with the same values
pub same_tabulated : {X : Type 0} (f g : ℕ → X) (n : ℕ) → ((k : ℕ) → k < n → g k ≡ f k) → tabulate g n ≡ tabulate f n
unfolding tabulate
same_tabulated f g zero same = refl
same_tabulated f g (suc n) same =
    ap₂ (λ x xs. x ∷ xs) (same zero (omega arith)) (same_tabulated (λ k. f (suc k)) (λ k. g (suc k)) n (λ k h. same (suc k) (omega arith)))

-- another value at one place
pub set_tabulated : {X : Type 0} (f g : ℕ → X) (n i : ℕ) (v : X) → g i ≡ v → ((k : ℕ) → k ≢ i → g k ≡ f k) → tabulate g n ≡ set (tabulate f n) i v
unfolding tabulate
set_tabulated f g zero i v here same = refl
set_tabulated f g (suc n) zero v here same =
    ap₂ (λ x xs. x ∷ xs) here (same_tabulated (λ k. f (suc k)) (λ k. g (suc k)) n (λ k h. same (suc k) (omega arith)))
set_tabulated f g (suc n) (suc i) v here same =
    ap₂ (λ x xs. x ∷ xs) (same zero (omega arith)) (set_tabulated (λ k. f (suc k)) (λ k. g (suc k)) n i v here (λ k ne. same (suc k) (omega arith)))

-- a value more behind the last
more_tabulated : {X : Type 0} (f g : ℕ → X) (n : ℕ) (v : X) → g n ≡ v → ((k : ℕ) → k ≢ n → g k ≡ f k) → tabulate g (suc n) ≡ tabulate f n ++ v ∷ []
unfolding tabulate
more_tabulated f g zero v here same = ap (λ x. x ∷ []) here
more_tabulated f g (suc n) v here same =
    ap₂ (λ x xs. x ∷ xs) (same zero (omega arith)) (more_tabulated (λ k. f (suc k)) (λ k. g (suc k)) n v here (λ k ne. same (suc k) (omega arith)))

pub pushed_tabulated : {X : Type 0} (f g : ℕ → X) (n : ℕ) (v : X) → g n ≡ v → ((k : ℕ) → k ≢ n → g k ≡ f k) → tabulate g (n + 1) ≡ tabulate f n ++ v ∷ []
pushed_tabulated f g n v here same = rw (add-one n) (more_tabulated f g n v here same)

-- what stands at a place
pub slot_tabulated : {R : Type 0} (f : ℕ → Option R) (n k : ℕ) → k < n → slot_at (tabulate f n) k ≡ f k
unfolding tabulate
slot_tabulated f zero k h = absurd (omega arith)
slot_tabulated f (suc n) zero h = refl
slot_tabulated f (suc n) (suc k) h = slot_tabulated (λ i. f (suc i)) n k (omega arith)

pub slot_past : {R : Type 0} (f : ℕ → Option R) (n k : ℕ) → n ≤ k → slot_at (tabulate f n) k ≡ None
unfolding tabulate
slot_past f zero k h = refl
slot_past f (suc n) zero h = absurd (omega arith)
slot_past f (suc n) (suc k) h = slot_past (λ i. f (suc i)) n k (omega arith)

-- whether a place is open
pub opened_tabulated : (f : ℕ → Bool) (n k : ℕ) → k < n → get_or (tabulate f n) k false ≡ f k
unfolding tabulate
opened_tabulated f zero k h = absurd (omega arith)
opened_tabulated f (suc n) zero h = refl
opened_tabulated f (suc n) (suc k) h = opened_tabulated (λ i. f (suc i)) n k (omega arith)

pub opened_kept : (f g : ℕ → Bool) (n : ℕ) → ((k : ℕ) → IsTrue (f k) → IsTrue (g k)) → (k : ℕ) → IsTrue (get_or (tabulate f n) k false) → IsTrue (get_or (tabulate g n) k false)
unfolding tabulate
opened_kept f g zero kept k h = h
opened_kept f g (suc n) kept zero h = kept zero h
opened_kept f g (suc n) kept (suc k) h = opened_kept (λ i. f (suc i)) (λ i. g (suc i)) n (λ i. kept (suc i)) k h

-- no place is open
pub nothing_opened : (f : ℕ → Bool) (n : ℕ) → ((k : ℕ) → f k ≡ false) → (k : ℕ) → get_or (tabulate f n) k false ≡ false
unfolding tabulate
nothing_opened f zero none k = refl
nothing_opened f (suc n) none zero = none zero
nothing_opened f (suc n) none (suc k) = nothing_opened (λ i. f (suc i)) n (λ i. none (suc i)) k

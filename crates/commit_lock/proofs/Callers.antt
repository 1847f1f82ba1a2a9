-- For callers: passes by their index, and passes that stand in the order of their numbers.
use Rattle.std.proofs.Common.{◌≡◌, ℕ, zero, suc, ◌+◌, ◌-◌, ◌<◌, ◌≤◌, List, [], ◌∷◌, length, refl, sym, ap, ◌∙◌, arith}
use Rattle.std.specs.Prelude.{Any, slice_index_or}
use Rattle.atomic_table.specs.Seated.{TableId}
use Rattle.commit_lock.specs.declared.view.Origin.{Origin}
use Rattle.commit_lock.specs.Passes.{PassValue, new_pass, new_passes}

pub element : {A : Type 0} (xs : List A) (i : ℕ) → i < length xs → (x : A) × ((d : A) → slice_index_or xs i d ≡ x)
element [] i h = absurd (omega arith)
element (x ∷ xs) zero h = (x, λ d. refl)
element (x ∷ xs) (suc i) h = element xs i (omega arith)

pub all_in_order : (xs : List PassValue) (n : ℕ) → n ≤ length xs → ((i : ℕ) (d : PassValue) → i < n → (slice_index_or xs i d).number ≡ i + 1) → (k : ℕ) → 1 ≤ k → k ≤ n → Any (λ (p : PassValue). p.number ≡ k) xs
all_in_order xs n long each zero lo hi = absurd (omega arith)
all_in_order xs n long each (suc k) lo hi =
    let e = element xs k (omega arith) in
    let number : (slice_index_or xs k e.0).number ≡ k + 1 = each k e.0 (omega arith) in
    let next : k + 1 ≡ suc k = omega arith in
    (k, e.0, (omega arith), e.1 e.0, ap (λ (p : PassValue). p.number) (sym (e.1 e.0)) ∙ (number ∙ next))

pub new_passes-at : (z : TableId) (o : Origin) (c k m i : ℕ) (d : PassValue) → i < m → slice_index_or (new_passes z o c k m) i d ≡ new_pass z o c (k + i)
new_passes-at z o c k zero i d h = absurd (omega arith)
new_passes-at z o c k (suc m) zero d h = ap (new_pass z o c) (let e : k ≡ k + 0 = omega arith in e)
new_passes-at z o c k (suc m) (suc i) d h = new_passes-at z o c (k + 1) m i d (omega arith) ∙ ap (new_pass z o c) (let e : k + 1 + i ≡ k + suc i = omega arith in e)

-- passes that stand in the other order
pub all_reversed : (xs : List PassValue) (n : ℕ) → n ≤ length xs → ((i : ℕ) (d : PassValue) → i < n → (slice_index_or xs i d).number + i ≡ n) → (k : ℕ) → 1 ≤ k → k ≤ n → Any (λ (p : PassValue). p.number ≡ k) xs
all_reversed xs n long each k lo hi =
    let e = element xs (n - k) (omega arith) in
    let at : (slice_index_or xs (n - k) e.0).number + (n - k) ≡ n = each (n - k) e.0 (omega arith) in
    let number : (slice_index_or xs (n - k) e.0).number ≡ k = omega arith in
    (n - k, e.0, (omega arith), e.1 e.0, ap (λ (p : PassValue). p.number) (sym (e.1 e.0)) ∙ number)

-- a fact of each place
abbrev pub EachAt : {A : Type 0} → (ℕ → A → Type 0) → List A → Type 0
EachAt P xs = (i : ℕ) (d : _) → i < length xs → P i (slice_index_or xs i d)

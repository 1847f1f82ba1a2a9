use Rattle.std.proofs.Common.{rules, ◌≡◌, ℕ, ◌≤◌, [], ◌∷◌, List, arith, refl, sym, subst, zero, suc}
use Rattle.std.specs.Prelude.{Any}
use Rattle.commit_lock.specs.Passes.{PassValue}
use Rattle.commit_lock.proofs.tests.two_threads_and_a_note.Goals as goal

pair_has : (xs : List PassValue) (a b : PassValue) → xs ≡ a ∷ b ∷ [] → a.number ≡ 1 → b.number ≡ 2 → (k : ℕ) → 1 ≤ k → k ≤ 2 → Any (λ (p : PassValue). p.number ≡ k) xs
pair_has xs a b is one two k lo hi = subst (λ (l : List PassValue). Any (λ (p : PassValue). p.number ≡ k) l) (sym is) (by_number k lo hi one two)
  where
    by_number : (k : ℕ) → 1 ≤ k → k ≤ 2 → a.number ≡ 1 → b.number ≡ 2 → Any (λ (p : PassValue). p.number ≡ k) (a ∷ b ∷ [])
    by_number zero lo hi one two = absurd (omega arith)
    by_number (suc zero) lo hi one two = (0, a, omega arith, refl, one)
    by_number (suc (suc zero)) lo hi one two = (1, b, omega arith, refl, two)
    by_number (suc (suc (suc k))) lo hi one two = absurd (omega arith)

pub close-book-requires-clause-all : goal.close-book-requires-clause-all
close-book-requires-clause-all g c k lo hi = pair_has _ c.learn_and_take-one.result.0 c.learn_and_take-one.result.1 (search rules) (search rules) (search rules) k lo (search rules)

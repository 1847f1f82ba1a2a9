-- The laws of a ring for ℤ, and a set of them for `simp` that multiplies products out.
use Rattle.std.proofs.Common.{◌≡◌, ℕ, sym, ◌∙◌, ap, subst, arith, ℤ, ◌+ℤ◌, ◌*ℤ◌}
use Rattle.std.specs.Prelude.{neg_ℤ}
use Rattle.std.proofs.Math.IntN.{*ℤ_comm}
use borrow.Author.Differences.{up, down, fits_out, same_out, Apart-out, lt_T, le_T, lt_not, le_not, lt-true, lt-false, le-true, le-false, true-lt, false-lt, true-le, false-le, lt_out, le_out, same_in, lt_in, le_in, below_in, at_most_in, sum_is_lem, neg_is}
use Rattle.plane.proofs.Diff.{diff, diff_is, diff-same, diffs}

by_parts : (P : ℤ → Type 0) → ((a b : ℕ) → P (diff a b)) → (z : ℤ) → P z
by_parts P f z = subst P (sym (diff_is z)) (f (up z) (down z))

assoc' : (a a' b b' c c' : ℕ) → (diff a a' *ℤ diff b b') *ℤ diff c c' ≡ diff a a' *ℤ (diff b b' *ℤ diff c c')
assoc' a a' b b' c c' = simp diffs (diff-same _ _ _ _ (omega arith))

pub mul_assoc : (a b c : ℤ) → (a *ℤ b) *ℤ c ≡ a *ℤ (b *ℤ c)
mul_assoc a b c =
    by_parts (λ x. (x *ℤ b) *ℤ c ≡ x *ℤ (b *ℤ c)) (λ x x'.
    by_parts (λ y. (diff x x' *ℤ y) *ℤ c ≡ diff x x' *ℤ (y *ℤ c)) (λ y y'.
    by_parts (λ z. (diff x x' *ℤ diff y y') *ℤ z ≡ diff x x' *ℤ (diff y y' *ℤ z)) (λ z z'. assoc' x x' y y' z z') c) b) a

distrib' : (a a' b b' c c' : ℕ) → diff a a' *ℤ (diff b b' +ℤ diff c c') ≡ diff a a' *ℤ diff b b' +ℤ diff a a' *ℤ diff c c'
distrib' a a' b b' c c' = simp diffs (diff-same _ _ _ _ (omega arith))

pub mul_add : (a b c : ℤ) → a *ℤ (b +ℤ c) ≡ a *ℤ b +ℤ a *ℤ c
mul_add a b c =
    by_parts (λ x. x *ℤ (b +ℤ c) ≡ x *ℤ b +ℤ x *ℤ c) (λ x x'.
    by_parts (λ y. diff x x' *ℤ (y +ℤ c) ≡ diff x x' *ℤ y +ℤ diff x x' *ℤ c) (λ y y'.
    by_parts (λ z. diff x x' *ℤ (diff y y' +ℤ z) ≡ diff x x' *ℤ diff y y' +ℤ diff x x' *ℤ z) (λ z z'. distrib' x x' y y' z z') c) b) a

pub add_mul : (a b c : ℤ) → (a +ℤ b) *ℤ c ≡ a *ℤ c +ℤ b *ℤ c
add_mul a b c = *ℤ_comm (a +ℤ b) c ∙ mul_add c a b ∙ cc (*ℤ_comm c a, *ℤ_comm c b)

neg' : (a a' b b' : ℕ) → diff a a' *ℤ neg_ℤ (diff b b') ≡ neg_ℤ (diff a a' *ℤ diff b b')
neg' a a' b b' = simp diffs (diff-same _ _ _ _ (omega arith))

pub mul_neg : (a b : ℤ) → a *ℤ neg_ℤ b ≡ neg_ℤ (a *ℤ b)
mul_neg a b =
    by_parts (λ x. x *ℤ neg_ℤ b ≡ neg_ℤ (x *ℤ b)) (λ x x'.
    by_parts (λ y. diff x x' *ℤ neg_ℤ y ≡ neg_ℤ (diff x x' *ℤ y)) (λ y y'. neg' x x' y y') b) a

pub neg_mul : (a b : ℤ) → neg_ℤ a *ℤ b ≡ neg_ℤ (a *ℤ b)
neg_mul a b = *ℤ_comm (neg_ℤ a) b ∙ mul_neg b a ∙ ap neg_ℤ (*ℤ_comm b a)

pub mul_left_comm : (a b c : ℤ) → a *ℤ (b *ℤ c) ≡ b *ℤ (a *ℤ c)
mul_left_comm a b c = sym (mul_assoc a b c) ∙ cc (*ℤ_comm a b) ∙ mul_assoc b a c

pub mul_comm : (a b : ℤ) → a *ℤ b ≡ b *ℤ a
mul_comm a b = *ℤ_comm a b

-- multiplies out, and sorts the factors of each product
pub ruleset multiplied = (mul_add, add_mul, mul_neg, neg_mul, mul_assoc, mul_comm, mul_left_comm)

-- for `omega`: signed numbers, with each product as an unknown
pub ruleset signed = (fits_out, same_out, Apart-out, lt_T, le_T, lt_not, le_not, lt-true, lt-false, le-true, le-false, true-lt, false-lt, true-le, false-le, lt_out, le_out, same_in, lt_in, le_in, below_in, at_most_in, sum_is_lem, neg_is)

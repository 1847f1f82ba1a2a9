-- How many times an entry is in a list, and that lists with equal numbers are permutations of each other.
use Rattle.std.proofs.Common.{◌≡◌, ◌∙◌, ℕ, ◌+◌, ◌<◌, List, [], ◌∷◌, ◌++◌, Bool, true, false, ◌&&◌, cond, eqb, sum_by, sym, ap, subst, refl, arith, IsPermutation}
use Rattle.std.specs.List.{flat_map}
use Rattle.std.proofs.lemmas.List.Sorted.{IsPermutation-refl, IsPermutation-cons, IsPermutation-middle, IsPermutation-sym, IsPermutation-trans, sum_by-IsPermutation}
use Rattle.std.proofs.lemmas.List.Sums.{sum_by-cons, sum_by-append}
use Rattle.box_index.specs.declared.entry.Entry.{Entry}
use Rattle.box_index.proofs.Same.{same_box, entry_decides}

abbrev same_entry : Entry → Entry → Bool
same_entry x y = eqb x.id y.id && same_box x.bounds y.bounds

-- 1 for the entry, 0 for another
abbrev pub once : Entry → Entry → ℕ
once x y = cond (same_entry x y) 1 0

abbrev pub times : Entry → List Entry → ℕ
times x es = sum_by (once x) es

once_own : (x : Entry) → once x x ≡ 1
once_own x = ap (λ (b : Bool). cond b 1 0) ((entry_decides x x (same_entry x x) refl).1 refl)

pub times_permuted : (x : Entry) (xs ys : List Entry) → IsPermutation xs ys → times x xs ≡ times x ys
times_permuted x xs ys moved = sym (sum_by-IsPermutation (once x) xs ys moved)

pub times_append : (x : Entry) (xs ys : List Entry) → times x (xs ++ ys) ≡ times x xs + times x ys
times_append x xs ys = sum_by-append (once x) xs ys

pub times_flat : {R : Type 0} (x : Entry) (f : R → List Entry) (rows : List R) → times x (flat_map f rows) ≡ sum_by (λ r. times x (f r)) rows
times_flat x f [] = refl
times_flat x f (r ∷ rows) = times_append x (f r) (flat_map f rows) ∙ ap (λ n. times x (f r) + n) (times_flat x f rows) ∙ sym (sum_by-cons (λ r. times x (f r)) r rows)

-- an entry that is in a list comes first in a permutation of it
record IsTaken (x : Entry) (ys : List Entry) : Type 0 where
  rest : List Entry
  moved : IsPermutation ys (x ∷ rest)

taken : (x : Entry) (ys : List Entry) → 0 < times x ys → IsTaken x ys
taken x [] some = absurd (omega arith)
taken x (y ∷ ys) some = by (same_entry x y) refl (taken x ys)
  where
    by : (b : Bool) → same_entry x y ≡ b → (0 < times x ys → IsTaken x ys) → IsTaken x (y ∷ ys)
    by true is later =
        let same : x ≡ y = (entry_decides x y (same_entry x y) refl).0 is in
        record { rest = ys; moved = subst (λ (z : Entry). IsPermutation (y ∷ ys) (z ∷ ys)) (sym same) (IsPermutation-refl (y ∷ ys)) }
    by false is later =
        let none : once x y ≡ 0 = ap (λ (b : Bool). cond b 1 0) is in
        let t = later (omega (arith, some, none, sum_by-cons (once x) y ys)) in
        record {
          rest = y ∷ t.rest;
          moved = IsPermutation-trans (y ∷ ys) (y ∷ x ∷ t.rest) (x ∷ y ∷ t.rest) (IsPermutation-cons y ys (x ∷ t.rest) t.moved) (IsPermutation-middle (y ∷ []) x t.rest);
        }

pub permuted : (xs ys : List Entry) → ((x : Entry) → times x xs ≡ times x ys) → IsPermutation xs ys
permuted [] [] same = IsPermutation-refl []
permuted [] (y ∷ ys) same = absurd (omega (arith, same y, once_own y, sum_by-cons (once y) y ys))
permuted (x ∷ xs) ys same =
    let t = taken x ys (omega (arith, same x, once_own x, sum_by-cons (once x) x xs)) in
    let rest : (z : Entry) → times z xs ≡ times z t.rest =
    λ z. omega (arith, same z, sum_by-cons (once z) x xs, sum_by-cons (once z) x t.rest, times_permuted z ys (x ∷ t.rest) t.moved) in
    IsPermutation-trans (x ∷ xs) (x ∷ t.rest) ys (IsPermutation-cons x xs t.rest (permuted xs t.rest rest)) (IsPermutation-sym ys (x ∷ t.rest) t.moved)

-- What a search by id answers, where ids ascend.
use Rattle.std.proofs.Common.{◌≡◌, ◌≢◌, ℕ, zero, suc, ◌+◌, ◌<◌, ◌≤◌, refl, sym, subst, ap, ◌∙◌, arith, ⊎_elim, cond, List, [], ◌∷◌, length, get_or, Result, Ok, Err, Some, None}
use Rattle.std.specs.Prelude.{IsTrue, nat_lt, slice_get, option_and_then, Bool}
use Rattle.std.specs.List.{find}
use Rattle.std.specs.List.Sorted.{IsBinarySearchResult, IsSearchInRange}
use Rattle.std.specs.Result.{result_ok}
use Rattle.std.specs.Ordering.{nat_cmp}
use Rattle.std.specs.Cmp.{nat_cmp_is}
use Rattle.std.specs.declared.cmp.Ordering.TheVariants.{Less, Equal, Greater}
use Rattle.std.proofs.lemmas.Bool.{and_parts, ltb-true, cases_lt, ne_eqb, eq-eqb}
use Rattle.std.proofs.lemmas.Cmp.{nat_cmp_total}
use Rattle.std.proofs.lemmas.List.Sorted.{searchable_from_sorted}
use Rattle.std.proofs.lemmas.Option.{slice_get_cases}
use Rattle.drawing.specs.Rows.{row_at}
use Rattle.validate_topology.specs.Ascending.{numbers_ascend}

-- each id is above the first number, and below those behind it
pub above : {R : Type 0} (number : R → ℕ) (low : ℕ) (rows : List R) (j : ℕ) (d : R) → IsTrue (numbers_ascend number low rows) → j < length rows → low < number (get_or rows j d)
above number low [] j d h w = absurd (omega arith)
above number low (r ∷ rows) zero d h w = ltb-true low (number r) ((and_parts (nat_lt low (number r)) (numbers_ascend number (number r) rows) h).0)
above number low (r ∷ rows) (suc j) d h w =
    let parts = and_parts (nat_lt low (number r)) (numbers_ascend number (number r) rows) h in
    let first = ltb-true low (number r) parts.0 in
    let rest = above number (number r) rows j d parts.1 (omega arith) in
    omega arith

pub rises : {R : Type 0} (number : R → ℕ) (low : ℕ) (rows : List R) (i j : ℕ) (d : R) → IsTrue (numbers_ascend number low rows) → i < j → j < length rows
    → number (get_or rows i d) < number (get_or rows j d)
rises number low [] i j d h l w = absurd (omega arith)
rises number low (r ∷ rows) i zero d h l w = absurd (omega arith)
rises number low (r ∷ rows) zero (suc j) d h l w = above number (number r) rows j d ((and_parts (nat_lt low (number r)) (numbers_ascend number (number r) rows) h).1) (omega arith)
rises number low (r ∷ rows) (suc i) (suc j) d h l w = rises number (number r) rows i j d ((and_parts (nat_lt low (number r)) (numbers_ascend number (number r) rows) h).1) (omega arith) (omega arith)

-- the row at a place is the row of its id
at_place : {R : Type 0} (number : R → ℕ) (low : ℕ) (rows : List R) (i : ℕ) (d : R) → IsTrue (numbers_ascend number low rows) → i < length rows → row_at number rows (number (get_or rows i d)) ≡ Some (get_or rows i d)
at_place number low [] i d h w = absurd (omega arith)
at_place number low (r ∷ rows) zero d h w = ap (λ (b : Bool). cond b (Some r) (row_at number rows (number r))) (eq-eqb (number r) (number r) refl)
at_place number low (r ∷ rows) (suc i) d h w =
    let rest = (and_parts (nat_lt low (number r)) (numbers_ascend number (number r) rows) h).1 in
    let more = above number (number r) rows i d rest (omega arith) in
    let id = number (get_or rows i d) in
    ap (λ (b : Bool). cond b (Some r) (row_at number rows id)) (ne_eqb (number r) id (λ e. omega arith)) ∙ at_place number (number r) rows i d rest (omega arith)

-- no row has this id
absent : {R : Type 0} (number : R → ℕ) (rows : List R) (n : ℕ) → ((k : ℕ) (d : R) → k < length rows → number (get_or rows k d) ≢ n) → row_at number rows n ≡ None
absent number [] n h = refl
absent number (r ∷ rows) n h =
    ap (λ (b : Bool). cond b (Some r) (row_at number rows n)) (ne_eqb (number r) n (h 0 r (omega arith))) ∙ absent number rows n (λ k d w. h (suc k) d (omega arith))

-- what the order of two numbers says
less_apart : (x y : ℕ) → nat_cmp x y ≡ Less → x ≢ y
less_apart x y h e = let same : Equal ≡ nat_cmp x y = nat_cmp_is x y Equal e in cc

more_apart : (x y : ℕ) → nat_cmp x y ≡ Greater → x ≢ y
more_apart x y h e = let same : Equal ≡ nat_cmp x y = nat_cmp_is x y Equal e in cc

equal_same : (x y : ℕ) → nat_cmp x y ≡ Equal → x ≡ y
equal_same x y h =
    ⊎_elim
    (λ (l : x < y). absurd (let less : Less ≡ nat_cmp x y = nat_cmp_is x y Less l in cc))
    (λ (l : y ≤ x). ⊎_elim
    (λ (m : y < x). absurd (let more : Greater ≡ nat_cmp x y = nat_cmp_is x y Greater m in cc))
    (λ (m : x ≤ y). omega arith)
    (cases_lt y x))
    (cases_lt x y)

pub looked_up : {R : Type 0} (number : R → ℕ) (rows : List R) (n : ℕ) (r : Result ℕ ℕ) → IsTrue (numbers_ascend number 0 rows) → IsSearchInRange r (length rows)
    → IsBinarySearchResult (λ y. nat_cmp (number y) n) rows r → row_at number rows n ≡ option_and_then (slice_get rows) (result_ok r)
looked_up number rows n (Ok i) up within h =
    ⊎_elim
    (λ there. let same = equal_same _ n (h there.0) in subst (λ (m : ℕ). row_at number rows m ≡ Some (get_or rows i there.0)) same (at_place number 0 rows i there.0 up within) ∙ ap (λ x. Some x) there.3 ∙ sym there.2)
    (λ past. absurd (omega (arith, past.0)))
    ((slice_get_cases rows i).1)
looked_up {R} number rows n (Err i) up within h =
    let sorted = λ (k : ℕ) (d : R) (l : 0 ≤ k) (w : k + 1 < length rows). ap Rattle.std.specs.Ordering.is_lt (sym (nat_cmp_is (number (get_or rows (k + 1) d)) (number (get_or rows k d)) Greater (rises number 0 rows k (k + 1) d up (omega arith) w))) in
    let parts = h (searchable_from_sorted nat_cmp_total number rows n sorted) in
    absent number rows n (λ k d w. ⊎_elim
    (λ (l : k < i). less_apart _ n (parts.0 k d (omega arith) l))
    (λ (l : i ≤ k). more_apart _ n (parts.1 k d l w))
    (cases_lt k i))

-- Reading so many fields one after the other, as a loop does.
use Rattle.std.proofs.Common.{◌≡◌, ℕ, zero, suc, length, ◌-◌, ◌+◌, ◌≤◌, ◌<◌, List, [], ◌∷◌, ◌++◌, Option, Some, None, option_and_then, refl, sym, ap, ◌∙◌, append_assoc, arith}
use Rattle.std.proofs.lemmas.List.{append-nil}
use Rattle.table_dump.specs.declared.ends.LineEnd.{LineEnd}
use Rattle.table_dump.specs.declared.ends.LineEnd.TheVariants.{Bad, Memory}
use Rattle.table_dump.specs.Words.{Reads, many}
use Rattle.table_dump.specs.Words.{Fails}

-- what was read before, and what is still read
abbrev pub with_front : {A : Type 0} → List A → Option (List A × List (List ℕ)) → Option (List A × List (List ℕ))
with_front front read = option_and_then (λ x. Some (front ++ x.0, x.1)) read

regroup : {A : Type 0} (front : List A) (x : A) (read : Option (List A × List (List ℕ))) → with_front front (option_and_then (λ xs. Some (x ∷ xs.0, xs.1)) read) ≡ with_front (front ++ x ∷ []) read
regroup front x (Some y) = ap (λ xs. Some (xs, y.1)) (sym (append_assoc front (x ∷ []) y.0))
regroup front x None = refl

pub goes_on : {A : Type 0} (read : Reads A) (front : List A) (count i : ℕ) (words : List (List ℕ)) (x : A) (after : List (List ℕ)) (total : Option (List A × List (List ℕ))) → i < count → read words ≡ Some (x, after)
    → with_front front (many read (count - i) words) ≡ total → with_front (front ++ x ∷ []) (many read (count - (i + 1)) after) ≡ total
goes_on read front count i words x after total lt h so_far =
    let k : count - i ≡ suc (count - (i + 1)) = omega arith in
    let one : with_front front (many read (count - i) words) ≡ with_front (front ++ x ∷ []) (many read (count - (i + 1)) after) = rw (k, h) (regroup front x (many read (count - (i + 1)) after)) in
    sym one ∙ so_far

pub ends : {A : Type 0} (read : Reads A) (e : LineEnd) (front : List A) (count i : ℕ) (words : List (List ℕ)) (total : Option (List A × List (List ℕ))) → i < count → Fails e (read words)
    → with_front front (many read (count - i) words) ≡ total → Fails e total
ends read Memory front count i words total lt h so_far = tt
ends read Bad front count i words total lt h so_far =
    let k : count - i ≡ suc (count - (i + 1)) = omega arith in
    let one : with_front front (many read (count - i) words) ≡ None = rw (k, h) refl in
    sym so_far ∙ one

pub is_done : {A : Type 0} (read : Reads A) (front : List A) (count i : ℕ) (words : List (List ℕ)) (total : Option (List A × List (List ℕ))) → count ≤ i → with_front front (many read (count - i) words) ≡ total
    → total ≡ Some (front, words)
is_done read front count i words total le so_far =
    let k : count - i ≡ 0 = omega arith in
    let one : with_front front (many read (count - i) words) ≡ Some (front, words) = rw k (ap (λ xs. Some (xs, words)) (append-nil front)) in
    sym so_far ∙ one

-- the value of a step that read something
pub then_read : {A B : Type 0} (o : Option A) (f : A → Option B) (y : B) → option_and_then f o ≡ Some y → (x : A) × (o ≡ Some x) × (f x ≡ Some y)
then_read (Some x) f y e = (x, refl, e)
then_read None f y e = absurd cc

abbrev pub found : {A : Type 0} → A → Option A
found x = Some x

pub same_found : {A : Type 0} (x y : A) → found x ≡ found y → x ≡ y
same_found x y e = cc

pub many_length : {A : Type 0} (read : Reads A) (n : ℕ) (words : List (List ℕ)) (xs : List A) (rest : List (List ℕ)) → many read n words ≡ Some (xs, rest) → length xs ≡ n
many_length read zero words xs rest e = let same = same_found ([], words) (xs, rest) e in ap (λ p. length p.0) (sym same)
many_length {A = A} read (suc n) words xs rest e =
    let one = then_read (read words) (λ x. option_and_then (λ ys. Some (x.0 ∷ ys.0, ys.1)) (many read n x.1)) (xs, rest) e in
    let two = then_read (many read n one.0.1) (λ ys. Some (one.0.0 ∷ ys.0, ys.1)) (xs, rest) one.2 in
    let made : List A × List (List ℕ) = (one.0.0 ∷ two.0.0, two.0.1) in
    let same = same_found made (xs, rest) two.2 in
    ap (λ (p : List A × List (List ℕ)). length p.0) (sym same) ∙ ap suc (many_length read n one.0.1 two.0.0 two.0.1 two.1)

-- Values that stand by the ids of rows, where the one of an id is set.
use Rattle.std.proofs.Common.{◌≡◌, ◌∙◌, ℕ, zero, suc, ◌+◌, ◌<◌, ◌≤◌, Bool, true, false, ◌==◌, cond, if◌then◌else◌, IsTrue, List, [], ◌∷◌, ◌++◌, length, map, take, get_or, flat_map, Some, None, refl, sym, ap, arith}
use Rattle.std.specs.Prelude.{nat_lt, slice_get, slice_set}
use Rattle.std.proofs.lemmas.Bool.{and_parts, ne_eqb, eq-eqb, eqb-true}
use Rattle.std.proofs.lemmas.Bool.Decides.{Decides-eqb, Decides-like, same_from_decides}
use Rattle.std.proofs.lemmas.Option.{slice_get-get_or}
use Rattle.std.proofs.lemmas.List.{get_or-map, take_more, append-nil}
use Rattle.std.proofs.lemmas.List.Concat.{flat_map-append}
use Rattle.drawing.specs.Rows.{row_at}
use Rattle.plane.proofs.ListTests.{some_same}
use Rattle.validate_topology.specs.Ascending.{numbers_ascend}
use Rattle.validate_topology.proofs.Lookups.{above}

found_at : {R : Type 0} (number : R → ℕ) (rows : List R) (n : ℕ) (r : R) → row_at number rows n ≡ Some r → number r ≡ n
found_at number [] n r e = absurd cc
found_at {R} number (x ∷ rows) n r e = pick (found_at number rows n r) (number x == n) refl e
  where
    pick : (row_at number rows n ≡ Some r → number r ≡ n) → (b : Bool) → (number x == n) ≡ b → cond b (Some x) (row_at number rows n) ≡ Some r → number r ≡ n
    pick behind true h k = ap number (sym (some_same x r k)) ∙ eqb-true (number x) n h
    pick behind false h k = behind k

-- ids above a number aren't that number
pub others_stay : {R V : Type 0} (number : R → ℕ) (low : ℕ) (rows : List R) (f : ℕ → V) (n : ℕ) (w : V) → IsTrue (numbers_ascend number low rows) → n ≤ low
    → map (λ r. f (number r)) rows ≡ map (λ r. if number r == n then w else f (number r)) rows
others_stay number low [] f n w up h = refl
others_stay number low (r ∷ rows) f n w up h =
    let more = above number low (r ∷ rows) 0 r up (omega arith) in
    let rest = (and_parts (nat_lt low (number r)) (numbers_ascend number (number r) rows) up).1 in
    let first = ap (λ (b : Bool). cond b w (f (number r))) (ne_eqb (number r) n (λ e. omega arith)) in
    λ i. sym first i ∷ others_stay number (number r) rows f n w rest (omega arith) i

pub set_by : {R V : Type 0} (number : R → ℕ) (low : ℕ) (rows : List R) (f : ℕ → V) (n p : ℕ) (w : V) → IsTrue (numbers_ascend number low rows) → p < length rows
    → row_at number rows n ≡ slice_get rows p → slice_set (map (λ r. f (number r)) rows) p w ≡ map (λ r. if number r == n then w else f (number r)) rows
set_by number low [] f n p w up within e = absurd (omega arith)
set_by number low (r ∷ rows) f n zero w up within e =
    let is = found_at number (r ∷ rows) n r e in
    let rest = (and_parts (nat_lt low (number r)) (numbers_ascend number (number r) rows) up).1 in
    let first = ap (λ (b : Bool). cond b w (f (number r))) (eq-eqb (number r) n is) in
    λ i. sym first i ∷ others_stay number (number r) rows f n w rest (omega arith) i
set_by number low (r ∷ rows) f n (suc p) w up within e =
    let rest = (and_parts (nat_lt low (number r)) (numbers_ascend number (number r) rows) up).1 in
    let y = get_or rows p r in
    let got : slice_get rows p ≡ Some y = slice_get-get_or rows p r (omega arith) in
    let is = found_at number (r ∷ rows) n y (e ∙ got) in
    let more = above number (number r) rows p r rest (omega arith) in
    let other = ne_eqb (number r) n (λ k. omega arith) in
    let first = ap (λ (b : Bool). cond b w (f (number r))) other in
    let behind = sym (ap (λ (b : Bool). cond b (Some r) (row_at number rows n)) other) ∙ e in
    λ i. sym first i ∷ set_by number (number r) rows f n p w rest (omega arith) behind i

pub none_by : {R V : Type 0} (number : R → ℕ) (rows : List R) (f : ℕ → V) (n : ℕ) (w : V) → row_at number rows n ≡ None
    → map (λ r. f (number r)) rows ≡ map (λ r. if number r == n then w else f (number r)) rows
none_by number [] f n w e = refl
none_by {R} {V} number (x ∷ rows) f n w e = pick (none_by number rows f n w) (number x == n) refl e
  where
    pick : (row_at number rows n ≡ None → map (λ r. f (number r)) rows ≡ map (λ r. if number r == n then w else f (number r)) rows) → (b : Bool) → (number x == n) ≡ b → cond b (Some x) (row_at number rows n) ≡ None
        → map (λ r. f (number r)) (x ∷ rows) ≡ map (λ r. if number r == n then w else f (number r)) (x ∷ rows)
    pick behind true h k = absurd cc
    pick behind false h k = let first = ap (λ (b : Bool). cond b w (f (number x))) h in λ i. sym first i ∷ behind k i

pub value_by : {R V : Type 0} (number : R → ℕ) (rows : List R) (f : ℕ → V) (n p : ℕ) (v : V) → p < length rows → row_at number rows n ≡ slice_get rows p
    → get_or (map (λ r. f (number r)) rows) p v ≡ f n
value_by number [] f n p v within e = absurd (omega arith)
value_by number (r ∷ rows) f n p v within e =
    let y = get_or (r ∷ rows) p r in
    get_or-map (λ x. f (number x)) (r ∷ rows) p r v within ∙ ap f (found_at number (r ∷ rows) n y (e ∙ slice_get-get_or (r ∷ rows) p r within))

-- the lines of one row more
pub flat_more : {X Y : Type 0} (f : X → List Y) (xs : List X) (i : ℕ) (x : X) → i < length xs → x ≡ get_or xs i x → flat_map f (take (i + 1) xs) ≡ flat_map f (take i xs) ++ f x
flat_more f xs i x h e =
    ap (flat_map f) (take_more xs i x h ∙ (λ k. take i xs ++ sym e k ∷ [])) ∙ flat_map-append f (take i xs) (x ∷ [])
    ∙ ap (λ ys. flat_map f (take i xs) ++ ys) (append-nil (f x))

pub turned_test : (a b : ℕ) → (a == b) ≡ (b == a)
turned_test a b = same_from_decides (a == b) (b == a) (Decides-eqb a b) (Decides-like (b == a) (λ e. sym e) (λ e. sym e) (Decides-eqb b a))

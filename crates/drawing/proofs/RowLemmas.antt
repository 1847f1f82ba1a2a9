-- Rows by id after a change of the rows, and the places that hold them.
use Rattle.std.proofs.Common.{◌≡◌, ◌≢◌, ℕ, Bool, ◌||◌, length, zero, suc, ◌+◌, ◌-◌, ◌<◌, List, [], ◌∷◌, ◌++◌, set, Option, Some, None, cond, true, false, not, eqb, refl, sym, ap, ◌∙◌, arith, eq-eqb, ne_eqb, eqb-true, option_map}
use Rattle.std.proofs.lemmas.List.Folds.{find-append}
use Rattle.std.specs.Option.{option_or}
use Rattle.std.specs.List.{list_any}
use Rattle.std.specs.Prelude.{flat_map, is_some, IsTrue, slice_get, option_and_then}
use Rattle.drawing.specs.Rows.{row_at, has_row, without_row, with_change}
use Rattle.topo_base.specs.declared.ids.Dart.{Dart}
use Rattle.topo_base.specs.declared.rows.EdgeRow.{EdgeRow}
use Rattle.topo_base.specs.declared.write.Hand.{Hand}
use Rattle.topo_base.specs.declared.write.Hand.TheVariants.{Left, Right}
use Rattle.drawing.specs.Writes.{edge_row_id, with_next, with_side}
use Rattle.drawing.specs.Places.{rows_of, itself, at_place, at_slot, in_slot, IsInPlace}

-- ---- a row that has gone
pub row_at-without_same : {R : Type 0} (id : R → ℕ) (rows : List R) (n : ℕ) → row_at id (without_row id rows n) n ≡ None
row_at-without_same id [] n = refl
row_at-without_same id (r ∷ rows) n =
    elim (eqb (id r) n) as (λ b. eqb (id r) n ≡ b → row_at id (cond (not b) (r ∷ without_row id rows n) (without_row id rows n)) n ≡ None) [
      | true ↦ λ e. row_at-without_same id rows n
      | false ↦ λ e. ap (λ b. cond b (Some r) (row_at id (without_row id rows n) n)) e ∙ row_at-without_same id rows n
    ] refl

pub row_at-without_other : {R : Type 0} (id : R → ℕ) (rows : List R) (n m : ℕ) → m ≢ n → row_at id (without_row id rows n) m ≡ row_at id rows m
row_at-without_other id [] n m differ = refl
row_at-without_other id (r ∷ rows) n m differ =
    elim (eqb (id r) n) as (λ b. eqb (id r) n ≡ b → row_at id (cond (not b) (r ∷ without_row id rows n) (without_row id rows n)) m ≡ row_at id (r ∷ rows) m) [
      | true ↦ λ e. row_at-without_other id rows n m differ ∙ sym (ap (λ b. cond b (Some r) (row_at id rows m)) (ne_eqb (id r) m (λ f. differ (sym f ∙ eqb-true (id r) n e))))
      | false ↦ λ e. ap (λ o. cond (eqb (id r) m) (Some r) o) (row_at-without_other id rows n m differ)
    ] refl

-- ---- a row that has changed, and keeps its id
pub row_at-change_other : {R : Type 0} (id : R → ℕ) (rows : List R) (n m : ℕ) (change : R → R) → ((r : R) → id (change r) ≡ id r) → m ≢ n
    → row_at id (with_change id rows n change) m ≡ row_at id rows m
row_at-change_other id [] n m change keeps differ = refl
row_at-change_other id (r ∷ rows) n m change keeps differ =
    elim (eqb (id r) n) as (λ b. eqb (id r) n ≡ b → cond (eqb (id (cond b (change r) r)) m) (Some (cond b (change r) r)) (row_at id (with_change id rows n change) m) ≡ row_at id (r ∷ rows) m) [
      | true ↦ λ e.
          let other : eqb (id r) m ≡ false = ne_eqb (id r) m (λ f. differ (sym f ∙ eqb-true (id r) n e)) in
          ap (λ b. cond b (Some (change r)) (row_at id (with_change id rows n change) m)) (ap (λ k. eqb k m) (keeps r) ∙ other)
          ∙ row_at-change_other id rows n m change keeps differ ∙ sym (ap (λ b. cond b (Some r) (row_at id rows m)) other)
      | false ↦ λ e. ap (λ o. cond (eqb (id r) m) (Some r) o) (row_at-change_other id rows n m change keeps differ)
    ] refl

pub row_at-change_same : {R : Type 0} (id : R → ℕ) (rows : List R) (n : ℕ) (change : R → R) → ((r : R) → id (change r) ≡ id r)
    → row_at id (with_change id rows n change) n ≡ option_map change (row_at id rows n)
row_at-change_same id [] n change keeps = refl
row_at-change_same id (r ∷ rows) n change keeps =
    elim (eqb (id r) n) as (λ b. eqb (id r) n ≡ b → cond (eqb (id (cond b (change r) r)) n) (Some (cond b (change r) r)) (row_at id (with_change id rows n change) n) ≡ option_map change (cond b (Some r) (row_at id rows n))) [
      | true ↦ λ e. ap (λ b. cond b (Some (change r)) (row_at id (with_change id rows n change) n)) (ap (λ k. eqb k n) (keeps r) ∙ e)
      | false ↦ λ e. ap (λ b. cond b (Some r) (row_at id (with_change id rows n change) n)) e ∙ row_at-change_same id rows n change keeps
    ] refl

-- ---- a row that has come
pub row_at-append : {R : Type 0} (id : R → ℕ) (rows : List R) (r : R) (n : ℕ) → row_at id (rows ++ r ∷ []) n ≡ option_or (row_at id rows n) (cond (eqb (id r) n) (Some r) None)
row_at-append id rows r n = find-append (λ s. eqb (id s) n) rows (r ∷ [])

-- ---- the places
-- no row behind the place of n has an id below n
pub row_at-before : {R : Type 0} (id : R → ℕ) (places : List (Option R)) (n m : ℕ) → IsInPlace id n places → m < n → row_at id (rows_of places) m ≡ None
row_at-before id [] n m h below = refl
row_at-before id (None ∷ places) n m h below = row_at-before id places (n + 1) m h (omega arith)
row_at-before id (Some r ∷ places) n m h below =
    let other : eqb (id r) m ≡ false = ne_eqb (id r) m (λ f. absurd (let e = h.0 in omega arith)) in
    ap (λ b. cond b (Some r) (row_at id (rows_of places) m)) other ∙ row_at-before id places (n + 1) m h.1 (omega arith)

-- looking up a row by its id is looking at its place
pub row_at_place : {R : Type 0} (id : R → ℕ) (places : List (Option R)) (n i : ℕ) → IsInPlace id n places → row_at id (rows_of places) (n + i) ≡ at_place places i
row_at_place id [] n i h = refl
row_at_place id (None ∷ places) n zero h = row_at-before id places (n + 1) (n + 0) h (omega arith)
row_at_place id (None ∷ places) n (suc i) h =
    let e : n + suc i ≡ n + 1 + i = omega arith in
    ap (λ k. row_at id (rows_of places) k) e ∙ row_at_place id places (n + 1) i h
row_at_place id (Some r ∷ places) n zero h =
    let e : id r ≡ n + 0 = omega (arith, h.0) in
    ap (λ b. cond b (Some r) (row_at id (rows_of places) (n + 0))) (eq-eqb (id r) (n + 0) e)
row_at_place id (Some r ∷ places) n (suc i) h =
    let e : n + suc i ≡ n + 1 + i = omega arith in
    let other : eqb (id r) (n + suc i) ≡ false = ne_eqb (id r) (n + suc i) (λ f. absurd (omega (arith, h.0, f))) in
    ap (λ b. cond b (Some r) (row_at id (rows_of places) (n + suc i))) other
    ∙ ap (λ k. row_at id (rows_of places) k) e ∙ row_at_place id places (n + 1) i h.1

-- emptying a place leaves the rows without its row
without_before : {R : Type 0} (id : R → ℕ) (places : List (Option R)) (n m : ℕ) → IsInPlace id n places → m < n → without_row id (rows_of places) m ≡ rows_of places
without_before id [] n m h below = refl
without_before id (None ∷ places) n m h below = without_before id places (n + 1) m h (omega arith)
without_before id (Some r ∷ places) n m h below =
    let other : eqb (id r) m ≡ false = ne_eqb (id r) m (λ f. absurd (let e = h.0 in omega arith)) in
    ap (λ b. cond (not b) (r ∷ without_row id (rows_of places) m) (without_row id (rows_of places) m)) other
    ∙ ap (λ rs. r ∷ rs) (without_before id places (n + 1) m h.1 (omega arith))

pub rows_of-emptied : {R : Type 0} (id : R → ℕ) (places : List (Option R)) (n i : ℕ) → IsInPlace id n places → rows_of (set places i None) ≡ without_row id (rows_of places) (n + i)
rows_of-emptied id [] n i h = refl
rows_of-emptied id (None ∷ places) n zero h = sym (without_before id places (n + 1) (n + 0) h (omega arith))
rows_of-emptied id (None ∷ places) n (suc i) h =
    let e : n + 1 + i ≡ n + suc i = omega arith in
    rows_of-emptied id places (n + 1) i h ∙ ap (λ k. without_row id (rows_of places) k) e
rows_of-emptied id (Some r ∷ places) n zero h =
    let e : id r ≡ n + 0 = omega (arith, h.0) in
    sym (ap (λ b. cond (not b) (r ∷ without_row id (rows_of places) (n + 0)) (without_row id (rows_of places) (n + 0))) (eq-eqb (id r) (n + 0) e)
    ∙ without_before id places (n + 1) (n + 0) h.1 (omega arith))
rows_of-emptied id (Some r ∷ places) n (suc i) h =
    let e : n + 1 + i ≡ n + suc i = omega arith in
    let other : eqb (id r) (n + suc i) ≡ false = ne_eqb (id r) (n + suc i) (λ f. absurd (omega (arith, h.0, f))) in
    ap (λ rs. r ∷ rs) (rows_of-emptied id places (n + 1) i h.1 ∙ ap (λ k. without_row id (rows_of places) k) e)
    ∙ sym (ap (λ b. cond (not b) (r ∷ without_row id (rows_of places) (n + suc i)) (without_row id (rows_of places) (n + suc i))) other)

-- changing what stands at a place leaves the rows with the change of its row
change_before : {R : Type 0} (id : R → ℕ) (places : List (Option R)) (n m : ℕ) (change : R → R) → IsInPlace id n places → m < n → with_change id (rows_of places) m change ≡ rows_of places
change_before id [] n m change h below = refl
change_before id (None ∷ places) n m change h below = change_before id places (n + 1) m change h (omega arith)
change_before id (Some r ∷ places) n m change h below =
    let other : eqb (id r) m ≡ false = ne_eqb (id r) m (λ f. absurd (let e = h.0 in omega arith)) in
    ap (λ b. cond b (change r) r ∷ with_change id (rows_of places) m change) other
    ∙ ap (λ rs. r ∷ rs) (change_before id places (n + 1) m change h.1 (omega arith))

pub rows_of-changed : {R : Type 0} (id : R → ℕ) (places : List (Option R)) (n i : ℕ) (change : R → R) → IsInPlace id n places
    → rows_of (set places i (option_map change (at_place places i))) ≡ with_change id (rows_of places) (n + i) change
rows_of-changed id [] n i change h = refl
rows_of-changed id (None ∷ places) n zero change h = sym (change_before id places (n + 1) (n + 0) change h (omega arith))
rows_of-changed id (None ∷ places) n (suc i) change h =
    let e : n + 1 + i ≡ n + suc i = omega arith in
    rows_of-changed id places (n + 1) i change h ∙ ap (λ k. with_change id (rows_of places) k change) e
rows_of-changed id (Some r ∷ places) n zero change h =
    let e : id r ≡ n + 0 = omega (arith, h.0) in
    sym (ap (λ b. cond b (change r) r ∷ with_change id (rows_of places) (n + 0) change) (eq-eqb (id r) (n + 0) e)
    ∙ ap (λ rs. change r ∷ rs) (change_before id places (n + 1) (n + 0) change h.1 (omega arith)))
rows_of-changed id (Some r ∷ places) n (suc i) change h =
    let e : n + 1 + i ≡ n + suc i = omega arith in
    let other : eqb (id r) (n + suc i) ≡ false = ne_eqb (id r) (n + suc i) (λ f. absurd (omega (arith, h.0, f))) in
    ap (λ rs. r ∷ rs) (rows_of-changed id places (n + 1) i change h.1 ∙ ap (λ k. with_change id (rows_of places) k change) e)
    ∙ sym (ap (λ b. cond b (change r) r ∷ with_change id (rows_of places) (n + suc i) change) other)

-- the same at an id, where the row stands at its place
pub rows_of-change : {R : Type 0} (id : R → ℕ) (places : List (Option R)) (n : ℕ) (change : R → R) (r : R) → IsInPlace id 1 places → 0 < n → slice_get places (n - 1) ≡ Some (Some r)
    → rows_of (set places (n - 1) (Some (change r))) ≡ with_change id (rows_of places) n change
rows_of-change id places n change r h some stands =
    let e : 1 + (n - 1) ≡ n = omega arith in
    ap (λ o. rows_of (set places (n - 1) (option_map change o))) (sym (ap (option_and_then itself) stands))
    ∙ rows_of-changed id places 1 (n - 1) change h ∙ ap (λ k. with_change id (rows_of places) k change) e

-- a row more behind the last place
pub rows_of-append : {R : Type 0} (places : List (Option R)) (r : R) → rows_of (places ++ Some r ∷ []) ≡ rows_of places ++ r ∷ []
rows_of-append [] r = refl
rows_of-append (None ∷ places) r = rows_of-append places r
rows_of-append (Some s ∷ places) r = ap (λ rs. s ∷ rs) (rows_of-append places r)

-- the same at an id, where the first place is that of 1
pub row_at-none : {R : Type 0} (id : R → ℕ) (places : List (Option R)) → IsInPlace id 1 places → row_at id (rows_of places) 0 ≡ None
row_at-none id places h = row_at-before id places 1 0 h (omega arith)

pub row_at-some : {R : Type 0} (id : R → ℕ) (places : List (Option R)) (n : ℕ) → IsInPlace id 1 places → 0 < n → at_place places (n - 1) ≡ row_at id (rows_of places) n
row_at-some id places n h some =
    let e : 1 + (n - 1) ≡ n = omega arith in
    sym (row_at_place id places 1 (n - 1) h) ∙ ap (row_at id (rows_of places)) e

pub rows_of-without : {R : Type 0} (id : R → ℕ) (places : List (Option R)) (n : ℕ) → IsInPlace id 1 places → 0 < n → rows_of (set places (n - 1) None) ≡ without_row id (rows_of places) n
rows_of-without id places n h some =
    let e : 1 + (n - 1) ≡ n = omega arith in
    rows_of-emptied id places 1 (n - 1) h ∙ ap (without_row id (rows_of places)) e

-- an emptied place keeps the others in place
pub IsInPlace-emptied : {R : Type 0} (id : R → ℕ) (places : List (Option R)) (n i : ℕ) → IsInPlace id n places → IsInPlace id n (set places i None)
IsInPlace-emptied id [] n i h = h
IsInPlace-emptied id (None ∷ places) n zero h = h
IsInPlace-emptied id (None ∷ places) n (suc i) h = IsInPlace-emptied id places (n + 1) i h
IsInPlace-emptied id (Some r ∷ places) n zero h = h.1
IsInPlace-emptied id (Some r ∷ places) n (suc i) h = (h.0, IsInPlace-emptied id places (n + 1) i h.1)

-- a row that another with its id stands for is in place
pub IsInPlace-changed : {R : Type 0} (id : R → ℕ) (places : List (Option R)) (n i : ℕ) (r s : R) → IsInPlace id n places → slice_get places i ≡ Some (Some r) → id s ≡ id r
    → IsInPlace id n (set places i (Some s))
IsInPlace-changed id [] n i r s h stands same = tt
IsInPlace-changed id (None ∷ places) n zero r s h stands same = absurd cc
IsInPlace-changed id (None ∷ places) n (suc i) r s h stands same = IsInPlace-changed id places (n + 1) i r s h stands same
IsInPlace-changed id (Some t ∷ places) n zero r s h stands same = let e : r ≡ t = cc in (same ∙ ap id e ∙ h.0, h.1)
IsInPlace-changed id (Some t ∷ places) n (suc i) r s h stands same = (h.0, IsInPlace-changed id places (n + 1) i r s h.1 stands same)

-- a row more behind the last place stands at the place of its id
pub IsInPlace-append : {R : Type 0} (id : R → ℕ) (places : List (Option R)) (n : ℕ) (r : R) → IsInPlace id n places → id r ≡ n + length places → IsInPlace id n (places ++ Some r ∷ [])
IsInPlace-append id [] n r h e = (omega arith, tt)
IsInPlace-append id (None ∷ places) n r h e = IsInPlace-append id places (n + 1) r h (omega arith)
IsInPlace-append id (Some s ∷ places) n r h e = (h.0, IsInPlace-append id places (n + 1) r h.1 (omega arith))

-- what is printed, or listed, of each place is what is printed of each row
pub flat_map-places : {R A : Type 0} (f : R → List A) (places : List (Option R)) → flat_map (at_slot f) places ≡ flat_map f (rows_of places)
flat_map-places f [] = refl
flat_map-places f (None ∷ places) = flat_map-places f places
flat_map-places f (Some r ∷ places) = ap (λ rest. f r ++ rest) (flat_map-places f places)

-- a test of each place is the test of each row
pub list_any-places : {R : Type 0} (p : R → Bool) (places : List (Option R)) → list_any (in_slot p) places ≡ list_any p (rows_of places)
list_any-places p [] = refl
list_any-places p (None ∷ places) = list_any-places p places
list_any-places p (Some r ∷ places) = ap (λ b. p r || b) (list_any-places p places)

-- a row is found where there is one
pub is_some-row_at : {R : Type 0} (id : R → ℕ) (rows : List R) (n : ℕ) → is_some (row_at id rows n) ≡ has_row id rows n
is_some-row_at id [] n = refl
is_some-row_at id (r ∷ rows) n =
    elim (eqb (id r) n) as (λ b. is_some (cond b (Some r) (row_at id rows n)) ≡ (b || has_row id rows n)) [ true ↦ refl | false ↦ is_some-row_at id rows n ]

-- where there is a row of an id, it stands at the place of the id
pub record Stands {R : Type 0} (places : List (Option R)) (n : ℕ) : Type 0 where
  pub some : 0 < n
  pub row : R
  pub here : slice_get places (n - 1) ≡ Some (Some row)

pub has_row-stands : {R : Type 0} (id : R → ℕ) (places : List (Option R)) (n : ℕ) → IsInPlace id 1 places → IsTrue (has_row id (rows_of places) n) → Stands places n
has_row-stands id places zero h there = absurd (let none = row_at-none id places h in let some = is_some-row_at id (rows_of places) 0 in cc)
has_row-stands {R = R} id places (suc k) h there =
    let some : is_some (at_place places (suc k - 1)) ≡ true = ap is_some (row_at-some id places (suc k) h (omega arith)) ∙ is_some-row_at id (rows_of places) (suc k) ∙ there in
    found (slice_get places (suc k - 1)) refl some
  where
    found : (o : Option (Option R)) → slice_get places (suc k - 1) ≡ o → is_some (option_and_then itself o) ≡ true → Stands places (suc k)
    found None e s = absurd cc
    found (Some None) e s = absurd cc
    found (Some (Some r)) e s = record { some = omega arith; row = r; here = e }

-- a link or a side of an edge has nothing to do with its id
pub next-id : (hand : Hand) (d : Dart) (e : EdgeRow) → edge_row_id (with_next hand d e) ≡ edge_row_id e
next-id Left d e = refl
next-id Right d e = refl

pub side-id : (hand : Hand) (f : ℕ) (e : EdgeRow) → edge_row_id (with_side hand f e) ≡ edge_row_id e
side-id Left f e = refl
side-id Right f e = refl

-- Rows at their places, and what drops or changes one.
use Rattle.std.proofs.Common.{◌≡◌, ◌∙◌, ℕ, ◌+◌, ◌-◌, ◌<◌, ◌^◌, List, ◌++◌, ◌∷◌, [], Option, Some, None, Result, Ok, set, IsTrue, length, sym, ap, subst, arith, refl, Bool, true, Bor, length-set, length-append}
use Rattle.std.specs.Option.{option_copied}
use Rattle.std.specs.Prelude.{is_some, is_ok, if◌then◌else◌}
use Rattle.std.specs.List.{slice_index_or}
use Rattle.std.proofs.lemmas.Option.{slice_get_within, get_or_from_slice_get}
use Rattle.drawing.specs.Rows.{row_at, has_row, without_row, with_change}
use Rattle.drawing.specs.Places.{rows_of}
use Rattle.drawing.proofs.RowLemmas.{is_some-row_at, Stands, has_row-stands, rows_of-without, rows_of-change, IsInPlace-emptied, IsInPlace-changed, IsInPlace-append}
use Rattle.topo_tables.specs.Placed.{ArePlaces}

pub stands_in : {R : Type 0} (id : R → ℕ) (places : List (Option R)) (rows : List R) (n : ℕ) → ArePlaces id places → rows_of places ≡ rows → IsTrue (has_row id rows n) → Stands places n
stands_in id places rows n h e there = has_row-stands id places n h.in_place (subst (λ (rs : List _). IsTrue (has_row id rs n)) (sym e) there)

pub stands_within : {R : Type 0} (places : List (Option R)) (n : ℕ) → Stands places n → n - 1 < length places
stands_within places n s = slice_get_within places (n - 1) (Some s.row) s.here

pub stands_at : {R : Type 0} (places : List (Option R)) (n : ℕ) (d : Option R) → (s : Stands places n) → slice_index_or places (n - 1) d ≡ Some s.row
stands_at places n d s = get_or_from_slice_get places (n - 1) (Some s.row) d s.here

pub emptied_placed : {R : Type 0} (id : R → ℕ) (places : List (Option R)) (i : ℕ) → ArePlaces id places → ArePlaces id (set places i None)
emptied_placed id places i h = record { in_place = IsInPlace-emptied id places 1 i h.in_place; small = rw length-set h.small }

pub emptied_rows : {R : Type 0} (id : R → ℕ) (places : List (Option R)) (rows : List R) (n : ℕ) → ArePlaces id places → rows_of places ≡ rows → Stands places n → rows_of (set places (n - 1) None) ≡ without_row id rows n
emptied_rows id places rows n h e s = rw (← e) (rows_of-without id places n h.in_place s.some)

-- what stands at the place changed, where the change keeps the id
pub changed_placed : {R : Type 0} (id : R → ℕ) (places : List (Option R)) (n : ℕ) (change : R → R) (cell : Option R) (old new : R) → ((r : R) → id (change r) ≡ id r) → ArePlaces id places → Stands places n
    → cell ≡ slice_index_or places (n - 1) cell → cell ≡ Some old → new ≡ change old → ArePlaces id (set places (n - 1) (Some new))
changed_placed id places n change cell old new keeps h s at is e =
    let there = stands_at places n cell s in
    let same : old ≡ s.row = cc in
    record {
      in_place = IsInPlace-changed id places 1 (n - 1) s.row new h.in_place s.here (ap id e ∙ keeps old ∙ ap id same);
      small = rw length-set h.small;
    }

pub changed_rows : {R : Type 0} (id : R → ℕ) (places : List (Option R)) (rows : List R) (n : ℕ) (change : R → R) (cell : Option R) (old new : R) → ArePlaces id places → rows_of places ≡ rows → Stands places n
    → cell ≡ slice_index_or places (n - 1) cell → cell ≡ Some old → new ≡ change old → rows_of (set places (n - 1) (Some new)) ≡ with_change id rows n change
changed_rows id places rows n change cell old new h e s at is f =
    let there = stands_at places n cell s in
    let k : old ≡ s.row = cc in
    let same : new ≡ change s.row = f ∙ ap change k in
    rw (same, ← e) (rows_of-change id places n change s.row h.in_place s.some s.here)

-- a row more behind the last
pub pushed_placed : {R : Type 0} (id : R → ℕ) (places : List (Option R)) (r : R) (next : ℕ) → ArePlaces id places → length places + 1 ≡ next → id r ≡ next → next + 1 < 2 ^ 32 → ArePlaces id (places ++ Some r ∷ [])
pushed_placed id places r next h e is fits =
    record { in_place = IsInPlace-append id places 1 r h.in_place (omega arith); small = omega (arith, length-append places (Some r ∷ [])) }

pub pushed_items : {R E : Type 0} (places new : List (Option R)) (r : R) (result : Result (Unit {0}) E) (u : Unit {0}) → new ≡ (if is_ok result then places ++ Some r ∷ [] else places) → result ≡ Ok u → new ≡ places ++ Some r ∷ []
pushed_items places new r result u e ok = e ∙ ap (λ (o : Result (Unit {0}) _). if is_ok o then places ++ Some r ∷ [] else places) ok

-- where a row was found there is one
pub is_some-copied : {R : Type 0} (found : Option (Bor R)) → is_some found ≡ is_some (option_copied found)
is_some-copied None = refl
is_some-copied (Some row) = refl

pub has_if_found : {R : Type 0} (id : R → ℕ) (rows : List R) (n m : ℕ) (found : Option (Bor R)) (b : Bool) → b ≡ is_some found → option_copied found ≡ row_at id rows n → n ≡ m → b ≡ has_row id rows m
has_if_found id rows n m found b e is same = e ∙ is_some-copied found ∙ ap is_some is ∙ is_some-row_at id rows n ∙ ap (has_row id rows) same

pub there_if_found : {R : Type 0} (id : R → ℕ) (rows : List R) (n m : ℕ) (found : Option (Bor R)) (b : Bool) → b ≡ is_some found → b ≡ true → option_copied found ≡ row_at id rows n → m ≡ n → IsTrue (has_row id rows m)
there_if_found id rows n m found b e so is same =
    ap (has_row id rows) same ∙ sym (is_some-row_at id rows n) ∙ ap is_some (sym is) ∙ sym (is_some-copied found) ∙ sym e ∙ so

-- The tests of the isolated edits over rows.
use Rattle.std.proofs.Common.{◌≡◌, ℕ, Bool, true, false, not, ◌&&◌, ◌||◌, List, [], ◌∷◌, map, filter, cond, refl, sym, ap, ◌∙◌, Option, Some, eqb, eqb-true, IsTrue}
use Rattle.std.specs.Prelude.{is_some}
use Rattle.std.specs.List.{list_any, list_all}
use Rattle.topo_base.specs.declared.rows.RelationRow.{RelationRow}
use Rattle.drawing.specs.Drawing.{Drawing}
use Rattle.drawing.specs.IsoEdits.{is_in_feature}
use Rattle.drawing.specs.Relations.{lists_element}
use Rattle.drawing.specs.Rows.{row_at, has_row}
use Rattle.drawing.proofs.RowLemmas.{is_some-row_at}

-- ---- whether a feature lists an element, row by row
none_step : {A B : Type 0} (f : A → B) (x : A) (rest : List A) (b c : Bool) → (c ≡ false → map f rest ≡ []) → (b || c) ≡ false → map f (cond b (x ∷ rest) rest) ≡ []
none_step f x rest true c none g = absurd cc
none_step f x rest false c none g = none g

none_met : {A B : Type 0} (p : A → Bool) (f : A → B) (xs : List A) → list_any p xs ≡ false → map f (filter p xs) ≡ []
none_met p f [] h = refl
none_met p f (x ∷ xs) h = none_step f x (filter p xs) (p x) (list_any p xs) (none_met p f xs) h

-- the first that is listed
record Listed {B : Type 0} (ys : List B) : Type 0 where
  first : B
  rest : List B
  is : ys ≡ first ∷ rest

some_step : {A B : Type 0} (f : A → B) (x : A) (rest : List A) (b c : Bool) → (c ≡ true → Listed (map f rest)) → (b || c) ≡ true → Listed (map f (cond b (x ∷ rest) rest))
some_step f x rest true c some g = record { first = f x; rest = map f rest; is = refl }
some_step f x rest false c some g = some g

some_met : {A B : Type 0} (p : A → Bool) (f : A → B) (xs : List A) → list_any p xs ≡ true → Listed (map f (filter p xs))
some_met p f [] h = absurd cc
some_met p f (x ∷ xs) h = some_step f x (filter p xs) (p x) (list_any p xs) (some_met p f xs) h

pub in_feature_is : (S : Drawing) (type id : ℕ) → is_in_feature S type id ≡ list_any (lists_element S type id) S.relations
in_feature_is S type id = by (list_any (lists_element S type id) S.relations) refl
  where
    by : (b : Bool) → list_any (lists_element S type id) S.relations ≡ b → is_in_feature S type id ≡ b
    by false e = rw (none_met (lists_element S type id) (λ (row : RelationRow). row.topogeo_id) S.relations e) refl
    by true e = let l = some_met (lists_element S type id) (λ (row : RelationRow). row.topogeo_id) S.relations e in rw l.is refl

-- ---- all but not all: some not
pub not_all_is : {A : Type 0} (p : A → Bool) (xs : List A) → not (list_all p xs) ≡ list_any (λ x. not (p x)) xs
not_all_is p [] = refl
not_all_is p (x ∷ xs) = not_and (p x) (list_all p xs) ∙ ap (λ b. not (p x) || b) (not_all_is p xs)
  where
    not_and : (b c : Bool) → not (b && c) ≡ (not b || not c)
    not_and true c = refl
    not_and false c = refl

-- ---- a row that was found has its id, and is there
found_step : {R : Type 0} (id : R → ℕ) (n : ℕ) (r x : R) (rest : Option R) (b : Bool) → eqb (id x) n ≡ b → (rest ≡ Some r → id r ≡ n) → cond b (Some x) rest ≡ Some r → id r ≡ n
found_step id n r x rest true e found h = let same : x ≡ r = cc in ap id (sym same) ∙ eqb-true (id x) n e
found_step id n r x rest false e found h = found h

pub found_id : {R : Type 0} (id : R → ℕ) (rows : List R) (n : ℕ) (r : R) → row_at id rows n ≡ Some r → id r ≡ n
found_id id [] n r h = absurd cc
found_id id (x ∷ rows) n r h = found_step id n r x (row_at id rows n) (eqb (id x) n) refl (found_id id rows n r) h

pub found_there : {R : Type 0} (id : R → ℕ) (rows : List R) (n : ℕ) (r : R) → row_at id rows n ≡ Some r → IsTrue (has_row id rows n)
found_there id rows n r h = sym (is_some-row_at id rows n) ∙ ap is_some h

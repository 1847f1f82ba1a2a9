-- A row that a reader of the tables gives.
use Rattle.std.proofs.Common.{◌≡◌, ◌∙◌, sym, ap, Option, Some, Bor, IsTrue, ℕ, List, subst}
use Rattle.std.specs.Option.{option_copied}
use Rattle.drawing.specs.Rows.{row_at, has_row}
use Rattle.drawing_queries.proofs.IsolatedTests.{found_id, found_there}

-- the row that was found, among the rows of the tables
pub found_row : {R : Type 0} (id : R → ℕ) (found : Option (Bor R)) (row : Bor R) (there rows : List R) (n : ℕ) → found ≡ Some row → option_copied found ≡ row_at id there n → there ≡ rows → row_at id rows n ≡ Some (row.now)
found_row id found row there rows n is e same = ap (λ rs. row_at id rs n) (sym same) ∙ sym e ∙ ap option_copied is

-- it is there by its own id
pub own_there : {R : Type 0} (id : R → ℕ) (rows : List R) (n : ℕ) (r : R) → row_at id rows n ≡ Some r → IsTrue (has_row id rows (id r))
own_there id rows n r found = subst (λ k. IsTrue (has_row id rows k)) (sym (found_id id rows n r found)) (found_there id rows n r found)

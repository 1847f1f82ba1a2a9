-- A row behind others whose ids ascend.
use Rattle.std.proofs.Common.{◌≡◌, ℕ, List, [], ◌∷◌, ◌++◌, refl}
use Rattle.std.specs.Prelude.{nat_lt, IsTrue, true}
use Rattle.std.proofs.lemmas.Bool.{and_parts, and_from}
use Rattle.validate_topology.specs.Ascending.{numbers_ascend, last_number}

pub ascend_push : {R : Type 0} (number : R → ℕ) (low : ℕ) (rows : List R) (row : R) → IsTrue (numbers_ascend number low rows) → IsTrue (nat_lt (last_number number low rows) (number row))
    → IsTrue (numbers_ascend number low (rows ++ row ∷ []))
ascend_push number low [] row h k = and_from (nat_lt low (number row)) true k refl
ascend_push number low (r ∷ rows) row h k =
    let parts = and_parts (nat_lt low (number r)) (numbers_ascend number (number r) rows) h in
    and_from (nat_lt low (number r)) (numbers_ascend number (number r) (rows ++ row ∷ [])) parts.0 (ascend_push number (number r) rows row parts.1 k)

pub last_push : {R : Type 0} (number : R → ℕ) (low : ℕ) (rows : List R) (row : R) → last_number number low (rows ++ row ∷ []) ≡ number row
last_push number low [] row = refl
last_push number low (r ∷ rows) row = last_push number (number r) rows row

-- A relation row behind others that ascend.
use Rattle.std.proofs.Common.{◌≡◌, ℕ, zero, suc, ◌+◌, ◌-◌, List, [], ◌∷◌, ◌++◌, length, slice_get, Option, Some, None, refl, sym, arith}
use Rattle.std.specs.Prelude.{IsTrue, true}
use Rattle.std.proofs.lemmas.Bool.{and_parts, and_from}
use Rattle.topo_base.specs.declared.rows.RelationRow.{RelationRow}
use Rattle.validate_topology.specs.RelationOrder.{comes_behind, last_relation, relations_ascend}

last_at : (low : Option RelationRow) (rows : List RelationRow) (row : RelationRow) (k : ℕ) → k + 1 ≡ length rows → Some row ≡ slice_get rows k → last_relation low rows ≡ Some row
last_at low [] row k size e = absurd (omega arith)
last_at low (a ∷ []) row zero size e = sym e
last_at low (a ∷ []) row (suc k) size e = absurd (omega arith)
last_at low (a ∷ b ∷ rows) row zero size e = absurd (omega arith)
last_at low (a ∷ b ∷ rows) row (suc k) size e = last_at (Some a) (b ∷ rows) row k (omega arith) e

none_there : (row : RelationRow) (k : ℕ) → Some row ≡ slice_get [] k → ⊥
none_there row k e = cc

pub last_is : (rows : List RelationRow) (row : RelationRow) → Some row ≡ slice_get rows (length rows - 1) → last_relation None rows ≡ Some row
last_is [] row e = absurd (none_there row 0 e)
last_is (a ∷ rows) row e = last_at None (a ∷ rows) row (length (a ∷ rows) - 1) (omega arith) e

pub relations_push : (low : Option RelationRow) (xs : List RelationRow) (x : RelationRow) → IsTrue (relations_ascend low xs) → IsTrue (comes_behind (last_relation low xs) x) → IsTrue (relations_ascend low (xs ++ x ∷ []))
relations_push low [] x h k = and_from (comes_behind low x) true k refl
relations_push low (y ∷ ys) x h k =
    let here = and_parts (comes_behind low y) (relations_ascend (Some y) ys) h in
    and_from (comes_behind low y) (relations_ascend (Some y) (ys ++ x ∷ [])) here.0 (relations_push (Some y) ys x here.1 k)

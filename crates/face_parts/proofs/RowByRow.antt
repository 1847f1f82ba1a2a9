-- Row writes that go through the rows of a table, one row after another.
use Rattle.std.proofs.Common.{◌≡◌, ℕ, ◌+◌, ◌<◌, ◌≤◌, cond, false, List, [], ◌∷◌, ◌++◌, map, refl, sym, ap, ◌∙◌, eqb, eq-eqb, arith}
use Rattle.std.specs.List.{flat_map}
use Rattle.std.proofs.lemmas.Bool.Decides.{nat_tests}
use Rattle.topo_base.specs.declared.rows.Counters.{Counters}
use Rattle.topo_base.specs.declared.write.RowWrite.{RowWrite}
use Rattle.drawing.specs.Rows.{with_change}
use Rattle.drawing.specs.Tables.{Tables}
use Rattle.drawing.specs.Writes.{all_written}
use Rattle.drawing.proofs.Ordering.{InOrder, first_of}
use Rattle.drawing.proofs.WritesInOrder.{written-append}

abbrev pub AreBelow : {R : Type 0} → (R → ℕ) → ℕ → List R → Type 0
AreBelow id n [] = Unit {0}
AreBelow id n (r ∷ rows) = (id r < n) × AreBelow id n rows

below_wider : {R : Type 0} (id : R → ℕ) (n m : ℕ) (rows : List R) → n ≤ m → AreBelow id n rows → AreBelow id m rows
below_wider id n m [] more h = tt
below_wider id n m (r ∷ rows) more h = let first = h.0 in (omega arith, below_wider id n m rows more h.1)

below_push : {R : Type 0} (id : R → ℕ) (n : ℕ) (rows : List R) (r : R) → AreBelow id n rows → id r < n → AreBelow id n (rows ++ r ∷ [])
below_push id n [] r h small = (small, tt)
below_push id n (s ∷ rows) r h small = (h.0, below_push id n rows r h.1 small)

smaller : (a n : ℕ) → a < n → eqb a n ≡ false
smaller a n h = grind (arith, nat_tests)

larger : (a n : ℕ) → n < a → eqb a n ≡ false
larger a n h = grind (arith, nat_tests)

change_above : {R : Type 0} (id : R → ℕ) (low next : ℕ) (rows : List R) (n : ℕ) (c : R → R) → n < low → InOrder id low next rows → with_change id rows n c ≡ rows
change_above id low next [] n c small h = refl
change_above id low next (r ∷ rows) n c small h =
    let parts = first_of id low next r rows h in
    let above = parts.0 in
    ap (λ b. cond b (c r) r ∷ with_change id rows n c) (larger (id r) n (omega arith)) ∙ ap (λ rs. r ∷ rs) (change_above id (id r + 1) next rows n c (omega arith) parts.2)

-- a change of one row among others
pub change_one : {R : Type 0} (id : R → ℕ) (before rest : List R) (e : R) (next : ℕ) (c : R → R) → AreBelow id (id e) before → InOrder id (id e + 1) next rest
    → with_change id (before ++ e ∷ rest) (id e) c ≡ before ++ c e ∷ rest
change_one id [] rest e next c below order =
    ap (λ b. cond b (c e) e ∷ with_change id rest (id e) c) (eq-eqb (id e) (id e) refl) ∙ ap (λ rs. c e ∷ rs) (change_above id (id e + 1) next rest (id e) c (omega arith) order)
change_one id (r ∷ before) rest e next c below order =
    ap (λ b. cond b (c r) r ∷ with_change id (before ++ e ∷ rest) (id e) c) (smaller (id r) (id e) below.0) ∙ ap (λ rs. r ∷ rs) (change_one id before rest e next c below.1 order)

regroup : {R : Type 0} (before rest : List R) (e : R) → before ++ e ∷ rest ≡ (before ++ e ∷ []) ++ rest
regroup [] rest e = refl
regroup (r ∷ before) rest e = ap (λ rs. r ∷ rs) (regroup before rest e)

-- the writes of a row change that row alone, and not its id
pub record ChangeRows {R : Type 0} (id : R → ℕ) (put : List R → Tables) (n : Counters) (ws : R → List RowWrite) (f : R → R) : Type 0 where
  pub keeps : (r : R) → id (f r) ≡ id r
  pub made : (before rest : List R) (r : R) (next : ℕ) → AreBelow id (id r) before → InOrder id (id r + 1) next rest
      → all_written n (put (before ++ r ∷ rest)) (ws r) ≡ put (before ++ f r ∷ rest)

pub all_rows : {R : Type 0} (id : R → ℕ) (put : List R → Tables) (n : Counters) (ws : R → List RowWrite) (f : R → R) (before rows : List R) (low next : ℕ) → ChangeRows id put n ws f
    → AreBelow id low before → InOrder id low next rows → all_written n (put (before ++ rows)) (flat_map ws rows) ≡ put (before ++ map f rows)
all_rows id put n ws f before [] low next change below order = refl
all_rows id put n ws f before (r ∷ rows) low next change below order =
    let parts = first_of id low next r rows order in
    let above = parts.0 in
    let keeps = change.keeps r in
    let here = below_wider id low (id r) before (omega arith) below in
    let next_below = below_push id (id r + 1) before (f r) (below_wider id low (id r + 1) before (omega arith) below) (omega arith) in
    written-append n (put (before ++ r ∷ rows)) (ws r) (flat_map ws rows)
    ∙ ap (λ (u : Tables). all_written n u (flat_map ws rows)) (change.made before rows r next here parts.2)
    ∙ ap (λ rs. all_written n (put rs) (flat_map ws rows)) (regroup before rows (f r))
    ∙ all_rows id put n ws f (before ++ f r ∷ []) rows (id r + 1) next change next_below parts.2
    ∙ ap put (sym (regroup before (map f rows) (f r)))

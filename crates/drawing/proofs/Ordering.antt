-- Rows stay in the order of their ids.
use Rattle.std.proofs.Common.{◌≡◌, ℕ, ◌+◌, ◌<◌, ◌≤◌, Bool, true, false, cond, ◌&&◌, nat_le, nat_lt, eqb, List, [], ◌∷◌, ◌++◌, map, filter, IsTrue, refl, ap, ◌∙◌, arith, leb-true, ltb-true, le-leb, lt-ltb}
use Rattle.std.proofs.lemmas.Bool.{and_parts, and_from}
use Rattle.drawing.specs.Rows.{with_change}
use Rattle.drawing.specs.Subdivision.{ascend_between, rows_in_order}

pub record InOrder {R : Type 0} (id : R → ℕ) (low next : ℕ) (rows : List R) : Type 0 where
  pub test : IsTrue (rows_in_order id low next rows)

-- the parts of the test at a row, and from these
pub first_of : {R : Type 0} (id : R → ℕ) (low next : ℕ) (r : R) (rows : List R) → InOrder id low next (r ∷ rows) → (low ≤ id r) × (id r < next) × InOrder id (id r + 1) next rows
first_of id low next r rows h =
    let parts = and_parts (nat_le low (id r) && nat_lt (id r) next) (rows_in_order id (id r + 1) next rows) h.test in
    let front = and_parts (nat_le low (id r)) (nat_lt (id r) next) parts.0 in
    (leb-true _ _ front.0, ltb-true _ _ front.1, record { test = parts.1 })

pub from_first : {R : Type 0} (id : R → ℕ) (low next : ℕ) (r : R) (rows : List R) → low ≤ id r → id r < next → InOrder id (id r + 1) next rows → InOrder id low next (r ∷ rows)
from_first id low next r rows above below rest =
    record { test = and_from _ _ (and_from _ _ (le-leb low (id r) above) (lt-ltb (id r) next below)) rest.test }

-- a lower start and a higher end
pub InOrder-wider : {R : Type 0} (id : R → ℕ) (low low' next next' : ℕ) (rows : List R) → low' ≤ low → next ≤ next' → InOrder id low next rows → InOrder id low' next' rows
InOrder-wider id low low' next next' [] p q h = record { test = refl }
InOrder-wider id low low' next next' (r ∷ rows) p q h =
    let parts = first_of id low next r rows h in
    let above = parts.0 in
    let below = parts.1 in
    from_first id low' next' r rows (omega arith) (omega arith) (InOrder-wider id (id r + 1) (id r + 1) next next' rows (omega arith) q parts.2)

-- a row more, with the next id
pub InOrder-push : {R : Type 0} (id : R → ℕ) (low next : ℕ) (rows : List R) (r : R) → id r ≡ next → low ≤ next → InOrder id low next rows → InOrder id low (next + 1) (rows ++ r ∷ [])
InOrder-push id low next [] r is p h = from_first id low (next + 1) r [] (omega arith) (omega arith) (record { test = refl })
InOrder-push id low next (s ∷ rows) r is p h =
    let parts = first_of id low next s rows h in
    let above = parts.0 in
    let below = parts.1 in
    from_first id low (next + 1) s (rows ++ r ∷ []) above (omega arith) (InOrder-push id (id s + 1) next rows r is (omega arith) parts.2)

-- some rows less
pub InOrder-filter : {R : Type 0} (id : R → ℕ) (low next : ℕ) (p : R → Bool) (rows : List R) → InOrder id low next rows → InOrder id low next (filter p rows)
InOrder-filter id low next p [] h = record { test = refl }
InOrder-filter id low next p (r ∷ rows) h =
    let parts = first_of id low next r rows h in
    let above = parts.0 in
    let below = parts.1 in
    let rest = InOrder-filter id (id r + 1) next p rows parts.2 in
    elim (p r) as (λ b. InOrder id low next (cond b (r ∷ filter p rows) (filter p rows))) [
      | true ↦ from_first id low next r (filter p rows) above below rest
      | false ↦ InOrder-wider id (id r + 1) low next next (filter p rows) (omega arith) (omega arith) rest
    ]

-- changed rows that keep their ids
pub map-ids : {R : Type 0} (id : R → ℕ) (f : R → R) (rows : List R) → ((r : R) → id (f r) ≡ id r) → map id (map f rows) ≡ map id rows
map-ids id f [] keeps = refl
map-ids id f (r ∷ rows) keeps = ap (λ n. n ∷ map id (map f rows)) (keeps r) ∙ ap (λ ns. id r ∷ ns) (map-ids id f rows keeps)

pub InOrder-map : {R : Type 0} (id : R → ℕ) (low next : ℕ) (f : R → R) (rows : List R) → ((r : R) → id (f r) ≡ id r) → InOrder id low next rows → InOrder id low next (map f rows)
InOrder-map id low next f rows keeps h = record { test = ap (ascend_between low next) (map-ids id f rows keeps) ∙ h.test }

pub InOrder-change : {R : Type 0} (id : R → ℕ) (low next n : ℕ) (change : R → R) (rows : List R) → ((r : R) → id (change r) ≡ id r) → InOrder id low next rows → InOrder id low next (with_change id rows n change)
InOrder-change {R = R} id low next n change rows keeps h = InOrder-map id low next (λ r. cond (eqb (id r) n) (change r) r) rows (λ r. kept r (eqb (id r) n)) h
  where
    kept : (r : R) (b : Bool) → id (cond b (change r) r) ≡ id r
    kept r true = keeps r
    kept r false = refl

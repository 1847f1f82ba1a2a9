-- Which rows are there, after a row changes.
use Rattle.std.proofs.Common.{◌≡◌, ℕ, Bool, true, false, ◌||◌, List, [], ◌∷◌, cond, refl, ap, ◌∙◌, eqb}
use Rattle.drawing.specs.Rows.{has_row, with_change}

-- a change that keeps the ids keeps which rows are there
changed_id : {R : Type 0} (id : R → ℕ) (m : ℕ) (r s : R) (b : Bool) → id s ≡ id r → eqb (id (cond b s r)) m ≡ eqb (id r) m
changed_id id m r s true same = ap (λ k. eqb k m) same
changed_id id m r s false same = refl

pub has_changed : {R : Type 0} (id : R → ℕ) (rows : List R) (n m : ℕ) (change : R → R) → ((r : R) → id (change r) ≡ id r) → has_row id (with_change id rows n change) m ≡ has_row id rows m
has_changed id [] n m change keeps = refl
has_changed id (r ∷ rows) n m change keeps =
    ap (λ b. b || has_row id (with_change id rows n change) m) (changed_id id m r (change r) (eqb (id r) n) (keeps r))
    ∙ ap (λ b. eqb (id r) m || b) (has_changed id rows n m change keeps)

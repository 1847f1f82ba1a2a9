-- What rows that meet a test list, row by row.
use Rattle.std.proofs.Common.{◌≡◌, ◌∙◌, ℕ, suc, ◌+◌, ◌<◌, Bool, true, false, cond, List, [], ◌∷◌, ◌++◌, map, filter, drop, get_or, length, append_assoc, add-one, drop-cons, refl, sym, ap}
use Rattle.topo_base.specs.declared.rows.RelationRow.{RelationRow}

abbrev pub listed : (RelationRow → Bool) → List RelationRow → List ℕ
listed p rows = map (λ (r : RelationRow). r.element_id) (filter p rows)

at_row : (rows : List RelationRow) (i : ℕ) (row : RelationRow) → i < length rows → row ≡ get_or rows i row → drop i rows ≡ row ∷ drop (i + 1) rows
at_row rows i row h is = drop-cons rows i row h ∙ ap (λ r. r ∷ drop (suc i) rows) (sym is) ∙ rw add-one refl

pub listed_step : (p : RelationRow → Bool) (rows : List RelationRow) (i : ℕ) (row : RelationRow) (old new all : List ℕ) (b : Bool) → i < length rows → row ≡ get_or rows i row
    → old ++ listed p (drop i rows) ≡ all → p row ≡ b → new ≡ cond b (old ++ row.element_id ∷ []) old → new ++ listed p (drop (i + 1) rows) ≡ all
listed_step p rows i row old new all true h is so_far test made =
    ap (λ l. l ++ listed p (drop (i + 1) rows)) made ∙ append_assoc old (row.element_id ∷ []) (listed p (drop (i + 1) rows))
    ∙ ap (λ (rs : List RelationRow). old ++ map (λ (r : RelationRow). r.element_id) rs) (sym (ap (filter p) (at_row rows i row h is) ∙ ap (λ c. cond c (row ∷ filter p (drop (i + 1) rows)) (filter p (drop (i + 1) rows))) test))
    ∙ so_far
listed_step p rows i row old new all false h is so_far test made =
    ap (λ l. l ++ listed p (drop (i + 1) rows)) made
    ∙ ap (λ (rs : List RelationRow). old ++ map (λ (r : RelationRow). r.element_id) rs) (sym (ap (filter p) (at_row rows i row h is) ∙ ap (λ c. cond c (row ∷ filter p (drop (i + 1) rows)) (filter p (drop (i + 1) rows))) test))
    ∙ so_far

-- What stays true of a loose grid from which an entry is taken.
use Rattle.std.proofs.Common.{◌≡◌, ◌≢◌, ◌∙◌, ℕ, ◌+◌, ◌-◌, ◌<◌, ◌^◌, ⊎_elim, List, ◌∷◌, cond, length, set, get_or, Option, Some, None, IsSome, nat_eq, sym, ap, refl, arith, sum_by, IsPermutation, length-set, unwrap_or}
use Rattle.std.specs.List.{IsDistinct}
use Rattle.std.specs.Map.{keys_of}
use Rattle.std.proofs.lemmas.Bool.Decides.{eqb_tells}
use Rattle.std.proofs.lemmas.Bool.{eq-eqb, ne_eqb, cases_eq}
use Rattle.std.proofs.lemmas.List.Sorted.{length_permutation, sum_by_popped}
use Rattle.std.proofs.lemmas.Map.Entries.{length-values_of}
use Rattle.std.proofs.lemmas.List.{get_or-set_same, get_or-set_other}
use Rattle.box_index.specs.declared.entry.Entry.{Entry}
use Rattle.box_index.specs.Boxes.{IsBox}
use Rattle.box_index.specs.Cells.{home, level_of, place}
use Rattle.box_index.specs.LooseGrid.{CellTable, IsLooseGrid, IsAtHome, count_of, entry_at, is_in, is_on, kept}
use Rattle.box_index.proofs.Indexed.{place_apart, count_fits}

-- a cell that has entries is listed with their number
pub is_listed : (o : Option ℕ) (n : ℕ) → n ≡ unwrap_or o 0 → 0 < n → o ≡ Some n
is_listed None n is some = absurd (omega arith)
is_listed (Some m) n is some = ap (λ (k : ℕ). Some k) (sym is)

module _ (i j : CellTable) (e : Entry) (cell number count level : ℕ) (h : IsLooseGrid i)
    (at_cell : cell ≡ home e.bounds) (at_count : count ≡ count_of i cell) (at_level : level ≡ level_of e.bounds) (small_level : level < 42) (below : number < count)
    (updates : (q : ℕ) → entry_at j q ≡ cond (nat_eq (place cell (count - 1)) q) None (cond (nat_eq (place cell number) q) (entry_at i (place cell (count - 1))) (entry_at i q)))
    (counts : (d : ℕ) → count_of j d ≡ cond (nat_eq cell d) (count - 1) (count_of i d)) where
  few : count < 2 ^ 32
  few = omega (arith, at_count, count_fits i h cell)

  own_count : (d : ℕ) → cell ≡ d → count_of j d ≡ count - 1
  own_count d is = counts d ∙ rw (eq-eqb cell d is) refl

  other_count : (d : ℕ) → cell ≢ d → count_of j d ≡ count_of i d
  other_count d away = counts d ∙ rw (ne_eqb cell d away) refl

  -- the last place of the cell is no longer filled
  still_below : (d n : ℕ) → n < count_of i d → place d n ≢ place cell (count - 1) → n < count_of j d
  still_below d n less apart = ⊎_elim
      (λ is.
      let same : count_of i cell ≡ count_of i d = ap (count_of i) is in
      let other : n ≢ count - 1 = λ last. apart (omega (arith, is, last)) in
      omega (arith, own_count d is, same, less, at_count, other))
      (λ away. omega (arith, other_count d away, less))
      (cases_eq cell d)

  was_below : (d n : ℕ) → n < count_of j d → (n < count_of i d) × (place d n ≢ place cell (count - 1))
  was_below d n less = ⊎_elim
      (λ is.
      let same : count_of i cell ≡ count_of i d = ap (count_of i) is in
      (omega (arith, own_count d is, same, less, at_count), λ at. let bad : n ≡ count - 1 = omega (arith, at, is) in omega (arith, bad, own_count d is, less)))
      (λ away.
      let same = other_count d away in
      (omega (arith, same, less), λ at. away (sym (place_apart d cell n (count - 1) (omega (arith, less, same, count_fits i h d)) (omega (arith, few)) at).0)))
      (cases_eq cell d)

  home_in : (q : ℕ) (x : Entry) → entry_at j q ≡ Some x → IsAtHome j q x
  home_in q x found = ⊎_elim
      (λ last.
      let bad : None ≡ Some x = rw last.0 at (sym (updates q) ∙ found) in
      absurd (let worse : None ≡ Some x = bad in cc))
      (λ apart. ⊎_elim
      (λ gap.
      let there : entry_at i (place cell (count - 1)) ≡ Some x = rw (apart.0, gap.0) at (sym (updates q) ∙ found) in
      let a = h.at_home (place cell (count - 1)) x there in
      let where_is = place_apart cell (home x.bounds) (count - 1) a.number (omega (arith, few)) (omega (arith, a.below, count_fits i h (home x.bounds))) a.is in
      let other : number ≢ count - 1 = λ same. apart.1 (omega (arith, same, gap.1)) in
      record {
        bounds = a.bounds;
        number = number;
        is = omega (arith, gap.1, where_is.0);
        below = omega (arith, own_count (home x.bounds) where_is.0, below, other);
      })
      (λ free.
      let before : entry_at i q ≡ Some x = rw (apart.0, free.0) at (sym (updates q) ∙ found) in
      let a = h.at_home q x before in
      record {
        bounds = a.bounds;
        number = a.number;
        is = a.is;
        below = still_below (home x.bounds) a.number a.below (λ same. apart.1 (sym (a.is ∙ same)));
      })
      (eqb_tells (place cell number) q))
      (eqb_tells (place cell (count - 1)) q)

  filled_in : (d n : ℕ) → n < count_of j d → IsSome (entry_at j (place d n))
  filled_in d n less =
      let w = was_below d n less in
      ⊎_elim
      (λ gap. rw (updates (place d n), ne_eqb (place cell (count - 1)) (place d n) (λ is. w.1 (sym is)), gap.0) (h.filled cell (count - 1) (omega (arith, at_count, below))))
      (λ free. rw (updates (place d n), ne_eqb (place cell (count - 1)) (place d n) (λ is. w.1 (sym is)), free.0) (h.filled d n w.0))
      (eqb_tells (place cell number) (place d n))

  module _ (moved : IsPermutation (kept i) (e ∷ kept j)) where
    weighs : (f : Entry → ℕ) → sum_by f (kept j) + f e ≡ sum_by f (kept i)
    weighs f = sum_by_popped f e (kept i) (kept j) moved

    counted_in : (d : ℕ) → count_of j d ≡ sum_by (is_in d) (kept j)
    counted_in d = ⊎_elim
        (λ yes_here.
        let one : is_in d e ≡ 1 = rw yes_here.0 refl in
        let is : cell ≡ d = at_cell ∙ yes_here.1 in
        omega (arith, one, own_count d is, weighs (is_in d), h.counted d, at_count, ap (count_of i) is))
        (λ not_here.
        let none : is_in d e ≡ 0 = rw not_here.0 refl in
        omega (arith, none, other_count d (λ is. not_here.1 (sym at_cell ∙ is)), weighs (is_in d), h.counted d))
        (eqb_tells (home e.bounds) d)

    pub taken_index : IsDistinct nat_eq (keys_of j.entries) → j.levels ≡ set i.levels level (get_or i.levels level 0 - 1) → IsLooseGrid j
    taken_index unique levels = record {
      unique = unique;
      small = omega (arith, length_permutation (kept i) (e ∷ kept j) moved, length-values_of i.entries, length-values_of j.entries, h.small);
      at_home = λ q x found. home_in q x found;
      filled = λ d n less. filled_in d n less;
      counted = λ d. counted_in d;
      levelled = λ k small. levelled_in k small;
      all_levels = ap length levels ∙ length-set i.levels level (get_or i.levels level 0 - 1) ∙ h.all_levels;
    }
      where
        levelled_in : (k : ℕ) → k < 42 → get_or j.levels k 0 ≡ sum_by (is_on k) (kept j)
        levelled_in k small = ⊎_elim
            (λ yes_here.
            let one : is_on k e ≡ 1 = rw yes_here.0 refl in
            let is : level ≡ k = at_level ∙ yes_here.1 in
            let within : level < length i.levels = omega (arith, h.all_levels, small_level) in
            let now : get_or j.levels level 0 ≡ get_or i.levels level 0 - 1
            = ap (λ (ls : List ℕ). get_or ls level 0) levels ∙ get_or-set_same i.levels level (get_or i.levels level 0 - 1) 0 within in
            omega (arith, one, now, ap (λ (m : ℕ). get_or j.levels m 0) is, ap (λ (m : ℕ). get_or i.levels m 0) is, weighs (is_on k), h.levelled k small))
            (λ not_here.
            let none : is_on k e ≡ 0 = rw not_here.0 refl in
            let other : k ≢ level = λ is. not_here.1 (sym at_level ∙ sym is) in
            let now : get_or j.levels k 0 ≡ get_or i.levels k 0
            = ap (λ (ls : List ℕ). get_or ls k 0) levels ∙ get_or-set_other i.levels level k (get_or i.levels level 0 - 1) 0 other in
            omega (arith, none, now, weighs (is_on k), h.levelled k small))
            (eqb_tells (level_of e.bounds) k)

-- an entry at a place of a cell has that cell for its home
pub home_is : (i : CellTable) → IsLooseGrid i → (cell number : ℕ) (e : Entry) → number < count_of i cell → entry_at i (place cell number) ≡ Some e → IsBox e.bounds × (cell ≡ home e.bounds)
home_is i h cell number e below found =
    let a = h.at_home (place cell number) e found in
    (a.bounds, (place_apart cell (home e.bounds) number a.number (omega (arith, below, count_fits i h cell)) (omega (arith, a.below, count_fits i h (home e.bounds))) a.is).0)

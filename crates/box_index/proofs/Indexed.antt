-- What stays true of a loose grid that changes.
use Rattle.std.proofs.Common.{Result, Ok, IfOk, MatchOption, ◌≡◌, ◌≢◌, ◌∙◌, ℕ, ◌+◌, ◌<◌, ◌≤◌, ◌^◌, List, [], ◌∷◌, Bool, true, false, cond, length, set, get_or, replicate, zero, suc, Option, Some, None, IsSome, nat_eq, eqb, sym, ap, subst, refl, arith, sum_by, IsPermutation, length-set, unwrap_or, ⊎_elim}
use Rattle.std.specs.List.{IsDistinct}
use Rattle.std.specs.Map.{lookup, keys_of, values_of}
use Rattle.std.proofs.lemmas.Bool.Decides.{eqb_tells}
use Rattle.std.proofs.lemmas.Bool.{eq-eqb}
use Rattle.std.proofs.lemmas.List.Sorted.{length_permutation, IsPermutation-map}
use Rattle.std.proofs.lemmas.Map.Entries.{length-values_of, sum_by_values_permutation}
use Rattle.std.proofs.lemmas.List.Sums.{sum_by-cons}
use Rattle.std.proofs.lemmas.List.{get_or-set_same, get_or-set_other}
use Rattle.box_index.specs.declared.entry.Entry.{Entry}
use Rattle.box_index.specs.Boxes.{IsBox}
use Rattle.box_index.specs.Cells.{home, level_of, place}
use Rattle.box_index.specs.LooseGrid.{CellTable, IsLooseGrid, IsAtHome, count_of, entry_at, is_in, is_on, kept}

pub place_apart : (c d m n : ℕ) → m < 2 ^ 32 → n < 2 ^ 32 → place c m ≡ place d n → (c ≡ d) × (m ≡ n)
place_apart c d m n hm hn e = (omega arith, omega arith)

pub one_at_most : {X : Type 0} (f : X → ℕ) → ((x : X) → f x ≤ 1) → (xs : List X) → sum_by f xs ≤ length xs
one_at_most f one [] = omega arith
one_at_most f one (x ∷ xs) = omega (arith, sum_by-cons f x xs, one x, one_at_most f one xs)

cond_one : (b : Bool) → cond b 1 0 ≤ 1
cond_one true = omega arith
cond_one false = omega arith

-- a cell has no more entries than the grid
pub count_small : (i : CellTable) → IsLooseGrid i → (c : ℕ) → count_of i c ≤ length (kept i)
count_small i h c = omega (arith, h.counted c, one_at_most (is_in c) (λ e. cond_one (eqb (home e.bounds) c)) (kept i))

pub count_fits : (i : CellTable) → IsLooseGrid i → (c : ℕ) → count_of i c < 2 ^ 32
count_fits i h c = omega (arith, count_small i h c, length-values_of i.entries, h.small)

-- the place behind the last of a cell is free
pub place_free : (i : CellTable) → IsLooseGrid i → (c : ℕ) → (o : Option Entry) → entry_at i (place c (count_of i c)) ≡ o → o ≡ None
place_free i h c None e = refl
place_free i h c (Some x) e =
    let at = h.at_home (place c (count_of i c)) x e in
    let apart = place_apart c (home x.bounds) (count_of i c) at.number (count_fits i h c) (omega (arith, at.below, count_fits i h (home x.bounds))) at.is in
    let same : count_of i c ≡ count_of i (home x.bounds) = ap (count_of i) apart.0 in
    absurd (omega (arith, at.below, apart.1, same))

-- the entries in another order
pub reordered : (i j : CellTable) → IsLooseGrid i → IsDistinct nat_eq (keys_of j.entries) → IsPermutation i.entries j.entries
    → ((q : ℕ) → lookup (nat_eq q) j.entries ≡ lookup (nat_eq q) i.entries)
    → ((c : ℕ) → lookup (nat_eq c) j.counts ≡ lookup (nat_eq c) i.counts) → j.levels ≡ i.levels → IsLooseGrid j
reordered i j h unique moved same counts levels =
    let again : (c : ℕ) → count_of j c ≡ count_of i c = λ c. ap (λ (o : Option ℕ). unwrap_or o 0) (counts c) in
    record {
      unique = unique;
      small = omega (arith, h.small, length_permutation i.entries j.entries moved);
      at_home = λ q e found.
          let at = h.at_home q e (sym (same q) ∙ found) in
          record { bounds = at.bounds; number = at.number; is = at.is; below = omega (arith, at.below, again (home e.bounds)) };
      filled = λ c n below. subst IsSome (sym (same (place c n))) (h.filled c n (omega (arith, again c)));
      counted = λ c. again c ∙ h.counted c ∙ sym (sum_by_values_permutation (is_in c) i.entries j.entries moved);
      levelled = λ k small. ap (λ (ls : List ℕ). get_or ls k 0) levels ∙ h.levelled k small ∙ sym (sum_by_values_permutation (is_on k) i.entries j.entries moved);
      all_levels = ap length levels ∙ h.all_levels;
    }

-- an entry more, behind the last of its cell
module _ (i j : CellTable) (e : Entry) (h : IsLooseGrid i)
    (puts : (q : ℕ) → entry_at j q ≡ cond (nat_eq (place (home e.bounds) (count_of i (home e.bounds))) q) (Some e) (entry_at i q))
    (counts : (c : ℕ) → lookup (nat_eq c) j.counts ≡ cond (nat_eq (home e.bounds) c) (Some (count_of i (home e.bounds) + 1)) (lookup (nat_eq c) i.counts)) where
  counts_on : (c : ℕ) → count_of j c ≡ is_in c e + count_of i c
  counts_on c = ⊎_elim
      (λ yes. ap (λ (o : Option ℕ). unwrap_or o 0) (counts c) ∙ rw (yes.0) (omega (arith, ap (count_of i) yes.1)))
      (λ no. ap (λ (o : Option ℕ). unwrap_or o 0) (counts c) ∙ rw (no.0) (omega arith))
      (eqb_tells (home e.bounds) c)

  grows : (c : ℕ) → count_of i c ≤ count_of j c
  grows c = omega (arith, counts_on c)

  own : is_in (home e.bounds) e ≡ 1
  own = rw (eq-eqb (home e.bounds) (home e.bounds) refl) refl

  home_of : IsBox e.bounds → (q : ℕ) (x : Entry) → entry_at j q ≡ Some x → IsAtHome j q x
  home_of box q x found = ⊎_elim
      (λ yes.
      let at : Some e ≡ Some x = rw yes.0 at (sym (puts q) ∙ found) in
      let same : e ≡ x = cc in
      let P : Entry → Type 0 = λ (y : Entry). IsAtHome j q y in
      subst P same (record { bounds = box; number = count_of i (home e.bounds); is = sym yes.1; below = omega (arith, counts_on (home e.bounds), own) }))
      (λ no.
      let before : entry_at i q ≡ Some x = rw no.0 at (sym (puts q) ∙ found) in
      let at = h.at_home q x before in
      record { bounds = at.bounds; number = at.number; is = at.is; below = omega (arith, at.below, grows (home x.bounds)) })
      (eqb_tells (place (home e.bounds) (count_of i (home e.bounds))) q)

  fills : (c n : ℕ) → n < count_of j c → IsSome (entry_at j (place c n))
  fills c n below = ⊎_elim
      (λ yes. rw (puts (place c n), yes.0) refl)
      (λ no. rw (puts (place c n), no.0) (h.filled c n (before no.1)))
      (eqb_tells (place (home e.bounds) (count_of i (home e.bounds))) (place c n))
    where
      before : place (home e.bounds) (count_of i (home e.bounds)) ≢ place c n → n < count_of i c
      before apart = ⊎_elim
          (λ yes.
          let same : count_of i (home e.bounds) ≡ count_of i c = ap (count_of i) yes.1 in
          let one : is_in c e ≡ 1 = rw yes.0 refl in
          let less : n ≢ count_of i c = λ is. apart (omega (arith, yes.1, same, is)) in
          omega (arith, below, counts_on c, one, less))
          (λ no. let none : is_in c e ≡ 0 = rw no.0 refl in omega (arith, below, counts_on c, none))
          (eqb_tells (home e.bounds) c)

  level_now : j.levels ≡ set i.levels (level_of e.bounds) (get_or i.levels (level_of e.bounds) 0 + 1) → (k : ℕ) → k < 42
      → get_or j.levels k 0 ≡ is_on k e + get_or i.levels k 0
  level_now levels k small = ⊎_elim
      (λ yes.
      let within : level_of e.bounds < length i.levels = omega (arith, yes.1, small, h.all_levels) in
      let one : is_on k e ≡ 1 = rw yes.0 refl in
      let now : get_or j.levels (level_of e.bounds) 0 ≡ get_or i.levels (level_of e.bounds) 0 + 1
      = ap (λ (ls : List ℕ). get_or ls (level_of e.bounds) 0) levels ∙ get_or-set_same i.levels (level_of e.bounds) (get_or i.levels (level_of e.bounds) 0 + 1) 0 within in
      let left = ap (λ (m : ℕ). get_or j.levels m 0) yes.1 in
      let right = ap (λ (m : ℕ). get_or i.levels m 0) yes.1 in
      omega (arith, one, now, left, right))
      (λ no.
      let none : is_on k e ≡ 0 = rw no.0 refl in
      let other : k ≢ level_of e.bounds = λ is. no.1 (sym is) in
      let now : get_or j.levels k 0 ≡ get_or i.levels k 0
      = ap (λ (ls : List ℕ). get_or ls k 0) levels ∙ get_or-set_other i.levels (level_of e.bounds) k (get_or i.levels (level_of e.bounds) 0 + 1) 0 other in
      omega (arith, none, now))
      (eqb_tells (level_of e.bounds) k)

  inserted : IsBox e.bounds → length (kept i) + 1 < 2 ^ 32 → level_of e.bounds < 42 → IsDistinct nat_eq (keys_of j.entries)
      → IsPermutation ((place (home e.bounds) (count_of i (home e.bounds)), e) ∷ i.entries) j.entries
      → j.levels ≡ set i.levels (level_of e.bounds) (get_or i.levels (level_of e.bounds) 0 + 1) → IsLooseGrid j
  inserted box few level unique moved levels =
      let p : ℕ × Entry = (place (home e.bounds) (count_of i (home e.bounds)), e) in
      let es : List (ℕ × Entry) = p ∷ i.entries in
      let weighs : (f : Entry → ℕ) → sum_by f (kept j) ≡ f e + sum_by f (kept i) =
      λ f. sum_by_values_permutation f es j.entries moved ∙ sum_by-cons f e (kept i) in
      record {
        unique = unique;
        small = omega (arith, length_permutation es j.entries moved, length-values_of i.entries);
        at_home = λ q x found. home_of box q x found;
        filled = λ c n below. fills c n below;
        counted = λ c. counts_on c ∙ ap (λ (k : ℕ). is_in c e + k) (h.counted c) ∙ sym (weighs (is_in c));
        levelled = λ k small. level_now levels k small ∙ ap (λ (m : ℕ). is_on k e + m) (h.levelled k small) ∙ sym (weighs (is_on k));
        all_levels = ap length levels ∙ length-set i.levels (level_of e.bounds) (get_or i.levels (level_of e.bounds) 0 + 1) ∙ h.all_levels;
      }

zeros_at : (n k : ℕ) → get_or {A = ℕ} (replicate n 0) k 0 ≡ 0
zeros_at zero k = refl
zeros_at (suc n) zero = refl
zeros_at (suc n) (suc k) = zeros_at n k

pub none_kept : (i : CellTable) → i.entries ≡ [] → i.counts ≡ [] → i.levels ≡ replicate 42 0 → IsLooseGrid i
none_kept i entries counts levels =
    let look : (q : ℕ) → entry_at i q ≡ None = λ q. ap (λ (es : List (ℕ × Entry)). lookup (nat_eq q) es) entries in
    let zero_at : (c : ℕ) → count_of i c ≡ 0 = λ c. ap (λ (cs : List (ℕ × ℕ)). unwrap_or (lookup (nat_eq c) cs) 0) counts in
    let weighs : (f : Entry → ℕ) → sum_by f (kept i) ≡ 0 = λ f. ap (λ (es : List (ℕ × Entry)). sum_by f (values_of es)) entries in
    let D : List (ℕ × Entry) → Type 0 = λ es. IsDistinct nat_eq (keys_of es) in
    record {
      unique = subst D (sym entries) (unfold IsDistinct in tt);
      small = omega (arith, ap length entries);
      at_home = λ q e found. let no : None ≡ Some e = sym (look q) ∙ found in cc;
      filled = λ c n below. absurd (omega (arith, zero_at c));
      counted = λ c. zero_at c ∙ sym (weighs (is_in c));
      levelled = λ k small. ap (λ (ls : List ℕ). get_or ls k 0) levels ∙ zeros_at 42 k ∙ sym (weighs (is_on k));
      all_levels = ap length levels;
    }

-- from what a result that is Ok says
pub by_ok : {T E : Type 0} (r : Result T E) (x : T) (P : T → Type 0) → r ≡ Ok x → IfOk r P → P x
by_ok {T} {E} r x P e h = let Q : Result T E → Type 0 = λ r. IfOk r P in subst Q e h

pub by_none : {T : Type 0} (o : Option T) (P : Type 0) (Q : T → Type 0) → o ≡ None → MatchOption o P Q → P
by_none {T} o P Q e h = let R : Option T → Type 0 = λ o. MatchOption o P Q in subst R e h

-- `inserted`, with names for the numbers
pub insert_step : (i j : CellTable) (e : Entry) (cell number spot level : ℕ) → IsLooseGrid i → IsBox e.bounds → length (kept i) + 1 < 2 ^ 32
    → cell ≡ home e.bounds → number ≡ count_of i cell → spot ≡ place cell number → level ≡ level_of e.bounds → level < 42
    → ((q : ℕ) → entry_at j q ≡ cond (nat_eq spot q) (Some e) (entry_at i q))
    → ((c : ℕ) → lookup (nat_eq c) j.counts ≡ cond (nat_eq cell c) (Some (number + 1)) (lookup (nat_eq c) i.counts))
    → IsDistinct nat_eq (keys_of j.entries) → IsPermutation ((spot, e) ∷ i.entries) j.entries
    → j.levels ≡ set i.levels level (get_or i.levels level 0 + 1) → IsLooseGrid j
insert_step i j e cell number spot level h box few at_cell at_number at_spot at_level small puts counts unique moved levels =
    let numbers : number ≡ count_of i (home e.bounds) = at_number ∙ ap (count_of i) at_cell in
    let spots : spot ≡ place (home e.bounds) (count_of i (home e.bounds)) = at_spot ∙ ap (λ (c : ℕ). place c number) at_cell ∙ ap (place (home e.bounds)) numbers in
    let P : ℕ → Type 0 = λ s. IsPermutation ((s, e) ∷ i.entries) j.entries in
    let S : ℕ → Type 0 = λ k. j.levels ≡ set i.levels k (get_or i.levels k 0 + 1) in
    inserted i j e h
    (λ q. puts q ∙ ap (λ (s : ℕ). cond (nat_eq s q) (Some e) (entry_at i q)) spots)
    (λ c. counts c ∙ ap (λ (d : ℕ). cond (nat_eq d c) (Some (number + 1)) (lookup (nat_eq c) i.counts)) at_cell
    ∙ ap (λ (n : ℕ). cond (nat_eq (home e.bounds) c) (Some (n + 1)) (lookup (nat_eq c) i.counts)) numbers)
    box few (omega (arith, small, at_level)) unique (subst P spots moved) (subst S at_level levels)

pub kept_more : (e : Entry) (spot : ℕ) (es es' : List (ℕ × Entry)) → IsPermutation ((spot, e) ∷ es) es' → IsPermutation (e ∷ values_of es) (values_of es')
kept_more e spot es es' moved = IsPermutation-map (λ (p : ℕ × Entry). p.1) ((spot, e) ∷ es) es' moved

pub kept_again : (i j : CellTable) (es : List (ℕ × Entry)) → i ≡ j → IsPermutation i.entries es → IsPermutation (kept j) (values_of es)
kept_again i j es same moved =
    let P : CellTable → Type 0 = λ j. IsPermutation (kept j) (values_of es) in
    subst P same (IsPermutation-map (λ (p : ℕ × Entry). p.1) i.entries es moved)

pub level_few : (i : CellTable) → IsLooseGrid i → (k : ℕ) → k < 42 → get_or i.levels k 0 ≤ length (kept i)
level_few i h k small = omega (arith, h.levelled k small, one_at_most (is_on k) (λ e. cond_one (eqb (level_of e.bounds) k)) (kept i))

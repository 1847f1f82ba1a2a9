-- Which places a walk passes.
use Rattle.std.proofs.Common.{◌≡◌, ◌∙◌, ℕ, ◌+◌, ◌<◌, ◌≤◌, ◌^◌, ⊎_elim, Option, Some, IsTrue, List, [], ◌∷◌, false, true, subst, IsPermutation, slice_index, unwrap_or, option_map, nat_eq, sym, ap, refl, arith}
use Rattle.std.proofs.lemmas.Bool.{eq-eqb, cases_lt, cases_order}
use Rattle.std.proofs.lemmas.Map.Entries.{sum_by-remove_entry}
use Rattle.topo_base.specs.declared.rows.Box4.{Box4}
use Rattle.box_index.specs.declared.entry.Entry.{Entry}
use Rattle.box_index.specs.declared.walk.Walk.{Walk}
use Rattle.box_index.specs.Boxes.{IsBox, meets}
use Rattle.box_index.specs.Cells.{cell, first_cell, home, last_cell, level_of, place}
use Rattle.box_index.specs.LooseGrid.{CellTable, IsLooseGrid, IsPast, IsAtHome, count_of, entry_at, is_on, left_from}
use Rattle.box_index.specs.Walk.{IsWalk, at, left}
use Rattle.box_index.proofs.Left.{left_same, left_none, left_pops, left_passes}
use Rattle.box_index.proofs.Indexed.{count_fits}
use Rattle.box_index.proofs.Reach.{reached, column_of, row_of, column_small, row_small, level_below}

module _ (k x y K X Y : ℕ) (hx : x < 2 ^ 42) (hy : y < 2 ^ 42) (hX : X < 2 ^ 42) (hY : Y < 2 ^ 42) where
  -- the first cell of a level is not behind one that is reached
  first_not_behind : k ≤ K → (k ≡ K → (x ≤ X) × (y ≤ Y)) → cell k x y ≤ cell K X Y
  first_not_behind le same = ⊎_elim
      (λ is. omega (arith, is, (same is).0, (same is).1))
      (λ other. ⊎_elim (λ less. omega (arith, less)) (λ more. absurd (omega (arith, more, le))) other)
      (cases_order k K)

  -- behind the last row of a column comes the next column
  next_column : (first : ℕ) → first < 2 ^ 42 → x + 1 < 2 ^ 42 → cell k x y < cell K X Y → (k ≡ K → (first ≤ Y) × (Y ≤ y)) → cell k (x + 1) first ≤ cell K X Y
  next_column first few more less same = ⊎_elim
      (λ is. omega (arith, is, (same is).0, (same is).1))
      (λ other. ⊎_elim (λ less. omega (arith, less)) (λ more. absurd (omega (arith, more))) other)
      (cases_order k K)

  -- behind the last cell of a level comes the next level
  next_level : cell k x y < cell K X Y → (k ≡ K → (X ≤ x) × (Y ≤ y)) → k + 1 ≤ K
  next_level less same = ⊎_elim
      (λ is. absurd (omega (arith, is, (same is).0, (same is).1)))
      (λ other. ⊎_elim (λ less. omega (arith, less)) (λ more. absurd (omega (arith, more))) other)
      (cases_order k K)

-- a level that is not used has no entry
is_used : (i : CellTable) → IsLooseGrid i → (r : ℕ) (e : Entry) → entry_at i r ≡ Some e → (k : ℕ) → k < 42 → k ≡ level_of e.bounds → slice_index i.levels k ≡ 0 → ⊥
is_used i h r e found k small same unused =
    let one : is_on k e ≡ 1 = rw (eq-eqb (level_of e.bounds) k (sym same)) refl in
    let taken = sum_by-remove_entry (is_on k) (nat_eq r) i.entries in
    let here : unwrap_or (option_map (is_on k) (entry_at i r)) 0 ≡ is_on k e = ap (λ (o : Option Entry). unwrap_or (option_map (is_on k) o) 0) found in
    absurd (omega (arith, one, taken, here, unused, h.levelled k small))

pub first_past : (i : CellTable) (area : Box4) (from level start : ℕ) → IsLooseGrid i → IsBox area → level ≤ 42
    → ((k : ℕ) → from ≤ k → k < level → slice_index i.levels k ≡ 0) → first_cell area.min_x level < 2 ^ 42 → first_cell area.min_y level < 2 ^ 42
    → start ≡ place (cell level (first_cell area.min_x level) (first_cell area.min_y level)) 0
    → (r : ℕ) (e : Entry) → entry_at i r ≡ Some e → IsTrue (meets e.bounds area) → from ≤ level_of e.bounds → start ≤ r
first_past i area from level start h g few unused fx fy is r e found meet low =
    let at_home = h.at_home r e found in
    let above : level ≤ level_of e.bounds = ⊎_elim
    (λ below. absurd (is_used i h r e found (level_of e.bounds) (omega arith) refl (unused (level_of e.bounds) low below)))
    (λ above. above)
    (cases_lt (level_of e.bounds) level) in
    let le = first_not_behind level (first_cell area.min_x level) (first_cell area.min_y level) (level_of e.bounds) (column_of e.bounds) (row_of e.bounds)
    fx fy (column_small e.bounds at_home.bounds) (row_small e.bounds at_home.bounds) above
    (λ same. let q = reached e.bounds area at_home.bounds g meet level same in (q.first_column, q.first_row)) in
    omega (arith, le, is, at_home.is)

module _ (w : Walk) (h : IsWalk w) (done : w.number ≡ w.count) where
  -- an entry that stands from here on is in a later cell, as this one has no more
  later : (r : ℕ) (e : Entry) → (a : IsAtHome w.grid.now r e) → at w ≤ r → cell w.level w.column w.row < home e.bounds
  later r e a low = ⊎_elim
      (λ same. absurd (let counts = ap (count_of w.grid.now) same in omega (arith, a.below, a.is, low, same, counts, h.count, done)))
      (λ other. ⊎_elim (λ less. less)
      (λ more. absurd (omega (arith, more, low, a.is, a.below, count_fits w.grid.now h.grid (home e.bounds))))
      other)
      (cases_order (cell w.level w.column w.row) (home e.bounds))

  module _ (r : ℕ) (e : Entry) (found : entry_at w.grid.now r ≡ Some e) (meet : IsTrue (meets e.bounds w.area)) (low : at w ≤ r) where
    pub past_row : place (cell w.level w.column (w.row + 1)) 0 ≤ r
    past_row =
        let a = h.grid.at_home r e found in
        omega (arith, later r e a low, a.is)

    pub past_column : first_cell w.area.min_y w.level < 2 ^ 42 → w.column + 1 < 2 ^ 42 → last_cell w.area.max_y w.level ≤ w.row
        → place (cell w.level (w.column + 1) (first_cell w.area.min_y w.level)) 0 ≤ r
    past_column few more last =
        let a = h.grid.at_home r e found in
        let le = next_column w.level w.column w.row (level_of e.bounds) (column_of e.bounds) (row_of e.bounds)
        h.column h.row (column_small e.bounds a.bounds) (row_small e.bounds a.bounds) (first_cell w.area.min_y w.level) few more (later r e a low)
        (λ same. let q = reached e.bounds w.area a.bounds h.area meet w.level same in (q.first_row, omega (arith, q.last_row, last))) in
        omega (arith, le, a.is)

    pub past_level : last_cell w.area.max_y w.level ≤ w.row → last_cell w.area.max_x w.level ≤ w.column → w.level + 1 ≤ level_of e.bounds
    past_level last_row last_column =
        let a = h.grid.at_home r e found in
        next_level w.level w.column w.row (level_of e.bounds) (column_of e.bounds) (row_of e.bounds)
        h.column h.row (column_small e.bounds a.bounds) (row_small e.bounds a.bounds) (later r e a low)
        (λ same. let q = reached e.bounds w.area a.bounds h.area meet w.level same in (omega (arith, q.last_column, last_column), omega (arith, q.last_row, last_row)))

-- behind the last level stands nothing
pub past_all : (w : Walk) (h : IsWalk w) → 42 ≤ w.level → (r : ℕ) (e : Entry) → entry_at w.grid.now r ≡ Some e → at w ≤ r → ⊥
past_all w h top r e found low =
    let a = h.grid.at_home r e found in
    omega (arith, a.is, a.below, count_fits w.grid.now h.grid (home e.bounds), column_small e.bounds a.bounds, row_small e.bounds a.bounds, level_below e.bounds a.bounds, low, top)

-- a walk at the first place of a cell
pub at_is : (v : Walk) (k x y : ℕ) → v.level ≡ k → v.column ≡ x → v.row ≡ y → v.number ≡ 0 → at v ≡ place (cell k x y) 0
at_is v k x y level column row number = omega arith

module _ (w v : Walk) (h : IsWalk w) (grid : v.grid.now ≡ w.grid.now) (area : v.area ≡ w.area) where
  moved_left : left_from w.grid.now w.area (at v) ≡ left v
  moved_left = ap (λ (i : CellTable). left_from i w.area (at v)) (sym grid) ∙ ap (λ (a : Box4). left_from v.grid.now a (at v)) (sym area)

  pub cell_passes : at w < at v → IsPast w.grid.now w.area (at w) (at v) → left w ≡ left v
  cell_passes further past = left_same w.grid.now w.area (at w) (at v) h.grid (omega arith) past ∙ moved_left

  module _ (e : Entry) (found : entry_at w.grid.now (at w) ≡ Some e) (further : at v ≡ at w + 1) where
    one_more : left_from w.grid.now w.area (at w + 1) ≡ left v
    one_more = ap (left_from w.grid.now w.area) (sym further) ∙ moved_left

    meets_there : meets e.bounds w.area ≡ meets e.bounds v.area
    meets_there = ap (meets e.bounds) (sym area)

    pub place_passes : meets e.bounds v.area ≡ false → left w ≡ left v
    place_passes away = left_passes w.grid.now w.area (at w) e h.grid found (meets_there ∙ away) ∙ one_more

    pub place_pops : meets e.bounds v.area ≡ true → IsPermutation (left w) (e ∷ left v)
    place_pops meet =
        let P : List Entry → Type 0 = λ es. IsPermutation (left w) (e ∷ es) in
        subst P one_more (left_pops w.grid.now w.area (at w) e h.grid found (meets_there ∙ meet))

pub ends : (w : Walk) → IsWalk w → 42 ≤ w.level → left w ≡ []
ends w h top = left_none w.grid.now w.area (at w) h.grid (λ r e found meet low. past_all w h top r e found low)

-- the level of an entry is used
pub level_holds : (i : CellTable) → IsLooseGrid i → (r : ℕ) (e : Entry) → entry_at i r ≡ Some e → (k : ℕ) → k < 42 → k ≡ level_of e.bounds → 1 ≤ slice_index i.levels k
level_holds i h r e found k small same =
    let one : is_on k e ≡ 1 = rw (eq-eqb (level_of e.bounds) k (sym same)) refl in
    let taken = sum_by-remove_entry (is_on k) (nat_eq r) i.entries in
    let here : unwrap_or (option_map (is_on k) (entry_at i r)) 0 ≡ is_on k e = ap (λ (o : Option Entry). unwrap_or (option_map (is_on k) o) 0) found in
    omega (arith, one, taken, here, h.levelled k small)

-- For callers: an index beside rows, each of which has entries (none or one, say), and what is asked of all rows by the entries near an area.
use Rattle.std.proofs.Common.{IsTrue, ◌≤◌, length-append, ◌≡◌, ◌∙◌, ℕ, zero, suc, length, get_or, ◌+◌, ◌<◌, ℤ, ◌≤ℤ◌, List, [], ◌∷◌, ◌++◌, Some, None, Bool, true, false, not, ◌||◌, ◌==◌, if◌then◌else◌, cond, nat_eq, map, filter, sum_by, sym, ap, subst, refl, arith, IsPermutation, int_lt}
use Rattle.std.specs.Prelude.{◌↔◌}
use Rattle.std.specs.Int.{int_min, int_max}
use Rattle.std.specs.List.{Contains, IsDistinct, AllByRecursion, flat_map, find, list_any}
use Rattle.std.proofs.lemmas.Bool.{eq-eqb}
use Rattle.std.proofs.lemmas.Bool.Decides.{Decides-eqb}
use Rattle.std.proofs.lemmas.Int.{ints}
use Rattle.std.proofs.lemmas.List.Sorted.{IsPermutation-map, IsPermutation-filter_both, IsPermutation-to_front, Contains-permutation, length_permutation, list_any-IsPermutation, sum_by-IsPermutation}
use Rattle.std.proofs.lemmas.List.Sums.{sum_by-cons}
use Rattle.std.proofs.lemmas.List.Folds.{list_any-append}
use Rattle.std.proofs.lemmas.List.Elements.{Contains-append_left, Contains-append_right, filter-append}
use Rattle.std.proofs.lemmas.Map.Keys.{IsDistinct-head, IsDistinct-tail}
use Rattle.topo_base.specs.Point.{IsCoordinate, IsOnGrid, Point}
use Rattle.topo_base.specs.declared.rows.Box4.{Box4}
use Rattle.box_index.specs.declared.entry.Entry.{Entry}
use Rattle.box_index.specs.Boxes.{AreEntriesOf, IsBox, entries_near, meets}
use Rattle.box_index.proofs.Times.{once, permuted, times, times_append, times_flat, times_permuted}

head_there : {X : Type 0} (x : X) (xs : List X) → Contains (x ∷ xs) x
head_there x xs = (0, omega arith, refl)

tail_there : {X : Type 0} (x y : X) (xs : List X) → Contains xs y → Contains (x ∷ xs) y
tail_there x y xs there = Contains-append_right (x ∷ []) xs y there

-- what `remove` promises of an entry that is there
pub removed : (found : Bool) (e : Entry) (old new : List Entry) → IsTrue found ↔ Contains old e → IsPermutation old (cond found (e ∷ new) new) → Contains old e → IsPermutation old (e ∷ new)
removed true e old new is moved there = moved
removed false e old new is moved there = absurd (let bad : false ≡ true = is.1 there in cc)

module _ {R : Type 0} (f : R → List Entry) where
  -- what a row has is kept
  pub is_indexed : (rows : List R) (es : List Entry) → AreEntriesOf f rows es → (r : R) → Contains rows r → (e : Entry) → Contains (f r) e → Contains es e
  is_indexed rows es are r there e has = Contains-permutation (flat_map f rows) es e are (inside rows there)
    where
      inside : (rows : List R) → Contains rows r → Contains (flat_map f rows) e
      inside [] there = absurd (omega (arith, there.1))
      inside (x ∷ rows) there = by there.0 there.1 there.2 (inside rows)
        where
          by : (k : ℕ) → k < length (x ∷ rows) → get_or (x ∷ rows) k r ≡ r → (Contains rows r → Contains (flat_map f rows) e) → Contains (f x ++ flat_map f rows) e
          by zero low is later = Contains-append_left (f x) (flat_map f rows) e (subst (λ (y : R). Contains (f y) e) (sym is) has)
          by (suc k) low is later = Contains-append_right (f x) (flat_map f rows) e (later (k, omega (arith, low), is))

  -- there are no more entries than rows, where a row has one at most
  pub few_entries : (rows : List R) (es : List Entry) → AreEntriesOf f rows es → ((r : R) → length (f r) ≤ 1) → length es ≤ length rows
  few_entries rows es are one = omega (arith, length_permutation (flat_map f rows) es are, each rows)
    where
      each : (rs : List R) → length (flat_map f rs) ≤ length rs
      each [] = omega arith
      each (r ∷ rs) = omega (arith, length-append (f r) (flat_map f rs), one r, each rs)

  -- the rows are one of them and others
  module _ (rows rest : List R) (r : R) (one : IsPermutation rows (r ∷ rest)) where
    weighs : (e : Entry) → times e (flat_map f rows) ≡ times e (f r) + times e (flat_map f rest)
    weighs e =
        let moved = sum_by-IsPermutation (λ x. times e (f x)) rows (r ∷ rest) one in
        omega (arith, times_flat e f rows, times_flat e f rest, moved, sum_by-cons (λ x. times e (f x)) r rest)

    -- that one goes, and its entries are removed
    pub one_less : (old new : List Entry) → AreEntriesOf f rows old → IsPermutation old (f r ++ new) → AreEntriesOf f rest new
    one_less old new are went = permuted (flat_map f rest) new (λ e.
        omega (arith, weighs e, times_permuted e (flat_map f rows) old are, times_permuted e old (f r ++ new) went, times_append e (f r) new))

    -- that one has come, and its entries are inserted
    pub one_more : (old new : List Entry) → AreEntriesOf f rest old → IsPermutation (f r ++ old) new → AreEntriesOf f rows new
    one_more old new are came = permuted (flat_map f rows) new (λ e.
        omega (arith, weighs e, times_permuted e (flat_map f rest) old are, times_permuted e (f r ++ old) new came, times_append e (f r) old))

  -- a row comes last, and its entries are inserted
  pub rows_pushed : (rows : List R) (r : R) (old new : List Entry) → AreEntriesOf f rows old → IsPermutation (f r ++ old) new → AreEntriesOf f (rows ++ r ∷ []) new
  rows_pushed rows r old new are came = one_more (rows ++ r ∷ []) rows r (IsPermutation-to_front rows r) old new are came

  module _ (id : R → ℕ) (rows : List R) (n : ℕ) where
    abbrev own : R → Bool
    own x = id x == n

    abbrev others : List R
    others = filter (λ x. not (id x == n)) rows

    filter_passes : (xs ys : List R) (r : R) → filter own xs ≡ r ∷ ys → own r ≡ true
    filter_passes [] ys r is = absurd (let none : [] ≡ r ∷ ys = is in omega (arith, ap length none))
    filter_passes (x ∷ xs) ys r is = by (own x) refl (filter_passes xs ys r)
      where
        by : (b : Bool) → own x ≡ b → (filter own xs ≡ r ∷ ys → own r ≡ true) → own r ≡ true
        by true yes_here later =
            let whole : x ∷ filter own xs ≡ r ∷ ys = sym (ap (λ (b : Bool). cond b (x ∷ filter own xs) (filter own xs)) yes_here) ∙ is in
            ap own (sym (ap (λ (zs : List R). get_or zs 0 x) whole)) ∙ yes_here
        by false not_here later = later (sym (ap (λ (b : Bool). cond b (x ∷ filter own xs) (filter own xs)) not_here) ∙ is)

    -- the rows are the one of this id and the others
    one_of : (r : R) → filter own rows ≡ r ∷ [] → IsPermutation rows (r ∷ others)
    one_of r is = subst (λ (xs : List R). IsPermutation rows (xs ++ others)) is (IsPermutation-filter_both own (λ x. not (id x == n)) (λ x. refl) rows)

    -- the row of this id goes, and its entries are removed
    pub rows_dropped : (r : R) (old new : List Entry) → filter own rows ≡ r ∷ [] → AreEntriesOf f rows old → IsPermutation old (f r ++ new) → AreEntriesOf f others new
    rows_dropped r old new is are went = one_less rows others r (one_of r is) old new are went

    module _ (change : R → R) where
      abbrev changed : R → R
      changed x = if id x == n then change x else x

      same_others : (xs : List R) → map changed (filter (λ x. not (id x == n)) xs) ≡ filter (λ x. not (id x == n)) xs
      same_others [] = refl
      same_others (x ∷ xs) = by (id x == n) refl (same_others xs)
        where
          by : (b : Bool) → (id x == n) ≡ b → map changed (filter (λ x. not (id x == n)) xs) ≡ filter (λ x. not (id x == n)) xs
              → map changed (cond (not (id x == n)) (x ∷ filter (λ x. not (id x == n)) xs) (filter (λ x. not (id x == n)) xs)) ≡ cond (not (id x == n)) (x ∷ filter (λ x. not (id x == n)) xs) (filter (λ x. not (id x == n)) xs)
          by true is later = rw is later
          by false is later = rw is (λ i. ap (λ (b : Bool). if b then change x else x) is i ∷ later i)

      -- the row of this id changes: its old entries are removed, and then its new ones are inserted
      pub rows_changed : (r : R) (old middle new : List Entry) → filter own rows ≡ r ∷ [] → AreEntriesOf f rows old → IsPermutation old (f r ++ middle) → IsPermutation (f (change r) ++ middle) new
          → AreEntriesOf f (map changed rows) new
      rows_changed r old middle new is are went came =
          let moved = IsPermutation-map changed rows (r ∷ others) (one_of r is) in
          let first : changed r ≡ change r = ap (λ (b : Bool). if b then change r else r) (filter_passes rows [] r is) in
          let parts : changed r ∷ map changed others ≡ change r ∷ others = ap (λ (y : R). y ∷ map changed others) first ∙ ap (λ (ys : List R). change r ∷ ys) (same_others rows) in
          one_more (map changed rows) others (change r) (subst (IsPermutation (map changed rows)) parts moved) middle new (rows_dropped r old middle is are went) came

      -- a row changes, and its entries stay
      pub rows_kept : (es : List Entry) → ((r : R) → f (change r) ≡ f r) → AreEntriesOf f rows es → AreEntriesOf f (map changed rows) es
      rows_kept es same are = subst (λ (xs : List Entry). IsPermutation xs es) (sym (each rows)) are
        where
          one : (x : R) (b : Bool) → f (if b then change x else x) ≡ f x
          one x true = same x
          one x false = refl

          each : (xs : List R) → flat_map f (map changed xs) ≡ flat_map f xs
          each [] = refl
          each (x ∷ xs) = ap (λ (es : List Entry). es ++ flat_map f (map changed xs)) (one x (id x == n)) ∙ ap (λ (es : List Entry). f x ++ es) (each xs)

-- where the ids of the rows differ, the row that is found is the only one of its id
pub only_row : {R : Type 0} (id : R → ℕ) (rows : List R) (n : ℕ) (r : R) → IsDistinct nat_eq (map id rows) → find (λ x. id x == n) rows ≡ Some r → filter (λ x. id x == n) rows ≡ r ∷ []
only_row {R} id [] n r apart found = absurd (let none : None ≡ Some r = found in cc)
only_row {R} id (x ∷ xs) n r apart found = by (id x == n) refl (only_row id xs n r (IsDistinct-tail nat_eq (id x) (map id xs) apart))
  where
    none_more : (ys : List R) → id x ≡ n → AllByRecursion (λ k. nat_eq (id x) k ≡ false) (map id ys) → filter (λ x. id x == n) ys ≡ []
    none_more [] is away = refl
    none_more (y ∷ ys) is away = each (id y == n) refl (none_more ys is away.1)
      where
        each : (b : Bool) → (id y == n) ≡ b → filter (λ x. id x == n) ys ≡ [] → cond (id y == n) (y ∷ filter (λ x. id x == n) ys) (filter (λ x. id x == n) ys) ≡ []
        each true yes_here later = absurd (let one : nat_eq (id x) (id y) ≡ true = eq-eqb (id x) (id y) (is ∙ sym ((Decides-eqb (id y) n).0 yes_here)) in let bad : false ≡ true = sym away.0 ∙ one in cc)
        each false not_here later = rw not_here later

    by : (b : Bool) → (id x == n) ≡ b → (find (λ x. id x == n) xs ≡ Some r → filter (λ x. id x == n) xs ≡ r ∷ [])
        → cond (id x == n) (x ∷ filter (λ x. id x == n) xs) (filter (λ x. id x == n) xs) ≡ r ∷ []
    by true is later =
        let at : Some x ≡ Some r = rw is at found in
        let same : x ≡ r = cc in
        let rest = none_more xs ((Decides-eqb (id x) n).0 is) (IsDistinct-head nat_eq (id x) (map id xs) apart) in
        rw is (ap (λ (y : R). y ∷ filter (λ x. id x == n) xs) same ∙ ap (λ (ys : List R). r ∷ ys) rest)
    by false is later =
        let at : find (λ x. id x == n) xs ≡ Some r = rw is at found in
        rw is (later at)

-- what is asked of all entries, where it is false or empty of those off the area
module _ (area : Box4) where
  module _ (holds : Entry → Bool) where
    pub any_near_all : (es : List Entry) → ((e : Entry) → Contains es e → meets e.bounds area ≡ false → holds e ≡ false) → list_any holds (entries_near area es) ≡ list_any holds es
    any_near_all [] off = refl
    any_near_all (e ∷ es) off = by (meets e.bounds area) refl (any_near_all es (λ x there away. off x (tail_there e x es there) away))
      where
        by : (b : Bool) → meets e.bounds area ≡ b → list_any holds (entries_near area es) ≡ list_any holds es
            → list_any holds (cond (meets e.bounds area) (e ∷ entries_near area es) (entries_near area es)) ≡ (holds e || list_any holds es)
        by true is later = rw is (ap (λ (b : Bool). holds e || b) later)
        by false is later = rw is (later ∙ ap (λ (b : Bool). b || list_any holds es) (sym (off e (head_there e es) is)))

    pub filter_near_all : (es : List Entry) → ((e : Entry) → Contains es e → meets e.bounds area ≡ false → holds e ≡ false) → filter holds (entries_near area es) ≡ filter holds es
    filter_near_all [] off = refl
    filter_near_all (e ∷ es) off = by (meets e.bounds area) refl (filter_near_all es (λ x there away. off x (tail_there e x es there) away))
      where
        by : (b : Bool) → meets e.bounds area ≡ b → filter holds (entries_near area es) ≡ filter holds es
            → filter holds (cond (meets e.bounds area) (e ∷ entries_near area es) (entries_near area es)) ≡ cond (holds e) (e ∷ filter holds es) (filter holds es)
        by true is later = rw is (ap (λ (xs : List Entry). cond (holds e) (e ∷ xs) xs) later)
        by false is later = rw (is, off e (head_there e es) is) later

  module _ {Y : Type 0} (g : Entry → List Y) where
    pub flat_near_all : (es : List Entry) → ((e : Entry) → Contains es e → meets e.bounds area ≡ false → g e ≡ []) → flat_map g (entries_near area es) ≡ flat_map g es
    flat_near_all [] off = refl
    flat_near_all (e ∷ es) off = by (meets e.bounds area) refl (flat_near_all es (λ x there away. off x (tail_there e x es there) away))
      where
        by : (b : Bool) → meets e.bounds area ≡ b → flat_map g (entries_near area es) ≡ flat_map g es
            → flat_map g (cond (meets e.bounds area) (e ∷ entries_near area es) (entries_near area es)) ≡ g e ++ flat_map g es
        by true is later = rw is (ap (λ (ys : List Y). g e ++ ys) later)
        by false is later = rw is (later ∙ ap (λ (ys : List Y). ys ++ flat_map g es) (sym (off e (head_there e es) is)))

  sum_near : (g : Entry → ℕ) (es : List Entry) → sum_by g (entries_near area es) ≡ sum_by (λ (e : Entry). cond (meets e.bounds area) (g e) 0) es
  sum_near g [] = refl
  sum_near g (e ∷ es) = by (sum_near g es) (meets e.bounds area) ∙ sym (sum_by-cons (λ (e : Entry). cond (meets e.bounds area) (g e) 0) e es)
    where
      by : sum_by g (entries_near area es) ≡ sum_by (λ (e : Entry). cond (meets e.bounds area) (g e) 0) es → (b : Bool)
          → sum_by g (cond b (e ∷ entries_near area es) (entries_near area es)) ≡ cond b (g e) 0 + sum_by (λ (e : Entry). cond (meets e.bounds area) (g e) 0) es
      by later true = sum_by-cons g e (entries_near area es) ∙ ap (λ n. g e + n) later
      by later false = omega (arith, later)

  pub near_permuted : (xs ys : List Entry) → IsPermutation xs ys → IsPermutation (entries_near area xs) (entries_near area ys)
  near_permuted xs ys moved = permuted (entries_near area xs) (entries_near area ys) (λ x.
      sum_near (once x) xs ∙ sym (sum_by-IsPermutation (λ (e : Entry). cond (meets e.bounds area) (once x e) 0) xs ys moved) ∙ sym (sum_near (once x) ys))

  -- what a test of one entry says near the area
  pub one_near : (holds : Entry → Bool) (e : Entry) (test : Bool) → (meets e.bounds area ≡ true → holds e ≡ test) → (meets e.bounds area ≡ false → test ≡ false)
      → list_any holds (entries_near area (e ∷ [])) ≡ test
  one_near holds e test on off = by (meets e.bounds area) refl
    where
      or_false : (b : Bool) → (b || false) ≡ b
      or_false true = refl
      or_false false = refl

      by : (b : Bool) → meets e.bounds area ≡ b → list_any holds (cond b (e ∷ []) []) ≡ test
      by true is = or_false (holds e) ∙ on is
      by false is = sym (off is)

  module _ {R : Type 0} (f : R → List Entry) (rows : List R) (es : List Entry) (are : AreEntriesOf f rows es) where
    -- the entries near the area are those of the rows that are near it
    pub rows_near : AreEntriesOf (λ r. entries_near area (f r)) rows (entries_near area es)
    rows_near = subst (λ (xs : List Entry). IsPermutation xs (entries_near area es)) (near_flat rows) (near_permuted (flat_map f rows) es are)
      where
        near_flat : (rs : List R) → entries_near area (flat_map f rs) ≡ flat_map (λ r. entries_near area (f r)) rs
        near_flat [] = refl
        near_flat (r ∷ rs) = filter-append (λ (e : Entry). meets e.bounds area) (f r) (flat_map f rs) ∙ ap (λ (xs : List Entry). entries_near area (f r) ++ xs) (near_flat rs)

    -- a test of rows, by a test of the entries near the area
    pub any_row_near : (holds : Entry → Bool) (test : R → Bool) → ((r : R) → Contains rows r → list_any holds (entries_near area (f r)) ≡ test r) → list_any holds (entries_near area es) ≡ list_any test rows
    any_row_near holds test each = sym (list_any-IsPermutation holds (flat_map (λ r. entries_near area (f r)) rows) (entries_near area es) rows_near) ∙ flat rows each
      where
        flat : (rs : List R) → ((r : R) → Contains rs r → list_any holds (entries_near area (f r)) ≡ test r) → list_any holds (flat_map (λ r. entries_near area (f r)) rs) ≡ list_any test rs
        flat [] each = refl
        flat (r ∷ rs) each =
            list_any-append holds (entries_near area (f r)) (flat_map (λ r. entries_near area (f r)) rs)
            ∙ ap (λ (b : Bool). b || list_any holds (flat_map (λ r. entries_near area (f r)) rs)) (each r (head_there r rs))
            ∙ ap (λ (b : Bool). test r || b) (flat rs (λ x there. each x (tail_there r x rs there)))

-- boxes of points: the box of one, and a box that grows by one, as the least box of a line does
pub is_box_at : (p : Point) → IsOnGrid p → IsBox (record { min_x = p.x; min_y = p.y; max_x = p.x; max_y = p.y })
is_box_at p h = record { min_x = h.0; min_y = h.1; max_x = h.0; max_y = h.1; wide = omega (arith, ints); high = omega (arith, ints) }

min_in : (x y : ℤ) → IsCoordinate x → IsCoordinate y → IsCoordinate (int_min x y)
min_in x y hx hy = by (int_lt y x)
  where
    by : (b : Bool) → IsCoordinate (cond b y x)
    by true = hy
    by false = hx

max_in : (x y : ℤ) → IsCoordinate x → IsCoordinate y → IsCoordinate (int_max x y)
max_in x y hx hy = by (int_lt y x)
  where
    by : (b : Bool) → IsCoordinate (cond b x y)
    by true = hx
    by false = hy

min_max : (x y z : ℤ) → x ≤ℤ y → int_min x z ≤ℤ int_max y z
min_max x y z h = grind (arith, ints)

pub is_box_wider : (b : Box4) (p : Point) → IsBox b → IsOnGrid p
    → IsBox (record { min_x = int_min b.min_x p.x; min_y = int_min b.min_y p.y; max_x = int_max b.max_x p.x; max_y = int_max b.max_y p.y })
is_box_wider b p h g = record {
  min_x = min_in b.min_x p.x h.min_x g.0;
  min_y = min_in b.min_y p.y h.min_y g.1;
  max_x = max_in b.max_x p.x h.max_x g.0;
  max_y = max_in b.max_y p.y h.max_y g.1;
  wide = min_max b.min_x b.max_x p.x h.wide;
  high = min_max b.min_y b.max_y p.y h.high;
}

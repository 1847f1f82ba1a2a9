-- A feature descends level by level.
use Rattle.std.proofs.Common.{◌≡◌, ◌∙◌, ℕ, zero, suc, Bool, true, false, cond, ◌&&◌, ◌||◌, ◌==◌, List, [], ◌∷◌, map, filter, flat_map, arith, refl, sym, ap, eqb-true, eq-eqb}
use Rattle.std.specs.List.{list_any}
use Rattle.std.proofs.lemmas.Bool.Decides.{nat_tests}
use Rattle.std.proofs.lemmas.List.Folds.{list_any-append}
use Rattle.topo_base.specs.declared.rows.RelationRow.{RelationRow}
use Rattle.drawing.specs.Descent.{ascending, elements_at, listed_by}
use Rattle.drawing.specs.Drawing.{Drawing}
use Rattle.drawing.specs.Relations.{is_among}
use Rattle.layer_tree.specs.Descending.{below, levels_below, listed_by_any}
use Rattle.layer_tree.proofs.Members.{Same, same_bool, among_ascending, ascending_same}

-- ---- whether any is
any_none : {X : Type 0} (xs : List X) → list_any (λ (x : X). false) xs ≡ false
any_none [] = refl
any_none (x ∷ xs) = any_none xs

regroup : (a b c d : Bool) → ((a || b) || (c || d)) ≡ ((a || c) || (b || d))
regroup true b c d = refl
regroup false true true d = refl
regroup false true false d = refl
regroup false false c d = refl

any_or : {X : Type 0} (p q : X → Bool) (xs : List X) → list_any (λ x. p x || q x) xs ≡ (list_any p xs || list_any q xs)
any_or p q [] = refl
any_or p q (x ∷ xs) = ap (λ c. (p x || q x) || c) (any_or p q xs) ∙ regroup (p x) (q x) (list_any p xs) (list_any q xs)

any_ext : {X : Type 0} (p q : X → Bool) (xs : List X) → ((x : X) → p x ≡ q x) → list_any p xs ≡ list_any q xs
any_ext p q xs same = ap (λ t. list_any t xs) (λ i x. same x i)

any_flat : {X Y : Type 0} (p : Y → Bool) (f : X → List Y) (xs : List X) → list_any p (flat_map f xs) ≡ list_any (λ x. list_any p (f x)) xs
any_flat p f [] = refl
any_flat p f (x ∷ xs) = list_any-append p (f x) (flat_map f xs) ∙ ap (λ c. list_any p (f x) || c) (any_flat p f xs)

-- the same of lists with the same members
record Met (p : ℕ → Bool) (xs : List ℕ) : Type 0 where
  it : ℕ
  meets : p it ≡ true
  there : is_among it xs ≡ true

met : (p : ℕ → Bool) (xs : List ℕ) → list_any p xs ≡ true → Met p xs
met p [] h = absurd cc
met p (x ∷ xs) h = by (p x) refl h (met p xs)
  where
    or_else : (a b : Bool) → b ≡ true → (a || b) ≡ true
    or_else true b h = refl
    or_else false b h = h

    by : (a : Bool) → p x ≡ a → (a || list_any p xs) ≡ true → (list_any p xs ≡ true → Met p xs) → Met p (x ∷ xs)
    by true e q rest = record { it = x; meets = e; there = ap (λ b. b || is_among x xs) (eq-eqb x x refl) }
    by false e q rest = let m = rest q in record { it = m.it; meets = m.meets; there = or_else (x == m.it) (is_among m.it xs) m.there }

any_of : (p : ℕ → Bool) (ys : List ℕ) (m : ℕ) → p m ≡ true → is_among m ys ≡ true → list_any p ys ≡ true
any_of p [] m h there = absurd cc
any_of p (y ∷ ys) m h there = by (y == m) refl there (any_of p ys m h)
  where
    or_else : (a b : Bool) → b ≡ true → (a || b) ≡ true
    or_else true b h = refl
    or_else false b h = h

    by : (a : Bool) → (y == m) ≡ a → (a || is_among m ys) ≡ true → (is_among m ys ≡ true → list_any p ys ≡ true) → (p y || list_any p ys) ≡ true
    by true e q rest = ap (λ b. b || list_any p ys) (ap p (eqb-true y m e) ∙ h)
    by false e q rest = or_else (p y) (list_any p ys) (rest q)

any_same : (p : ℕ → Bool) (xs ys : List ℕ) → Same xs ys → list_any p xs ≡ list_any p ys
any_same p xs ys s =
    same_bool (list_any p xs) (list_any p ys)
    (λ h. let m = met p xs h in any_of p ys m.it m.meets (sym (s m.it) ∙ m.there))
    (λ h. let m = met p ys h in any_of p xs m.it m.meets (s m.it ∙ m.there))

-- ---- what rows list
among_kept : (m : ℕ) (p : RelationRow → Bool) (rows : List RelationRow) → is_among m (map (λ (r : RelationRow). r.element_id) (filter p rows)) ≡ list_any (λ (r : RelationRow). p r && r.element_id == m) rows
among_kept m p [] = refl
among_kept m p (r ∷ rows) = by (p r) (among_kept m p rows)
  where
    by : (a : Bool) → is_among m (map (λ (s : RelationRow). s.element_id) (filter p rows)) ≡ list_any (λ (s : RelationRow). p s && s.element_id == m) rows
        → is_among m (map (λ (s : RelationRow). s.element_id) (cond a (r ∷ filter p rows) (filter p rows))) ≡ (a && r.element_id == m || list_any (λ (s : RelationRow). p s && s.element_id == m) rows)
    by true rest = ap (λ c. r.element_id == m || c) rest
    by false rest = rest

turned : (a b : ℕ) → (a == b) ≡ (b == a)
turned a b = grind (arith, nat_tests)

and_any : (k : ℕ) (b : Bool) (ids : List ℕ) → list_any (λ t. k == t && b) ids ≡ (is_among k ids && b)
and_any k b [] = refl
and_any k b (t ∷ ids) =
    ap (λ c. (k == t && b) || c) (and_any k b ids) ∙ spread (k == t) b (is_among k ids) ∙ ap (λ c. (c || is_among k ids) && b) (turned k t)
  where
    spread : (a b c : Bool) → ((a && b) || (c && b)) ≡ ((a || c) && b)
    spread true true c = refl
    spread true false true = refl
    spread true false false = refl
    spread false b c = refl

exchange : (m : ℕ) (ids : List ℕ) (rows : List RelationRow)
    → list_any (λ (r : RelationRow). is_among r.topogeo_id ids && r.element_id == m) rows ≡ list_any (λ t. list_any (λ (r : RelationRow). r.topogeo_id == t && r.element_id == m) rows) ids
exchange m ids [] = sym (any_none ids)
exchange m ids (r ∷ rows) =
    sym (any_or (λ t. r.topogeo_id == t && r.element_id == m) (λ t. list_any (λ (s : RelationRow). s.topogeo_id == t && s.element_id == m) rows) ids
    ∙ ap (λ c. c || list_any (λ t. list_any (λ (s : RelationRow). s.topogeo_id == t && s.element_id == m) rows) ids) (and_any r.topogeo_id (r.element_id == m) ids)
    ∙ ap (λ c. is_among r.topogeo_id ids && r.element_id == m || c) (sym (exchange m ids rows)))

listed_any : (S : Drawing) (ids : List ℕ) → Same (listed_by_any ids S.relations) (flat_map (listed_by S) ids)
listed_any S ids m =
    among_kept m (λ (r : RelationRow). is_among r.topogeo_id ids) S.relations
    ∙ exchange m ids S.relations
    ∙ any_ext (λ t. list_any (λ (r : RelationRow). r.topogeo_id == t && r.element_id == m) S.relations) (λ t. is_among m (listed_by S t)) ids
    (λ t. sym (among_kept m (λ (r : RelationRow). r.topogeo_id == t) S.relations))
    ∙ sym (any_flat (λ k. k == m) (listed_by S) ids)

-- ---- one level further down
one_level : (S : Drawing) (level : ℕ) (ids : List ℕ) → Same (flat_map (elements_at S (suc level)) ids) (flat_map (elements_at S level) (below S ids))
one_level S level ids m =
    let in_feature : ℕ → Bool = λ u. is_among m (elements_at S level u) in
    any_flat (λ k. k == m) (elements_at S (suc level)) ids
    ∙ any_ext (λ t. is_among m (elements_at S (suc level) t)) (λ t. list_any in_feature (listed_by S t)) ids
    (λ t. among_ascending m (flat_map (elements_at S level) (listed_by S t)) ∙ any_flat (λ k. k == m) (elements_at S level) (listed_by S t))
    ∙ sym (any_flat in_feature (listed_by S) ids)
    ∙ any_same in_feature (flat_map (listed_by S) ids) (below S ids) (λ k. sym (among_ascending k (listed_by_any ids S.relations) ∙ listed_any S ids k))
    ∙ sym (any_flat (λ k. k == m) (elements_at S level) (below S ids))

inner : (S : Drawing) (level : ℕ) (ids : List ℕ) → levels_below S level (below S ids) ≡ below S (levels_below S level ids)
inner S zero ids = refl
inner S (suc level) ids = ap (below S) (inner S level ids)

descended : (S : Drawing) (level : ℕ) (ids : List ℕ) → ascending (flat_map (elements_at S level) ids) ≡ levels_below S (suc level) ids
descended S zero ids = ascending_same (flat_map (elements_at S zero) ids) (listed_by_any ids S.relations) (λ m. sym (listed_any S ids m))
descended S (suc level) ids =
    ascending_same (flat_map (elements_at S (suc level)) ids) (flat_map (elements_at S level) (below S ids)) (one_level S level ids)
    ∙ descended S level (below S ids) ∙ inner S (suc level) ids

pub elements_descended : (S : Drawing) (level t : ℕ) → levels_below S level (listed_by S t) ≡ elements_at S level t
elements_descended S zero t = refl
elements_descended S (suc level) t = sym (descended S level (listed_by S t))

-- The level of a layer is below the number of layers.
use Rattle.std.proofs.Common.{◌≡◌, ◌∙◌, ℕ, zero, suc, ◌+◌, ◌<◌, ◌≤◌, Bool, true, false, cond, ◌&&◌, ◌==◌, nat_le, nat_lt, eqb, eqb-true, eq-eqb, List, [], ◌∷◌, map, length, arith, refl, sym, ap, Option, Some, None, IsTrue}
use Rattle.std.specs.List.{list_all}
use Rattle.std.proofs.lemmas.List.{length-map}
use Rattle.std.proofs.lemmas.Bool.{and_parts}
use Rattle.std.proofs.lemmas.Bool.Decides.{nat_tests}
use Rattle.topo_base.specs.declared.rows.LayerRow.{LayerRow}
use Rattle.drawing.specs.Drawing.{Drawing, layer_at, layer_id_of}
use Rattle.drawing.specs.Layers.{same_kind}
use Rattle.drawing.specs.Rows.{row_at}
use Rattle.drawing.specs.Subdivision.{ascend_between, ids_in_order, is_above, is_layer_known, references_known}
use Rattle.relation_rows.proofs.KnownFeatures.{references_parts}

-- ---- ids that ascend
le_of : (a b : ℕ) → nat_le a b ≡ true → a ≤ b
le_of a b h = grind (arith, nat_tests)

pub lt_of : (a b : ℕ) → nat_lt a b ≡ true → a < b
lt_of a b h = grind (arith, nat_tests)

ascend_count : (low next : ℕ) (ids : List ℕ) → ascend_between low next ids ≡ true → low ≤ next → length ids + low ≤ next
ascend_count low next [] h k = omega arith
ascend_count low next (a ∷ ids) h k =
    let parts = and_parts (nat_le low a && nat_lt a next) (ascend_between (a + 1) next ids) h in
    let bounds = and_parts (nat_le low a) (nat_lt a next) parts.0 in
    let above = le_of low a bounds.0 in
    let below = lt_of a next bounds.1 in
    let rest = ascend_count (a + 1) next ids parts.1 (omega arith) in
    omega arith

-- at least one
some_count : (next : ℕ) (ids : List ℕ) → ascend_between 1 next ids ≡ true → 0 < length ids → length ids < next
some_count next [] h k = absurd (omega arith)
some_count next (a ∷ ids) h k =
    let parts = and_parts (nat_le 1 a && nat_lt a next) (ascend_between (a + 1) next ids) h in
    let bounds = and_parts (nat_le 1 a) (nat_lt a next) parts.0 in
    let above = le_of 1 a bounds.0 in
    let below = lt_of a next bounds.1 in
    let all = ascend_count 1 next (a ∷ ids) h (omega arith) in
    omega arith

-- ---- a row that was found meets the test of all
all_step : {R : Type 0} (p : R → Bool) (x r : R) (rest : Option R) (b : Bool) → p x ≡ true → (rest ≡ Some r → p r ≡ true) → cond b (Some x) rest ≡ Some r → p r ≡ true
all_step p x r rest true first others found = let same : x ≡ r = cc in ap p (sym same) ∙ first
all_step p x r rest false first others found = others found

pub found_all : {R : Type 0} (p : R → Bool) (id : R → ℕ) (rows : List R) (n : ℕ) (r : R) → list_all p rows ≡ true → row_at id rows n ≡ Some r → p r ≡ true
found_all p id [] n r h found = absurd cc
found_all p id (x ∷ rows) n r h found =
    let parts = and_parts (p x) (list_all p rows) h in
    all_step p x r (row_at id rows n) (eqb (id x) n) parts.0 (found_all p id rows n r parts.1) found

-- ---- how many layers are of a level, and of no higher one
abbrev one_if : Bool → ℕ
one_if true = 1
one_if false = 0

abbrev at_level : ℕ → List LayerRow → ℕ
at_level n [] = 0
at_level n (l ∷ ls) = one_if (l.level == n) + at_level n ls

abbrev up_to : ℕ → List LayerRow → ℕ
up_to n [] = 0
up_to n (l ∷ ls) = one_if (nat_le l.level n) + up_to n ls

one_at : (k n : ℕ) → one_if (k == n) ≤ one_if (nat_le k n)
one_at k n = by (k == n) (nat_le k n) refl refl
  where
    by : (a b : Bool) → (k == n) ≡ a → nat_le k n ≡ b → one_if a ≤ one_if b
    by true true p q = omega arith
    by true false p q = absurd (grind (arith, nat_tests))
    by false true p q = omega arith
    by false false p q = omega arith

one_more : (k n : ℕ) → one_if (nat_le k n) + one_if (k == suc n) ≤ one_if (nat_le k (suc n))
one_more k n = by (nat_le k n) (k == suc n) (nat_le k (suc n)) refl refl refl
  where
    by : (a b c : Bool) → nat_le k n ≡ a → (k == suc n) ≡ b → nat_le k (suc n) ≡ c → one_if a + one_if b ≤ one_if c
    by true true c p q r = absurd (grind (arith, nat_tests))
    by true false true p q r = omega arith
    by true false false p q r = absurd (grind (arith, nat_tests))
    by false true true p q r = omega arith
    by false true false p q r = absurd (grind (arith, nat_tests))
    by false false true p q r = omega arith
    by false false false p q r = omega arith

one_small : (b : Bool) → one_if b ≤ 1
one_small true = omega arith
one_small false = omega arith

at_up : (n : ℕ) (ls : List LayerRow) → at_level n ls ≤ up_to n ls
at_up n [] = omega arith
at_up n (l ∷ ls) = let first = one_at l.level n in let rest = at_up n ls in omega arith

more_up : (n : ℕ) (ls : List LayerRow) → up_to n ls + at_level (suc n) ls ≤ up_to (suc n) ls
more_up n [] = omega arith
more_up n (l ∷ ls) = let first = one_more l.level n in let rest = more_up n ls in omega arith

up_small : (n : ℕ) (ls : List LayerRow) → up_to n ls ≤ length ls
up_small n [] = omega arith
up_small n (l ∷ ls) = let first = one_small (nat_le l.level n) in let rest = up_small n ls in omega arith

at_step : (n : ℕ) (x l : LayerRow) (ls : List LayerRow) (rest : Option LayerRow) (b : Bool) → l.level ≡ n → (rest ≡ Some l → 1 ≤ at_level n ls) → cond b (Some x) rest ≡ Some l → 1 ≤ at_level n (x ∷ ls)
at_step n x l ls rest true level others found =
    let same : x ≡ l = cc in
    let is : (x.level == n) ≡ true = eq-eqb x.level n (ap (λ (r : LayerRow). r.level) same ∙ level) in
    let one : one_if (x.level == n) ≡ 1 = ap one_if is in
    omega arith
at_step n x l ls rest false level others found = let more = others found in omega arith

at_found : (n i : ℕ) (l : LayerRow) (ls : List LayerRow) → row_at layer_id_of ls i ≡ Some l → l.level ≡ n → 1 ≤ at_level n ls
at_found n i l [] found level = absurd cc
at_found n i l (x ∷ ls) found level = at_step n x l ls (row_at layer_id_of ls i) (eqb (layer_id_of x) i) level (λ rest. at_found n i l ls rest level) found

-- ---- below a layer stands one of each level
-- the child of a layer that has a level above 0
record HasChild (S : Drawing) (n : ℕ) : Type 0 where
  child : LayerRow
  id : ℕ
  found : layer_at S id ≡ Some child
  level : child.level ≡ n

child_of_known : (S : Drawing) (l : LayerRow) (c : Option ℕ) (n : ℕ) → is_layer_known S l c ≡ true → l.level ≡ suc n → HasChild S n
child_of_known S l None n h level = let is = eqb-true l.level 0 h in absurd (omega arith)
child_of_known S l (Some c) n h level = by (layer_at S c) refl h
  where
    by : (o : Option LayerRow) → layer_at S c ≡ o → is_above l o ≡ true → HasChild S n
    by None found above = absurd cc
    by (Some child) found above =
        let parts = and_parts (l.level == child.level + 1) (same_kind l.feature_type child.feature_type) above in
        let is = eqb-true l.level (child.level + 1) parts.0 in
        record { child = child; id = c; found = found; level = omega arith }

high : (S : Drawing) (n i : ℕ) (l : LayerRow) → list_all (λ (r : LayerRow). is_layer_known S r r.child_id) S.layers ≡ true → layer_at S i ≡ Some l → l.level ≡ n → n < up_to n S.layers
high S zero i l known found level =
    let one = at_found 0 i l S.layers found level in
    let up = at_up 0 S.layers in
    omega arith
high S (suc n) i l known found level =
    let below = child_of_known S l l.child_id n (found_all (λ (r : LayerRow). is_layer_known S r r.child_id) layer_id_of S.layers i l known found) level in
    let rest = high S n below.id below.child known below.found below.level in
    let one = at_found (suc n) i l S.layers found level in
    let more = more_up n S.layers in
    omega arith

-- the ids of layers ascend
pub layers_ascend : (S : Drawing) → IsTrue (ids_in_order S) → ascend_between 1 S.next_ids.layer (map layer_id_of S.layers) ≡ true
layers_ascend S ids = (and_parts _ _ (and_parts _ _ ids).0).1

-- the level of a layer, with one more, is below the next id
pub level_below : (S : Drawing) (i : ℕ) (l : LayerRow) → IsTrue (ids_in_order S) → IsTrue (references_known S) → layer_at S i ≡ Some l → l.level + 1 < S.next_ids.layer
level_below S i l ids references found =
    let known = references_parts S references in
    let up = high S l.level i l known.layers found refl in
    let small = up_small l.level S.layers in
    let ascend : ascend_between 1 S.next_ids.layer (map layer_id_of S.layers) ≡ true = layers_ascend S ids in
    let same : length (map layer_id_of S.layers) ≡ length S.layers = length-map S.layers layer_id_of in
    let count : length (map layer_id_of S.layers) < S.next_ids.layer = some_count S.next_ids.layer (map layer_id_of S.layers) ascend (omega arith) in
    omega arith

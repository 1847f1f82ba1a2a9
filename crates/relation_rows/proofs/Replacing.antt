-- Rows that are replaced one after the other are those of `follow`.
use Rattle.std.proofs.Common.{◌≡◌, ◌∙◌, ℕ, Bool, true, false, not, cond, ◌&&◌, ◌||◌, ◌==◌, List, [], ◌∷◌, ◌++◌, map, filter, flat_map, refl, sym, ap, subst, arith}
use Rattle.std.specs.List.{list_all}
use Rattle.std.proofs.lemmas.Bool.{and_parts, and_from}
use Rattle.std.proofs.lemmas.Bool.Decides.{nat_tests}
use Rattle.topo_base.specs.declared.rows.FeatureRow.{FeatureRow}
use Rattle.topo_base.specs.declared.rows.RelationRow.{RelationRow}
use Rattle.drawing.specs.Drawing.{Drawing}
use Rattle.drawing.specs.Relations.{row_before, same_row, insert_row, ordered, is_among, is_hierarchical, lists_element, with_elements, followed}
use Rattle.relation_rows.specs.Following.{feature_of, has_layer_of}
use Rattle.relation_rows.proofs.Order.{before_not_same, same_itself, same_turned, same_element, same_topogeo, same_type}
use Rattle.relation_rows.proofs.Putting.{AllAfter, Ascend, put_first, without, drop_same, drop_none, drop_put, puts, adds, ordered_puts, ascend_puts, ascend_adds, ascend_drop, AllAgree, AgreePairwise, adds_put, adds_puts}

-- the row of a feature that lists an element
abbrev pub row_of : ℕ → FeatureRow → ℕ → RelationRow
row_of type f id = record { topogeo_id = f.feature_id; layer_id = f.layer_id; element_id = id; element_type = type }

-- the rows after each feature lists the new elements in the place of the old one
abbrev pub replaced : ℕ → ℕ → List ℕ → List FeatureRow → List RelationRow → List RelationRow
replaced type old new [] rows = rows
replaced type old new (f ∷ fs) rows = replaced type old new fs (adds (map (row_of type f) new) (without (row_of type f old) rows))

-- a row that no feature's writes touch
abbrev pub Clear : ℕ → ℕ → List ℕ → RelationRow → List FeatureRow → Type 0
Clear type old new r [] = Unit {0}
Clear type old new r (f ∷ fs) = ((same_row (row_of type f old) r ≡ false) × AllAgree r (map (row_of type f) new)) × Clear type old new r fs

pub pull : (type old : ℕ) (new : List ℕ) (r : RelationRow) (fs : List FeatureRow) (rows : List RelationRow) → Clear type old new r fs → Ascend rows
    → replaced type old new fs (insert_row r rows) ≡ insert_row r (replaced type old new fs rows)
pull type old new r [] rows h k = refl
pull type old new r (f ∷ fs) rows h k =
    ap (λ rs. replaced type old new fs (adds (map (row_of type f) new) rs)) (drop_put (row_of type f old) r rows h.0.0 k)
    ∙ ap (replaced type old new fs) (adds_put r (map (row_of type f) new) (without (row_of type f old) rows) h.0.1)
    ∙ pull type old new r fs (adds (map (row_of type f) new) (without (row_of type f old) rows)) h.1
    (ascend_adds (map (row_of type f) new) (without (row_of type f old) rows) (ascend_drop (row_of type f old) rows k))

abbrev pub AllClear : ℕ → ℕ → List ℕ → List RelationRow → List FeatureRow → Type 0
AllClear type old new [] fs = Unit {0}
AllClear type old new (r ∷ more) fs = Clear type old new r fs × AllClear type old new more fs

pub pull_all : (type old : ℕ) (new : List ℕ) (more : List RelationRow) (fs : List FeatureRow) (rows : List RelationRow) → AllClear type old new more fs → Ascend rows
    → replaced type old new fs (puts more rows) ≡ puts more (replaced type old new fs rows)
pull_all type old new [] fs rows h k = refl
pull_all type old new (r ∷ more) fs rows h k =
    pull type old new r fs (puts more rows) h.0 (ascend_puts more rows k) ∙ ap (insert_row r) (pull_all type old new more fs rows h.1 k)

-- the rows of one feature agree
agree_rows : (type : ℕ) (f : FeatureRow) (id : ℕ) (new : List ℕ) → AllAgree (row_of type f id) (map (row_of type f) new)
agree_rows type f id [] = tt
agree_rows type f id (n ∷ new) = (λ same. ap (row_of type f) (same_element (row_of type f n) (row_of type f id) same), agree_rows type f id new)

agree_pairwise : (type : ℕ) (f : FeatureRow) (new : List ℕ) → AgreePairwise (map (row_of type f) new)
agree_pairwise type f [] = tt
agree_pairwise type f (n ∷ new) = (agree_rows type f n new, agree_pairwise type f new)

pub or_true : (a b : Bool) → b ≡ true → (a || b) ≡ true
or_true true b h = refl
or_true false b h = h

layer_by : (a b l m : ℕ) → (not (a == b) || l == m) ≡ true → a ≡ b → l ≡ m
layer_by a b l m h e = grind (arith, nat_tests)

-- a row of another key, or with the layer of the feature, agrees with the rows of the feature
row_is : (type : ℕ) (f : FeatureRow) (id : ℕ) (r : RelationRow) → (not (f.feature_id == r.topogeo_id) || f.layer_id == r.layer_id) ≡ true → same_row (row_of type f id) r ≡ true → row_of type f id ≡ r
row_is type f id r h same =
    let e : f.feature_id ≡ r.topogeo_id = same_topogeo (row_of type f id) r same in
    let l : f.layer_id ≡ r.layer_id = layer_by f.feature_id r.topogeo_id f.layer_id r.layer_id h e in
    let x : id ≡ r.element_id = same_element (row_of type f id) r same in
    let t : type ≡ r.element_type = same_type (row_of type f id) r same in
    λ i. record { topogeo_id = e i; layer_id = l i; element_id = x i; element_type = t i }

agree_by : (type : ℕ) (f : FeatureRow) (r : RelationRow) (new : List ℕ) → (not (f.feature_id == r.topogeo_id) || f.layer_id == r.layer_id) ≡ true → AllAgree r (map (row_of type f) new)
agree_by type f r [] h = tt
agree_by type f r (n ∷ new) h = (row_is type f n r h, agree_by type f r new h)

-- the features of the rows that list the old element
abbrev pub features_in : (RelationRow → Bool) → List RelationRow → List FeatureRow
features_in lists rows = map feature_of (filter lists rows)

pub features_none : (lists : RelationRow → Bool) (r : RelationRow) (rows : List RelationRow) → lists r ≡ false → features_in lists (r ∷ rows) ≡ features_in lists rows
features_none lists r rows h = ap (λ b. map feature_of (cond b (r ∷ filter lists rows) (filter lists rows))) h

pub features_one : (lists : RelationRow → Bool) (r : RelationRow) (rows : List RelationRow) → lists r ≡ true → features_in lists (r ∷ rows) ≡ feature_of r ∷ features_in lists rows
features_one lists r rows h = ap (λ b. map feature_of (cond b (r ∷ filter lists rows) (filter lists rows))) h

pub equal : (a b : ℕ) → (a == b) ≡ true → a ≡ b
equal a b h = grind (arith, nat_tests)

row_same : (r : RelationRow) (type old : ℕ) → r.element_type ≡ type → r.element_id ≡ old → row_of type (feature_of r) old ≡ r
row_same r type old e f = ap (λ t. row_of t (feature_of r) old) (sym e) ∙ ap (row_of r.element_type (feature_of r)) (sym f)

-- a row that lists the old element is that row of its feature
pub is_row_of : (S : Drawing) (type old : ℕ) (r : RelationRow) → lists_element S type old r ≡ true → row_of type (feature_of r) old ≡ r
is_row_of S type old r h =
    let outer = and_parts (r.element_type == type && r.element_id == old) (not (is_hierarchical S r.layer_id)) h in
    let inner = and_parts (r.element_type == type) (r.element_id == old) outer.0 in
    row_same r type old (equal _ _ inner.0) (equal _ _ inner.1)

true_false : {b : Bool} → b ≡ true → b ≡ false → ⊥
true_false h k = absurd cc

-- a row before others is clear of the features in them
clear_at : (S : Drawing) (type old : ℕ) (new : List ℕ) (r c : RelationRow) (rows : List RelationRow) (b : Bool) → lists_element S type old c ≡ b → row_before r c ≡ true
    → has_layer_of (features_in (lists_element S type old) (c ∷ rows)) r ≡ true
    → (has_layer_of (features_in (lists_element S type old) rows) r ≡ true → Clear type old new r (features_in (lists_element S type old) rows))
    → Clear type old new r (features_in (lists_element S type old) (c ∷ rows))
clear_at S type old new r c rows false e p layers ih =
    let same = features_none (lists_element S type old) c rows e in
    subst (Clear type old new r) (sym same) (ih (subst (λ fs. has_layer_of fs r ≡ true) same layers))
clear_at S type old new r c rows true e p layers ih =
    let same = features_one (lists_element S type old) c rows e in
    let k = and_parts (not (c.topogeo_id == r.topogeo_id) || c.layer_id == r.layer_id) (has_layer_of (features_in (lists_element S type old) rows) r) (subst (λ fs. has_layer_of fs r ≡ true) same layers) in
    let other : same_row (row_of type (feature_of c) old) r ≡ false = ap (λ x. same_row x r) (is_row_of S type old c e) ∙ same_turned c r ∙ before_not_same r c p in
    subst (Clear type old new r) (sym same) ((other, agree_by type (feature_of c) r new k.0), ih k.1)

clear_before : (S : Drawing) (type old : ℕ) (new : List ℕ) (r : RelationRow) (rows : List RelationRow) → AllAfter r rows
    → has_layer_of (features_in (lists_element S type old) rows) r ≡ true → Clear type old new r (features_in (lists_element S type old) rows)
clear_before S type old new r [] h layers = tt
clear_before S type old new r (c ∷ rows) h layers = clear_at S type old new r c rows (lists_element S type old c) refl h.0 layers (clear_before S type old new r rows h.1)

-- a new row of a feature is clear of the other features
other_feature : (type : ℕ) (f g : FeatureRow) (n m : ℕ) → (f.feature_id == g.feature_id) ≡ false → same_row (row_of type f n) (row_of type g m) ≡ false
other_feature type f g n m h = ap (λ b. b && type == type && n == m) h

agree_other : (type : ℕ) (f g : FeatureRow) (id : ℕ) (new : List ℕ) → (f.feature_id == g.feature_id) ≡ false → AllAgree (row_of type g id) (map (row_of type f) new)
agree_other type f g id [] h = tt
agree_other type f g id (n ∷ new) h = (λ same. absurd (true_false same (other_feature type f g n id h)), agree_other type f g id new h)

apart_by : (type old : ℕ) (f g : FeatureRow) → same_row (row_of type f old) (row_of type g old) ≡ false → (f.feature_id == g.feature_id) ≡ false
apart_by type old f g h = grind (arith, nat_tests)

clear_part_at : (S : Drawing) (type old : ℕ) (new : List ℕ) (g : FeatureRow) (id : ℕ) (c : RelationRow) (rows : List RelationRow) (b : Bool) → lists_element S type old c ≡ b → same_row c (row_of type g old) ≡ false
    → Clear type old new (row_of type g id) (features_in (lists_element S type old) rows) → Clear type old new (row_of type g id) (features_in (lists_element S type old) (c ∷ rows))
clear_part_at S type old new g id c rows false e other ih = subst (Clear type old new (row_of type g id)) (sym (features_none (lists_element S type old) c rows e)) ih
clear_part_at S type old new g id c rows true e other ih =
    let apart : (c.topogeo_id == g.feature_id) ≡ false = apart_by type old (feature_of c) g (ap (λ x. same_row x (row_of type g old)) (is_row_of S type old c e) ∙ other) in
    subst (Clear type old new (row_of type g id)) (sym (features_one (lists_element S type old) c rows e))
    ((other_feature type (feature_of c) g old id apart, agree_other type (feature_of c) g id new apart), ih)

clear_part : (S : Drawing) (type old : ℕ) (new : List ℕ) (g : FeatureRow) (id : ℕ) (rows : List RelationRow) → AllAfter (row_of type g old) rows → Clear type old new (row_of type g id) (features_in (lists_element S type old) rows)
clear_part S type old new g id [] h = tt
clear_part S type old new g id (c ∷ rows) h =
    clear_part_at S type old new g id c rows (lists_element S type old c) refl (same_turned c (row_of type g old) ∙ before_not_same (row_of type g old) c h.0) (clear_part S type old new g id rows h.1)

clear_parts : (S : Drawing) (type old : ℕ) (new ids : List ℕ) (g : FeatureRow) (rows : List RelationRow) → AllAfter (row_of type g old) rows → AllClear type old new (map (row_of type g) ids) (features_in (lists_element S type old) rows)
clear_parts S type old new [] g rows h = tt
clear_parts S type old new (n ∷ ids) g rows h = (clear_part S type old new g n rows h, clear_parts S type old new ids g rows h)

tests_same : (a b : Bool) (n old : ℕ) → ((a && n == n && b) && (old == n || false)) ≡ (a && n == old && b)
tests_same a b n old = grind (arith, nat_tests)

-- what follows one row
pub follows_test : (S : Drawing) (type old : ℕ) (r : RelationRow) → (lists_element S type r.element_id r && is_among r.element_id (old ∷ [])) ≡ lists_element S type old r
follows_test S type old r = tests_same (r.element_type == type) (not (is_hierarchical S r.layer_id)) r.element_id old

followed_is : (S : Drawing) (type old : ℕ) (new : List ℕ) (r : RelationRow) (b : Bool) → lists_element S type old r ≡ b → followed S type (old ∷ []) new r ≡ cond b (with_elements new r) (r ∷ [])
followed_is S type old new r b h = ap (λ x. cond x (with_elements new r) (r ∷ [])) (follows_test S type old r ∙ h)

parts_are : (type old : ℕ) (new : List ℕ) (r : RelationRow) → row_of type (feature_of r) old ≡ r → map (row_of type (feature_of r)) new ≡ with_elements new r
parts_are type old new r e = ap (λ t. map (row_of t (feature_of r)) new) (ap (λ (x : RelationRow). x.element_type) e)

-- rows that have the layers of some features have those of fewer
fewer_layers : (f : FeatureRow) (fs : List FeatureRow) (rows : List RelationRow) → list_all (has_layer_of (f ∷ fs)) rows ≡ true → list_all (has_layer_of fs) rows ≡ true
fewer_layers f fs [] h = refl
fewer_layers f fs (r ∷ rows) h =
    let o = and_parts (has_layer_of (f ∷ fs) r) (list_all (has_layer_of (f ∷ fs)) rows) h in
    let k = and_parts (not (f.feature_id == r.topogeo_id) || f.layer_id == r.layer_id) (has_layer_of fs r) o.0 in
    and_from _ _ k.1 (fewer_layers f fs rows o.1)

-- the rows that are replaced in order are those that follow
replaced_at : (S : Drawing) (type old : ℕ) (new : List ℕ) (r : RelationRow) (rows : List RelationRow) (b : Bool) → lists_element S type old r ≡ b → AllAfter r rows → Ascend rows
    → list_all (has_layer_of (features_in (lists_element S type old) (r ∷ rows))) (r ∷ rows) ≡ true
    → (list_all (has_layer_of (features_in (lists_element S type old) rows)) rows ≡ true → replaced type old new (features_in (lists_element S type old) rows) rows ≡ ordered (flat_map (followed S type (old ∷ []) new) rows))
    → replaced type old new (features_in (lists_element S type old) (r ∷ rows)) (r ∷ rows) ≡ ordered (flat_map (followed S type (old ∷ []) new) (r ∷ rows))
replaced_at S type old new r rows false e h k layers ih =
    let same = features_none (lists_element S type old) r rows e in
    let fs = features_in (lists_element S type old) rows in
    let o = and_parts (has_layer_of fs r) (list_all (has_layer_of fs) rows) (subst (λ gs. list_all (has_layer_of gs) (r ∷ rows) ≡ true) same layers) in
    ap (λ gs. replaced type old new gs (r ∷ rows)) same
    ∙ ap (replaced type old new fs) (sym (put_first r rows h))
    ∙ pull type old new r fs rows (clear_before S type old new r rows h o.0) k
    ∙ ap (insert_row r) (ih o.1)
    ∙ ap (λ rs. ordered (rs ++ flat_map (followed S type (old ∷ []) new) rows)) (sym (followed_is S type old new r false e))
replaced_at S type old new r rows true e h k layers ih =
    let same = features_one (lists_element S type old) r rows e in
    let g = feature_of r in
    let fs = features_in (lists_element S type old) rows in
    let o = and_parts (has_layer_of (g ∷ fs) r) (list_all (has_layer_of (g ∷ fs)) rows) (subst (λ gs. list_all (has_layer_of gs) (r ∷ rows) ≡ true) same layers) in
    let is = is_row_of S type old r e in
    let parts = map (row_of type g) new in
    let after : AllAfter (row_of type g old) rows = subst (λ x. AllAfter x rows) (sym is) h in
    ap (λ gs. replaced type old new gs (r ∷ rows)) same
    ∙ ap (λ rs. replaced type old new fs (adds parts rs)) (drop_same (row_of type g old) r rows (ap (λ x. same_row x r) is ∙ same_itself r) ∙ drop_none (row_of type g old) rows after)
    ∙ ap (replaced type old new fs) (adds_puts parts rows (agree_pairwise type g new))
    ∙ pull_all type old new parts fs rows (clear_parts S type old new new g rows after) k
    ∙ ap (puts parts) (ih (fewer_layers g fs rows o.1))
    ∙ sym (ordered_puts parts (flat_map (followed S type (old ∷ []) new) rows))
    ∙ ap (λ rs. ordered (rs ++ flat_map (followed S type (old ∷ []) new) rows)) (parts_are type old new r is ∙ sym (followed_is S type old new r true e))

pub replaced_follows : (S : Drawing) (type old : ℕ) (new : List ℕ) (rows : List RelationRow) → Ascend rows → list_all (has_layer_of (features_in (lists_element S type old) rows)) rows ≡ true
    → replaced type old new (features_in (lists_element S type old) rows) rows ≡ ordered (flat_map (followed S type (old ∷ []) new) rows)
replaced_follows S type old new [] h layers = refl
replaced_follows S type old new (r ∷ rows) h layers = replaced_at S type old new r rows (lists_element S type old r) refl h.0 h.1 layers (replaced_follows S type old new rows h.1)

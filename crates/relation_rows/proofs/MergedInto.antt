-- Elements that are merged into one, one after the other.
use Rattle.std.proofs.Common.{◌≡◌, ◌∙◌, ℕ, Bool, true, false, not, cond, ◌&&◌, ◌||◌, ◌==◌, eqb-true, eq-eqb, List, [], ◌∷◌, ◌++◌, map, filter, flat_map, IsTrue, refl, sym, ap, subst}
use Rattle.std.specs.List.{list_all}
use Rattle.std.proofs.lemmas.Bool.{and_parts, and_from}
use Rattle.std.proofs.lemmas.List.Folds.{list_any-append}
use Rattle.topo_base.specs.declared.rows.FeatureRow.{FeatureRow}
use Rattle.topo_base.specs.declared.rows.LayerRow.{LayerRow}
use Rattle.topo_base.specs.declared.rows.RelationRow.{RelationRow}
use Rattle.drawing.specs.Content.{listing}
use Rattle.drawing.specs.Drawing.{Drawing, feature_at, feature_id_of, layer_id_of}
use Rattle.drawing.specs.Relations.{row_before, same_row, insert_row, ordered, is_among, lists_element, followed, follow}
use Rattle.drawing.specs.Rows.{has_row}
use Rattle.drawing.specs.Subdivision.{is_row_known, references_known, rows_ascend}
use Rattle.drawing.specs.Tables.{Tables, drawn}
use Rattle.drawing.specs.Writable.{has_feature_row, has_layer_row}
use Rattle.relation_rows.specs.Following.{AreFeaturesOf, feature_of, has_layer_of, is_known}
use Rattle.relation_rows.specs.KnownRows.{EachRow, HasLayer, KnowsRows}
use Rattle.relation_rows.proofs.KnownFeatures.{known_row, layer_in, references_parts}
use Rattle.relation_rows.proofs.Order.{same_element, same_itself, same_topogeo, same_type}
use Rattle.relation_rows.proofs.Putting.{Stand, stand, put_before, put_at, put_after, put_first, commutes, Ascend, ascend_of, ascend_put}
use Rattle.relation_rows.proofs.Putting.Stand.{Before, Same, After}
use Rattle.relation_rows.proofs.Writing.{with_rows}

-- ---- a quality of each row
each_put_at : (P : RelationRow → Type 0) (a b : RelationRow) (rows : List RelationRow) → P a → EachRow P (b ∷ rows) → EachRow P (insert_row a rows) → Stand a b → EachRow P (insert_row a (b ∷ rows))
each_put_at P a b rows first h ih (Before q) = subst (EachRow P) (sym (put_before a b rows q)) (first, h)
each_put_at P a b rows first h ih (Same q) = subst (EachRow P) (sym (put_at a b rows q)) h
each_put_at P a b rows first h ih (After q) = subst (EachRow P) (sym (put_after a b rows q)) (h.0, ih)

each_put : (P : RelationRow → Type 0) (a : RelationRow) (rows : List RelationRow) → P a → EachRow P rows → EachRow P (insert_row a rows)
each_put P a [] first h = (first, tt)
each_put P a (b ∷ rows) first h = each_put_at P a b rows first h (each_put P a rows first h.1) (stand a b)

each_ordered : (P : RelationRow → Type 0) (rows : List RelationRow) → EachRow P rows → EachRow P (ordered rows)
each_ordered P [] h = tt
each_ordered P (a ∷ rows) h = each_put P a (ordered rows) h.0 (each_ordered P rows h.1)

each_map : (P : RelationRow → Type 0) (become : RelationRow → RelationRow) (rows : List RelationRow) → ((r : RelationRow) → P r → P (become r)) → EachRow P rows → EachRow P (map become rows)
each_map P become [] stays h = tt
each_map P become (r ∷ rows) stays h = (stays r h.0, each_map P become rows stays h.1)

each_of : (P : RelationRow → Type 0) (p : RelationRow → Bool) (rows : List RelationRow) → ((r : RelationRow) → p r ≡ true → P r) → list_all p rows ≡ true → EachRow P rows
each_of P p [] means h = tt
each_of P p (r ∷ rows) means h = let parts = and_parts (p r) (list_all p rows) h in (means r parts.0, each_of P p rows means parts.1)

-- ---- each row has the layer of its feature, so that rows of one key are one
pub one_row : (layer : ℕ → ℕ) (a b : RelationRow) → HasLayer layer a → HasLayer layer b → same_row a b ≡ true → a ≡ b
one_row layer a b h k same =
    let topogeo = same_topogeo a b same in
    let element = same_element a b same in
    let type = same_type a b same in
    let layers = h ∙ ap layer topogeo ∙ sym k in
    λ i. record { topogeo_id = topogeo i; layer_id = layers i; element_id = element i; element_type = type i }

-- ---- rows that change before or after they are put in order
put_twice_at : (a b : RelationRow) (rows : List RelationRow) → insert_row a (insert_row a rows) ≡ insert_row a rows → Stand a b → insert_row a (insert_row a (b ∷ rows)) ≡ insert_row a (b ∷ rows)
put_twice_at a b rows ih (Before q) = ap (insert_row a) (put_before a b rows q) ∙ put_at a a (b ∷ rows) (same_itself a) ∙ sym (put_before a b rows q)
put_twice_at a b rows ih (Same q) = ap (insert_row a) (put_at a b rows q)
put_twice_at a b rows ih (After q) = ap (insert_row a) (put_after a b rows q) ∙ put_after a b (insert_row a rows) q ∙ ap (λ rs. b ∷ rs) ih ∙ sym (put_after a b rows q)

pub put_twice : (a : RelationRow) (rows : List RelationRow) → insert_row a (insert_row a rows) ≡ insert_row a rows
put_twice a [] = put_at a a [] (same_itself a)
put_twice a (b ∷ rows) = put_twice_at a b rows (put_twice a rows) (stand a b)

-- a change keeps the feature and the layer
pub record KeepsFeature (become : RelationRow → RelationRow) : Type 0 where
  pub feature : (r : RelationRow) → (become r).topogeo_id ≡ r.topogeo_id
  pub layer : (r : RelationRow) → (become r).layer_id ≡ r.layer_id

layer_kept : (layer : ℕ → ℕ) (become : RelationRow → RelationRow) (r : RelationRow) → KeepsFeature become → HasLayer layer r → HasLayer layer (become r)
layer_kept layer become r keeps h = keeps.layer r ∙ h ∙ ap layer (sym (keeps.feature r))

map_put_at : (layer : ℕ → ℕ) (become : RelationRow → RelationRow) (a b : RelationRow) (rows : List RelationRow) → KeepsFeature become → HasLayer layer a → HasLayer layer b
    → ordered (map become (insert_row a rows)) ≡ insert_row (become a) (ordered (map become rows)) → Stand a b
    → ordered (map become (insert_row a (b ∷ rows))) ≡ insert_row (become a) (ordered (map become (b ∷ rows)))
map_put_at layer become a b rows keeps h k ih (Before q) = ap (λ rs. ordered (map become rs)) (put_before a b rows q)
map_put_at layer become a b rows keeps h k ih (Same q) =
    let same = one_row layer a b h k q in
    ap (λ rs. ordered (map become rs)) (put_at a b rows q)
    ∙ sym (put_twice (become b) (ordered (map become rows)))
    ∙ ap (λ x. insert_row (become x) (ordered (map become (b ∷ rows)))) (sym same)
map_put_at layer become a b rows keeps h k ih (After q) =
    ap (λ rs. ordered (map become rs)) (put_after a b rows q)
    ∙ ap (insert_row (become b)) ih
    ∙ commutes (become b) (become a) (ordered (map become rows)) (one_row layer (become b) (become a) (layer_kept layer become b keeps k) (layer_kept layer become a keeps h))

map_put : (layer : ℕ → ℕ) (become : RelationRow → RelationRow) (a : RelationRow) (rows : List RelationRow) → KeepsFeature become → HasLayer layer a → EachRow (HasLayer layer) rows
    → ordered (map become (insert_row a rows)) ≡ insert_row (become a) (ordered (map become rows))
map_put layer become a [] keeps h k = refl
map_put layer become a (b ∷ rows) keeps h k = map_put_at layer become a b rows keeps h k.0 (map_put layer become a rows keeps h k.1) (stand a b)

pub map_ordered : (layer : ℕ → ℕ) (become : RelationRow → RelationRow) (rows : List RelationRow) → KeepsFeature become → EachRow (HasLayer layer) rows → ordered (map become (ordered rows)) ≡ ordered (map become rows)
map_ordered layer become [] keeps h = refl
map_ordered layer become (a ∷ rows) keeps h =
    map_put layer become a (ordered rows) keeps h.0 (each_ordered (HasLayer layer) rows h.1) ∙ ap (insert_row (become a)) (map_ordered layer become rows keeps h.1)

-- ---- elements that become one
abbrev pub merged_row : Drawing → ℕ → List ℕ → ℕ → RelationRow → RelationRow
merged_row S type old new r = cond (lists_element S type r.element_id r && is_among r.element_id old) (record r { element_id = new }) r

alone : {X : Type 0} (b : Bool) (x y : X) → cond b (x ∷ []) (y ∷ []) ≡ cond b x y ∷ []
alone true x y = refl
alone false x y = refl

rows_merged : (S : Drawing) (type : ℕ) (old : List ℕ) (new : ℕ) (rows : List RelationRow) → flat_map (followed S type old (new ∷ [])) rows ≡ map (merged_row S type old new) rows
rows_merged S type old new [] = refl
rows_merged S type old new (r ∷ rows) =
    let first = alone (lists_element S type r.element_id r && is_among r.element_id old) (record r { element_id = new }) r in
    let rest = rows_merged S type old new rows in
    λ i. first i ++ rest i

pub follow_merged : (S : Drawing) (type : ℕ) (old : List ℕ) (new : ℕ) → follow S type old (new ∷ []) ≡ ordered (map (merged_row S type old new) S.relations)
follow_merged S type old new = ap ordered (rows_merged S type old new S.relations)

row_keeps : (S : Drawing) (type : ℕ) (old : List ℕ) (new : ℕ) → KeepsFeature (merged_row S type old new)
row_keeps S type old new = record { feature = λ r. feature r (test r); layer = λ r. layer r (test r) }
  where
    test : RelationRow → Bool
    test r = lists_element S type r.element_id r && is_among r.element_id old

    feature : (r : RelationRow) (b : Bool) → (cond b (record r { element_id = new }) r).topogeo_id ≡ r.topogeo_id
    feature r true = refl
    feature r false = refl

    layer : (r : RelationRow) (b : Bool) → (cond b (record r { element_id = new }) r).layer_id ≡ r.layer_id
    layer r true = refl
    layer r false = refl

-- one more element that becomes the same
merged_twice : (S : Drawing) (type : ℕ) (done : List ℕ) (x new : ℕ) (r : RelationRow) → merged_row S type (x ∷ []) new (merged_row S type done new r) ≡ merged_row S type (done ++ x ∷ []) new r
merged_twice S type done x new r =
    by (lists_element S type r.element_id r && is_among r.element_id done) refl
    ∙ ap (λ b. cond (lists_element S type r.element_id r && b) (record r { element_id = new }) r) (sym (list_any-append (λ m. m == r.element_id) done (x ∷ [])))
  where
    either : (b : Bool) → cond b (record r { element_id = new }) (record r { element_id = new }) ≡ record r { element_id = new }
    either true = refl
    either false = refl

    rest : (l p q : Bool) → (l && p) ≡ false → cond (l && q) (record r { element_id = new }) r ≡ cond (l && (p || q)) (record r { element_id = new }) r
    rest true true q none = absurd cc
    rest true false q none = refl
    rest false p q none = refl

    more : (l p q : Bool) → (l && p) ≡ true → record r { element_id = new } ≡ cond (l && (p || q)) (record r { element_id = new }) r
    more true true q some = refl
    more true false q some = absurd cc
    more false p q some = absurd cc

    lists : Bool
    lists = lists_element S type r.element_id r

    among : Bool
    among = is_among r.element_id done

    by : (b : Bool) → (lists && among) ≡ b
        → merged_row S type (x ∷ []) new (cond b (record r { element_id = new }) r) ≡ cond (lists && (among || is_among r.element_id (x ∷ []))) (record r { element_id = new }) r
    by true e = either (lists_element S type new (record r { element_id = new }) && is_among new (x ∷ [])) ∙ more lists among (is_among r.element_id (x ∷ [])) e
    by false e = rest lists among (is_among r.element_id (x ∷ [])) e

rows_twice : (S : Drawing) (type : ℕ) (done : List ℕ) (x new : ℕ) (rows : List RelationRow) → map (merged_row S type (x ∷ []) new) (map (merged_row S type done new) rows) ≡ map (merged_row S type (done ++ x ∷ []) new) rows
rows_twice S type done x new [] = refl
rows_twice S type done x new (r ∷ rows) = let first = merged_twice S type done x new r in let rest = rows_twice S type done x new rows in λ i. first i ∷ rest i

-- one call after others is all of them at once
pub follow_onward : (S : Drawing) (type : ℕ) (done : List ℕ) (x new : ℕ) (layer : ℕ → ℕ) → EachRow (HasLayer layer) S.relations
    → follow (record S { relations = follow S type done (new ∷ []) }) type (x ∷ []) (new ∷ []) ≡ follow S type (done ++ x ∷ []) (new ∷ [])
follow_onward S type done x new layer layers =
    let become = merged_row S type (x ∷ []) new in
    let rows = map (merged_row S type done new) S.relations in
    follow_merged (record S { relations = follow S type done (new ∷ []) }) type (x ∷ []) new
    ∙ ap (λ rs. ordered (map become rs)) (follow_merged S type done new)
    ∙ map_ordered layer become rows (row_keeps S type (x ∷ []) new) (each_map (HasLayer layer) (merged_row S type done new) S.relations (λ r h. layer_kept layer (merged_row S type done new) r (row_keeps S type done new) h) layers)
    ∙ ap ordered (rows_twice S type done x new S.relations)
    ∙ sym (follow_merged S type (done ++ x ∷ []) new)

-- two calls
pub follow_two : (S : Drawing) (type l r new : ℕ) (layer : ℕ → ℕ) → EachRow (HasLayer layer) S.relations
    → follow (record S { relations = follow S type (l ∷ []) (new ∷ []) }) type (r ∷ []) (new ∷ []) ≡ follow S type (l ∷ r ∷ []) (new ∷ [])
follow_two S type l r new layer layers = follow_onward S type (l ∷ []) r new layer layers

-- and none
pub ordered_is : (rows : List RelationRow) → Ascend rows → ordered rows ≡ rows
ordered_is [] h = refl
ordered_is (a ∷ rows) h = ap (insert_row a) (ordered_is rows h.1) ∙ put_first a rows h.0

none_merged : (S : Drawing) (type new : ℕ) (rows : List RelationRow) → map (merged_row S type [] new) rows ≡ rows
none_merged S type new [] = refl
none_merged S type new (r ∷ rows) = let first = by (lists_element S type r.element_id r) in let rest = none_merged S type new rows in λ i. first i ∷ rest i
  where
    by : (b : Bool) → cond (b && false) (record r { element_id = new }) r ≡ r
    by true = refl
    by false = refl

pub follow_none : (S : Drawing) (type new : ℕ) → IsTrue (rows_ascend S.relations) → follow S type [] (new ∷ []) ≡ S.relations
follow_none S type new h = follow_merged S type [] new ∙ ap ordered (none_merged S type new S.relations) ∙ ordered_is S.relations (ascend_of S.relations h)

-- ---- rows of known features: what holds after each call, too
pub ascend_ordered : (rows : List RelationRow) → Ascend (ordered rows)
ascend_ordered [] = tt
ascend_ordered (a ∷ rows) = ascend_put a (ordered rows) (ascend_ordered rows)

pub ascend_test : (rows : List RelationRow) → Ascend rows → rows_ascend rows ≡ true
ascend_test [] h = refl
ascend_test (a ∷ []) h = refl
ascend_test (a ∷ b ∷ rest) h = and_from (row_before a b) (rows_ascend (b ∷ rest)) h.0.0 (ascend_test (b ∷ rest) h.1)

-- where all references are known
pub knows_rows : (S : Drawing) (t : Tables) → IsTrue (references_known S) → t.relations ≡ S.relations → t.features ≡ S.features → t.layers ≡ S.layers → KnowsRows t
knows_rows S t references same_rows same_features same_layers =
    let parts = references_parts S references in record {
      ascend = ap rows_ascend same_rows ∙ parts.ascend;
      layer = λ n. layer_in (feature_at S n);
      layers = subst (EachRow (HasLayer (λ n. layer_in (feature_at S n)))) (sym same_rows)
          (each_of (HasLayer (λ n. layer_in (feature_at S n))) (is_row_known S) S.relations (λ r h. (known_row S r h).same) parts.relations);
      known = subst (EachRow (λ r. is_known t (feature_of r) ≡ true)) (sym same_rows) (each_of (λ r. is_known t (feature_of r) ≡ true) (is_row_known S) S.relations there parts.relations);
    }
  where
    there : (r : RelationRow) → is_row_known S r ≡ true → is_known t (feature_of r) ≡ true
    there r h =
        let one = known_row S r h in
        and_from (has_feature_row t r.topogeo_id) (has_layer_row t r.layer_id)
        (ap (λ (fs : List FeatureRow). has_row feature_id_of fs r.topogeo_id) same_features ∙ one.feature) (ap (λ (ls : List LayerRow). has_row layer_id_of ls r.layer_id) same_layers ∙ one.layer)

pub knows_followed : (t : Tables) (type : ℕ) (old : List ℕ) (new : ℕ) → KnowsRows t → KnowsRows (with_rows t (follow (drawn t) type old (new ∷ [])))
knows_followed t type old new knows =
    let S = drawn t in
    let become = merged_row S type old new in
    let keeps = row_keeps S type old new in
    let is = sym (follow_merged S type old new) in
    record {
      ascend = ascend_test _ (ascend_ordered (flat_map (followed S type old (new ∷ [])) t.relations));
      layer = knows.layer;
      layers = subst (EachRow (HasLayer knows.layer)) is
          (each_ordered (HasLayer knows.layer) (map become t.relations) (each_map (HasLayer knows.layer) become t.relations (λ r h. layer_kept knows.layer become r keeps h) knows.layers));
      known = subst (EachRow (λ r. is_known t (feature_of r) ≡ true)) is
          (each_ordered (λ r. is_known t (feature_of r) ≡ true) (map become t.relations)
          (each_map (λ r. is_known t (feature_of r) ≡ true) become t.relations
          (λ r h. (λ i. is_known t (record { feature_id = keeps.feature r i; layer_id = keeps.layer r i })) ∙ h) knows.known));
    }

-- the features that list an element are features of the tables
features_all : (P : RelationRow → Type 0) (p : FeatureRow → Bool) (lists : RelationRow → Bool) (rows : List RelationRow) → ((r : RelationRow) → P r → p (feature_of r) ≡ true) → EachRow P rows
    → list_all p (map feature_of (filter lists rows)) ≡ true
features_all P p lists [] means h = refl
features_all P p lists (r ∷ rows) means h = by (lists r) (means r h.0) (features_all P p lists rows means h.1)
  where
    by : (b : Bool) → p (feature_of r) ≡ true → list_all p (map feature_of (filter lists rows)) ≡ true → list_all p (map feature_of (cond b (r ∷ filter lists rows) (filter lists rows))) ≡ true
    by true first rest = and_from (p (feature_of r)) (list_all p (map feature_of (filter lists rows))) first rest
    by false first rest = rest

rows_all : (P : RelationRow → Type 0) (p : RelationRow → Bool) (rows : List RelationRow) → ((r : RelationRow) → P r → p r ≡ true) → EachRow P rows → list_all p rows ≡ true
rows_all P p [] means h = refl
rows_all P p (r ∷ rows) means h = and_from (p r) (list_all p rows) (means r h.0) (rows_all P p rows means h.1)

one_layer : (layer : ℕ → ℕ) (q r : RelationRow) → HasLayer layer q → HasLayer layer r → (not (q.topogeo_id == r.topogeo_id) || q.layer_id == r.layer_id) ≡ true
one_layer layer q r h k = by (q.topogeo_id == r.topogeo_id) refl
  where
    by : (b : Bool) → (q.topogeo_id == r.topogeo_id) ≡ b → (not b || q.layer_id == r.layer_id) ≡ true
    by true e = eq-eqb q.layer_id r.layer_id (h ∙ ap layer (eqb-true q.topogeo_id r.topogeo_id e) ∙ sym k)
    by false e = refl

pub rows_features : (t : Tables) (type id : ℕ) (features : List FeatureRow) → KnowsRows t → features ≡ listing (lists_element (drawn t) type id) (drawn t) → AreFeaturesOf t type id features
rows_features t type id features knows is = record {
  ascend = knows.ascend;
  listed = is;
  known = ap (list_all (is_known t)) is ∙ features_all (λ r. is_known t (feature_of r) ≡ true) (is_known t) lists t.relations (λ r h. h) knows.known;
  layers = rows_all (HasLayer knows.layer) (has_layer_of features) t.relations layer knows.layers;
}
  where
    lists : RelationRow → Bool
    lists = lists_element (drawn t) type id

    layer : (r : RelationRow) → HasLayer knows.layer r → has_layer_of features r ≡ true
    layer r k =
        ap (list_all (λ (f : FeatureRow). not (f.feature_id == r.topogeo_id) || f.layer_id == r.layer_id)) is
        ∙ features_all (HasLayer knows.layer) (λ (f : FeatureRow). not (f.feature_id == r.topogeo_id) || f.layer_id == r.layer_id) lists t.relations (λ q h. one_layer knows.layer q r h k) knows.layers

-- The writes of a feature that comes.
use Rattle.std.proofs.Common.{◌≡◌, ◌∙◌, ℕ, ◌+◌, ◌<◌, Bool, true, false, ◌&&◌, ◌||◌, ◌==◌, nat_le, nat_lt, eqb-true, eq-eqb, List, [], ◌∷◌, ◌++◌, map, arith, refl, sym, ap, subst, None, IsTrue}
use Rattle.std.specs.List.{list_all, list_any}
use Rattle.std.proofs.lemmas.List.{append-nil}
use Rattle.std.proofs.lemmas.Bool.{and_parts}
use Rattle.std.proofs.lemmas.Bool.Decides.{nat_tests}
use Rattle.std.proofs.lemmas.List.Folds.{list_any-append}
use Rattle.topo_base.specs.declared.edit.Pair.{Pair}
use Rattle.topo_base.specs.declared.rows.Counters.{Counters}
use Rattle.topo_base.specs.declared.rows.FeatureRow.{FeatureRow}
use Rattle.topo_base.specs.declared.rows.LayerRow.{LayerRow}
use Rattle.topo_base.specs.declared.rows.RelationRow.{RelationRow}
use Rattle.topo_base.specs.declared.write.RowId.TheVariants.{Old}
use Rattle.topo_base.specs.declared.write.RowWrite.TheVariants.{AddFeature}
use Rattle.drawing.specs.Drawing.{Drawing, feature_id_of}
use Rattle.drawing.specs.Layers.{row_for}
use Rattle.drawing.specs.Edits.{with_feature}
use Rattle.drawing.specs.Outcome.{the_feature}
use Rattle.drawing.specs.Relations.{insert_row, ordered, row_before, same_row}
use Rattle.drawing.specs.Rows.{has_row}
use Rattle.drawing.specs.Subdivision.{ascend_between, ids_in_order, is_row_known, references_known}
use Rattle.drawing.specs.Tables.{Tables, tables_of}
use Rattle.drawing.specs.Writable.{CanWriteAll, has_feature_row, has_layer_row}
use Rattle.drawing.specs.Writes.{all_written, written}
use Rattle.plane.proofs.ListTests.{all_weaker}
use Rattle.relation_rows.proofs.KnownFeatures.{known_row, references_parts}
use Rattle.relation_rows.proofs.Order.{same_element, same_type}
use Rattle.relation_rows.proofs.Putting.{AgreePairwise, AllAgree, adds, adds_puts, put_after, puts}
use Rattle.relation_rows.proofs.Writing.{with_rows}
use Rattle.read_set.specs.Edited.{Follows}
use Rattle.read_set.specs.declared.edited.Edited.{Edited}
use Rattle.read_set.specs.Ready.{IsReady}
use Rattle.topogeom_points.specs.Rows.{row_write, rows_come}
use Rattle.topogeom_points.proofs.Levels.{lt_of}

-- ---- the rows of a feature of one layer
agree : (t l : ℕ) (x y : Pair) → same_row (row_for t l y) (row_for t l x) ≡ true → row_for t l y ≡ row_for t l x
agree t l x y h =
    let id : y.id ≡ x.id = same_element (row_for t l y) (row_for t l x) h in
    let type : y.element_type ≡ x.element_type = same_type (row_for t l y) (row_for t l x) h in
    λ i. row_for t l (record { id = id i; element_type = type i })

agree_all : (t l : ℕ) (x : Pair) (xs : List Pair) → AllAgree (row_for t l x) (map (row_for t l) xs)
agree_all t l x [] = tt
agree_all t l x (y ∷ xs) = (agree t l x y, agree_all t l x xs)

agree_pairs : (t l : ℕ) (xs : List Pair) → AgreePairwise (map (row_for t l) xs)
agree_pairs t l [] = tt
agree_pairs t l (x ∷ xs) = (agree_all t l x xs, agree_pairs t l xs)

-- ---- rows behind all others
before_row : (t l : ℕ) (x : Pair) (r : RelationRow) → nat_lt r.topogeo_id t ≡ true → row_before r (row_for t l x) ≡ true
before_row t l x r h = grind (arith, nat_tests)

put_behind : (t l : ℕ) (x : Pair) (rows more : List RelationRow) → list_all (λ (r : RelationRow). nat_lt r.topogeo_id t) rows ≡ true → insert_row (row_for t l x) (rows ++ more) ≡ rows ++ insert_row (row_for t l x) more
put_behind t l x [] more h = refl
put_behind t l x (r ∷ rows) more h =
    let parts = and_parts (nat_lt r.topogeo_id t) (list_all (λ (s : RelationRow). nat_lt s.topogeo_id t) rows) h in
    put_after (row_for t l x) r (rows ++ more) (before_row t l x r parts.0) ∙ ap (λ rs. r ∷ rs) (put_behind t l x rows more parts.1)

puts_behind : (t l : ℕ) (xs : List Pair) (rows : List RelationRow) → list_all (λ (r : RelationRow). nat_lt r.topogeo_id t) rows ≡ true → puts (map (row_for t l) xs) rows ≡ rows ++ ordered (map (row_for t l) xs)
puts_behind t l [] rows h = sym (append-nil rows)
puts_behind t l (x ∷ xs) rows h = ap (insert_row (row_for t l x)) (puts_behind t l xs rows h) ∙ put_behind t l x rows (ordered (map (row_for t l) xs)) h

-- ---- a row is of a feature that is there, whose id is below the next one
of_lt : (a b : ℕ) → a < b → nat_lt a b ≡ true
of_lt a b h = grind (arith, nat_tests)

row_below : (low next n : ℕ) (rows : List FeatureRow) → ascend_between low next (map feature_id_of rows) ≡ true → has_row feature_id_of rows n ≡ true → n < next
row_below low next n [] h there = absurd cc
row_below low next n (r ∷ rows) h there =
    let parts = and_parts (nat_le low r.feature_id && nat_lt r.feature_id next) (ascend_between (r.feature_id + 1) next (map feature_id_of rows)) h in
    let bounds = and_parts (nat_le low r.feature_id) (nat_lt r.feature_id next) parts.0 in
    by (r.feature_id == n) refl there (lt_of r.feature_id next bounds.1) (row_below (r.feature_id + 1) next n rows parts.1)
  where
    by : (b : Bool) → (r.feature_id == n) ≡ b → (b || has_row feature_id_of rows n) ≡ true → r.feature_id < next → (has_row feature_id_of rows n ≡ true → n < next) → n < next
    by true e q first rest = let same = eqb-true r.feature_id n e in omega arith
    by false e q first rest = rest q

rows_before : (S : Drawing) → IsTrue (ids_in_order S) → IsTrue (references_known S) → list_all (λ (r : RelationRow). nat_lt r.topogeo_id S.next_ids.feature) S.relations ≡ true
rows_before S ids references =
    let known = references_parts S references in
    let ascend : ascend_between 1 S.next_ids.feature (map feature_id_of S.features) ≡ true = (and_parts _ _ ids).1 in
    all_weaker (is_row_known S) (λ (r : RelationRow). nat_lt r.topogeo_id S.next_ids.feature)
    (λ r k. of_lt r.topogeo_id S.next_ids.feature (row_below 1 S.next_ids.feature r.topogeo_id S.features ascend (known_row S r k).feature))
    S.relations known.relations

-- ---- one write after the other
can_come : (n : Counters) (t : Tables) (f l : ℕ) (xs : List Pair) → IsTrue (has_feature_row t f) → IsTrue (has_layer_row t l) → CanWriteAll n t (rows_come f l xs)
can_come n t f l [] there layer = tt
can_come n t f l (x ∷ xs) there layer = ((there, layer, tt), can_come n (written n t (row_write f l x)) f l xs there layer)

rows_written : (n : Counters) (t : Tables) (f l : ℕ) (xs : List Pair) → all_written n t (rows_come f l xs) ≡ with_rows t (adds (map (row_for f l) xs) t.relations)
rows_written n t f l [] = refl
rows_written n t f l (x ∷ xs) = rows_written n (written n t (row_write f l x)) f l xs

last_there : (features : List FeatureRow) (f : FeatureRow) → IsTrue (has_row feature_id_of (features ++ f ∷ []) f.feature_id)
last_there features f =
    list_any-append (λ (r : FeatureRow). r.feature_id == f.feature_id) features (f ∷ [])
    ∙ ap (λ b. list_any (λ (r : FeatureRow). r.feature_id == f.feature_id) features || (b || false)) (eq-eqb f.feature_id f.feature_id refl)
    ∙ end (list_any (λ (r : FeatureRow). r.feature_id == f.feature_id) features)
  where
    end : (b : Bool) → (b || true) ≡ true
    end true = refl
    end false = refl

-- ---- a feature comes
pub feature_comes : (S : Drawing) (layer : LayerRow) (xs : List Pair) (d : Edited) → IsReady S → IsTrue (has_layer_row (tables_of S) layer.layer_id)
    → d.writes ≡ AddFeature (Old S.next_ids.feature) (Old layer.layer_id) ∷ rows_come S.next_ids.feature layer.layer_id xs → d.ids ≡ the_feature S.next_ids.feature ∷ []
    → Follows S (with_feature S layer xs None) d
feature_comes S layer xs d ready there writes ids =
    let new = S.next_ids.feature in
    let l = layer.layer_id in
    let n = S.next_ids in
    let rows = map (row_for new l) xs in
    let first = written n (tables_of S) (AddFeature (Old new) (Old l)) in
    let put : adds rows S.relations ≡ S.relations ++ ordered rows =
    adds_puts rows S.relations (agree_pairs new l xs) ∙ puts_behind new l xs S.relations (rows_before S ready.ids ready.references) in
    let listed = last_there S.features (record { feature_id = new; layer_id = l }) in
    record {
      done = record {
        drawing = record S {
          features = S.features ++ record { feature_id = new; layer_id = l } ∷ [];
          relations = S.relations ++ ordered rows;
          next_ids = record (S.next_ids) { feature = new + 1 };
        };
        ids = the_feature new ∷ [];
      };
      accepted = refl;
      named = sym ids;
      writable = subst (λ ws. CanWriteAll n (tables_of S) ws) (sym writes) (((refl, ready.feature_more), there), can_come n first new l xs listed there);
      tables = ap (all_written n (tables_of S)) writes ∙ rows_written n first new l xs ∙ ap (with_rows first) put;
    }

-- Where a feature comes or goes, its rows and those of other features stay known.
use Rattle.std.proofs.Common.{◌≡◌, ◌≢◌, ◌∙◌, ℕ, ◌+◌, ◌<◌, refl, sym, ap, subst, ⊎_elim, Bool, true, false, not, ◌&&◌, ◌||◌, ◌==◌, nat_lt, eqb-true, eq-eqb, lt-ltb, List, [], ◌∷◌, ◌++◌, map, filter, Option, Some, None, is_some}
use Rattle.std.specs.List.{Contains, list_all, list_any}
use Rattle.std.proofs.lemmas.Bool.{and_from, false≢true, or_left}
use Rattle.std.proofs.lemmas.List.Elements.{Contains-append_cases}
use Rattle.std.proofs.lemmas.List.Folds.{list_all-append}
use Rattle.topo_base.specs.declared.edit.Pair.{Pair}
use Rattle.topo_base.specs.declared.kind.Kind.{Kind}
use Rattle.topo_base.specs.declared.kind.Kind.TheVariants.{Puntal, Lineal, Areal}
use Rattle.topo_base.specs.declared.rows.FeatureRow.{FeatureRow}
use Rattle.topo_base.specs.declared.rows.LayerRow.{LayerRow}
use Rattle.topo_base.specs.declared.rows.RelationRow.{RelationRow}
use Rattle.topo_base.specs.declared.rule.Rule.{Rule}
use Rattle.topo_base.specs.declared.rule.Rule.TheVariants.{ElementListed}
use Rattle.drawing.specs.Drawing.{Drawing, edge_id_of, feature_at, feature_id_of, node_id_of, layer_at}
use Rattle.drawing.specs.Layers.{element_rule, elements_rule, is_feature_of, missing, or_else, row_for, same_pair}
use Rattle.drawing.specs.Relations.{is_hierarchical, lists_feature, ordered, row_before}
use Rattle.drawing.specs.Rows.{has_row, row_at, without_row}
use Rattle.drawing.specs.Subdivision.{is_row_known, is_row_of}
use Rattle.plane.proofs.ListTests.{contains_cases, contains_here, contains_none, contains_there}
use Rattle.drawing.proofs.Members.{contains-filtered, contains-found, contains-mapped, ids_within}
use Rattle.drawing.proofs.Ordering.{InOrder}
use Rattle.drawing.proofs.RowLemmas.{row_at-without_other}
use Rattle.relation_rows.proofs.Putting.{AllAfter, Ascend, ascend_of}
use Rattle.relation_rows.proofs.MergedInto.{ascend_test, ascend_ordered}
use Rattle.ring_laws.proofs.Known.{all_in, all_out, any_in}
use Rattle.reference_laws.proofs.Followed.{each_row, in_ordered}
use Rattle.reference_laws.proofs.KnownRows.{IsRow, HasKnownRows, has_listed, has_of, hierarchical_of, row_from}
use Rattle.edit_changes.specs.Evidence.{FeatureMayCome}
use Rattle.reference_laws.proofs.LayerChanges.{ascend_filter, found_more, found_new, rule_parts}

-- ---- a row where the features are others
kind_same : (S T : Drawing) (kind : Kind) (id : ℕ) → T.nodes ≡ S.nodes → T.edges ≡ S.edges → T.faces ≡ S.faces → has_of S kind id ≡ true → has_of T kind id ≡ true
kind_same S T Puntal id nodes edges faces h = ap (λ rows. has_row node_id_of rows id) nodes ∙ h
kind_same S T Lineal id nodes edges faces h = ap (λ rows. has_row edge_id_of rows id) edges ∙ h
kind_same S T Areal id nodes edges faces h = ap (λ fs. not (id == 0) && list_any (λ g. g == id) fs) faces ∙ h

-- the features T instead of those of S
abbrev pub with_features : Drawing → List FeatureRow → List RelationRow → ℕ → Drawing
with_features S features relations next = record S { features = features; relations = relations; next_ids = record (S.next_ids) { feature = next } }

row_stays : (S : Drawing) (features : List FeatureRow) (relations : List RelationRow) (next : ℕ) (r : RelationRow) (k : IsRow S r) → is_row_of r (row_at feature_id_of features r.topogeo_id) ≡ true
    → ((c : ℕ) → k.layer.child_id ≡ Some c → is_feature_of c (feature_at S r.element_id) ≡ true → is_feature_of c (row_at feature_id_of features r.element_id) ≡ true) → IsRow (with_features S features relations next) r
row_stays S features relations next r k of listed = record { feature = of; layer = k.layer; there = k.there; type = k.type; listed = by k.layer.child_id refl k.listed }
  where
    T : Drawing
    T = with_features S features relations next

    by : (o : Option ℕ) → k.layer.child_id ≡ o → has_listed S k.layer.feature_type o r.element_id ≡ true → has_listed T k.layer.feature_type o r.element_id ≡ true
    by None e h = kind_same S T k.layer.feature_type r.element_id refl refl refl h
    by (Some c) e h = listed c e h

-- ---- a feature comes
feature_more : (c : ℕ) (o p : Option FeatureRow) → ((t : FeatureRow) → o ≡ Some t → p ≡ Some t) → is_feature_of c o ≡ true → is_feature_of c p ≡ true
feature_more c None p more h = absurd cc
feature_more c (Some t) p more h = ap (is_feature_of c) (more t refl) ∙ h

row_more : (r : RelationRow) (o p : Option FeatureRow) → ((t : FeatureRow) → o ≡ Some t → p ≡ Some t) → is_row_of r o ≡ true → is_row_of r p ≡ true
row_more r None p more h = absurd cc
row_more r (Some t) p more h = ap (is_row_of r) (more t refl) ∙ h

or_none : (a b : Option Rule) → or_else a b ≡ None → (a ≡ None) × (b ≡ None)
or_none None b e = (refl, e)
or_none (Some rule) b e = absurd cc

each_rule : (S : Drawing) (l : LayerRow) (earlier xs : List Pair) → elements_rule S l earlier xs ≡ None → (x : Pair) → Contains xs x → element_rule S l x ≡ None
each_rule S l earlier [] e x c = absurd (contains_none x c)
each_rule S l earlier (y ∷ ys) e x c =
    let first = or_none (element_rule S l y) (or_else (missing (not (list_any (same_pair y) earlier)) ElementListed) (elements_rule S l (y ∷ earlier) ys)) e in
    let second = or_none (missing (not (list_any (same_pair y) earlier)) ElementListed) (elements_rule S l (y ∷ earlier) ys) first.1 in
    ⊎_elim (λ (q : y ≡ x). subst (λ z. element_rule S l z ≡ None) q first.0) (λ (k : Contains ys x). each_rule S l (y ∷ earlier) ys second.1 x k) (contains_cases x y ys c)

after_all_of : (a : RelationRow) (rows : List RelationRow) → ((b : RelationRow) → Contains rows b → row_before a b ≡ true) → AllAfter a rows
after_all_of a [] each = tt
after_all_of a (b ∷ rows) each = (each b (contains_here b rows), after_all_of a rows (λ x c. each x (contains_there x b rows c)))

after_append : (a : RelationRow) (rows more : List RelationRow) → AllAfter a rows → AllAfter a more → AllAfter a (rows ++ more)
after_append a [] more h k = k
after_append a (b ∷ rows) more h k = (h.0, after_append a rows more h.1 k)

ascend_append : (rows more : List RelationRow) → Ascend rows → Ascend more → ((a b : RelationRow) → Contains rows a → Contains more b → row_before a b ≡ true) → Ascend (rows ++ more)
ascend_append [] more h k each = k
ascend_append (a ∷ rows) more h k each =
    (after_append a rows more h.0 (after_all_of a more (λ b d. each a b (contains_here a rows) d)), ascend_append rows more h.1 k (λ x b c d. each x b (contains_there x a rows c) d))

before_by : (a b : RelationRow) → a.topogeo_id < b.topogeo_id → row_before a b ≡ true
before_by a b h = or_left (nat_lt a.topogeo_id b.topogeo_id || a.topogeo_id == b.topogeo_id && nat_lt a.element_type b.element_type) _ (or_left (nat_lt a.topogeo_id b.topogeo_id) _ (lt-ltb a.topogeo_id b.topogeo_id h))

below_new : (S : Drawing) (r : RelationRow) → InOrder feature_id_of 1 S.next_ids.feature S.features → IsRow S r → r.topogeo_id < S.next_ids.feature
below_new S r ordered k = by (feature_at S r.topogeo_id) refl k.feature
  where
    by : (o : Option FeatureRow) → feature_at S r.topogeo_id ≡ o → is_row_of r o ≡ true → r.topogeo_id < S.next_ids.feature
    by None e h = absurd cc
    by (Some t) e h =
        let c = contains-found (λ x. feature_id_of x == r.topogeo_id) t S.features e in
        subst (λ n. n < S.next_ids.feature) (eqb-true t.feature_id r.topogeo_id c.1) (ids_within feature_id_of 1 S.next_ids.feature S.features t ordered c.0).1

pub feature_came : (S : Drawing) (l : LayerRow) (xs : List Pair) → FeatureMayCome S l xs → InOrder feature_id_of 1 S.next_ids.feature S.features → HasKnownRows S
    → HasKnownRows (with_features S (S.features ++ record { feature_id = S.next_ids.feature; layer_id = l.layer_id } ∷ []) (S.relations ++ ordered (map (row_for S.next_ids.feature l.layer_id) xs)) (S.next_ids.feature + 1))
feature_came S l xs k below knows = record {
  layers = knows.layers;
  names = knows.names;
  features = list_all-append (λ (t : FeatureRow). is_some (layer_at S t.layer_id)) S.features (feature ∷ [])
      ∙ and_from (list_all (λ (t : FeatureRow). is_some (layer_at S t.layer_id)) S.features) (is_some (layer_at S l.layer_id) && true) knows.features (and_from (is_some (layer_at S l.layer_id)) true (ap is_some k.found) refl);
  relations = all_in (is_row_known T) T.relations (λ r c. row_from T r (⊎_elim (λ (d : Contains S.relations r). old r d) (λ (d : Contains (ordered_rows) r). fresh r d) (Contains-append_cases S.relations ordered_rows r c)));
  ascend = ascend_test T.relations (ascend_append S.relations ordered_rows (ascend_of S.relations knows.ascend) (ascend_ordered rows) (λ a b c d. before_by a b (subst (λ n. a.topogeo_id < n) (sym (topogeo_of b d)) (below_new S a below (each_row S knows a c)))));
}
  where
    new : ℕ
    new = S.next_ids.feature

    feature : FeatureRow
    feature = record { feature_id = new; layer_id = l.layer_id }

    rows : List RelationRow
    rows = map (row_for new l.layer_id) xs

    ordered_rows : List RelationRow
    ordered_rows = ordered rows

    T : Drawing
    T = with_features S (S.features ++ feature ∷ []) (S.relations ++ ordered rows) (new + 1)

    more : (n : ℕ) (t : FeatureRow) → feature_at S n ≡ Some t → feature_at T n ≡ Some t
    more n t h = found_more feature_id_of S.features feature t n h

    old : (r : RelationRow) → Contains S.relations r → IsRow T r
    old r c =
        let q = each_row S knows r c in
        row_stays S (S.features ++ feature ∷ []) (S.relations ++ ordered rows) (new + 1) r q (row_more r (feature_at S r.topogeo_id) (feature_at T r.topogeo_id) (more r.topogeo_id) q.feature)
        (λ ch _ h. feature_more ch (feature_at S r.element_id) (feature_at T r.element_id) (more r.element_id) h)

    topogeo_of : (r : RelationRow) → Contains (ordered rows) r → r.topogeo_id ≡ new
    topogeo_of r c = let m = contains-mapped (row_for new l.layer_id) r xs (in_ordered r rows c) in ap (λ (x : RelationRow). x.topogeo_id) (sym m.1.1)

    fresh : (r : RelationRow) → Contains (ordered rows) r → IsRow T r
    fresh r c =
        let m = contains-mapped (row_for new l.layer_id) r xs (in_ordered r rows c) in
        subst (IsRow T) m.1.1 (of_pair m.0 (each_rule S l [] xs k.allowed m.0 m.1.0))
      where
        of_pair : (x : Pair) → element_rule S l x ≡ None → IsRow T (row_for new l.layer_id x)
        of_pair x free =
            let parts = rule_parts S l x free in
            record {
              feature = ap (is_row_of (row_for new l.layer_id x)) (found_new feature_id_of 1 new S.features feature below refl) ∙ eq-eqb l.layer_id l.layer_id refl;
              layer = l;
              there = k.found;
              type = parts.0;
              listed = by l.child_id parts.1;
            }
          where
            by : (o : Option ℕ) → has_listed S l.feature_type o x.id ≡ true → has_listed T l.feature_type o x.id ≡ true
            by None h = kind_same S T l.feature_type x.id refl refl refl h
            by (Some ch) h = feature_more ch (feature_at S x.id) (feature_at T x.id) (more x.id) h

-- ---- a feature goes
pub feature_gone : (S : Drawing) (t : FeatureRow) → list_any (lists_feature S t.feature_id) S.relations ≡ false → HasKnownRows S
    → HasKnownRows (with_features S (without_row feature_id_of S.features t.feature_id) (filter (λ (r : RelationRow). not (r.topogeo_id == t.feature_id)) S.relations) S.next_ids.feature)
feature_gone S t free knows = record {
  layers = knows.layers;
  names = knows.names;
  features = all_in (λ (s : FeatureRow). is_some (layer_at S s.layer_id)) T.features (λ s c. all_out (λ (s : FeatureRow). is_some (layer_at S s.layer_id)) S.features s knows.features (contains-filtered (λ (s : FeatureRow). not (feature_id_of s == t.feature_id)) s S.features c).0);
  relations = all_in (is_row_known T) T.relations (λ r c. let d = contains-filtered test r S.relations c in row_from T r (stays free r d.0 d.1));
  ascend = ascend_test T.relations (ascend_filter test S.relations (ascend_of S.relations knows.ascend));
}
  where
    test : RelationRow → Bool
    test r = not (r.topogeo_id == t.feature_id)

    T : Drawing
    T = with_features S (without_row feature_id_of S.features t.feature_id) (filter (λ (r : RelationRow). not (r.topogeo_id == t.feature_id)) S.relations) S.next_ids.feature

    apart : (a b : ℕ) → not (a == b) ≡ true → a ≢ b
    apart a b h same = false≢true (sym (ap not (eq-eqb a b same)) ∙ h)

    unlisted : list_any (lists_feature S t.feature_id) S.relations ≡ false → (r : RelationRow) (k : IsRow S r) (c : ℕ) → Contains S.relations r → k.layer.child_id ≡ Some c → r.element_id ≢ t.feature_id
    unlisted free r k c d e same =
        false≢true (sym free ∙ any_in (lists_feature S t.feature_id) S.relations r d (and_from (r.element_id == t.feature_id) (is_hierarchical S r.layer_id) (eq-eqb r.element_id t.feature_id same) (hierarchical_of S r k c e)))

    stays : list_any (lists_feature S t.feature_id) S.relations ≡ false → (r : RelationRow) → Contains S.relations r → not (r.topogeo_id == t.feature_id) ≡ true → IsRow T r
    stays free r d other =
        let k = each_row S knows r d in
        row_stays S (without_row feature_id_of S.features t.feature_id) (filter (λ (q : RelationRow). not (q.topogeo_id == t.feature_id)) S.relations) S.next_ids.feature r k
        (ap (is_row_of r) (row_at-without_other feature_id_of S.features t.feature_id r.topogeo_id (apart r.topogeo_id t.feature_id other)) ∙ k.feature)
        (λ c e h. ap (is_feature_of c) (row_at-without_other feature_id_of S.features t.feature_id r.element_id (unlisted free r k c d e)) ∙ h)

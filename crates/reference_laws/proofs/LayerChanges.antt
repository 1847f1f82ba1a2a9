-- Layers that come, and rows that come and go, keep what is known of layers, features and rows.
use Rattle.std.proofs.Common.{◌≡◌, ◌∙◌, ℕ, ◌+◌, refl, sym, ap, subst, arith, ⊎_elim, Bool, true, false, not, cond, ◌&&◌, ◌==◌, eqb, eqb-true, eq-eqb, List, [], ◌∷◌, ◌++◌, filter, Option, Some, None, is_some}
use Rattle.std.specs.List.{Contains, list_all, list_any}
use Rattle.std.specs.Option.{option_or}
use Rattle.std.specs.Str.{bytes_eq}
use Rattle.std.proofs.lemmas.Bool.{and_from, and_parts, cond_both, not-true, or_from, or_parts}
use Rattle.std.proofs.lemmas.List.Folds.{list_all-append, list_any-append}
use Rattle.topo_base.specs.Kinds.{kind_number}
use Rattle.topo_base.specs.declared.edit.Pair.{Pair}
use Rattle.topo_base.specs.declared.kind.Kind.{Kind}
use Rattle.topo_base.specs.declared.kind.Kind.TheVariants.{Puntal, Lineal, Areal}
use Rattle.topo_base.specs.declared.rows.FeatureRow.{FeatureRow}
use Rattle.topo_base.specs.declared.rows.LayerRow.{LayerRow}
use Rattle.topo_base.specs.declared.rows.RelationRow.{RelationRow}
use Rattle.drawing.specs.Drawing.{Drawing, layer_at, layer_id_of}
use Rattle.drawing.specs.Layers.{element_rule, is_name_taken, row_for, same_kind}
use Rattle.drawing.specs.Relations.{insert_row, ordered}
use Rattle.drawing.specs.Rows.{row_at}
use Rattle.drawing.specs.Subdivision.{is_above, is_layer_known, is_row_known, is_row_of, names_differ}
use Rattle.drawing.proofs.Members.{contains-filtered, contains-found, ids_within}
use Rattle.plane.proofs.ListTests.{all_weaker}
use Rattle.drawing.proofs.Ordering.{InOrder}
use Rattle.drawing.proofs.RowLemmas.{row_at-append}
use Rattle.relation_rows.proofs.Putting.{AllAfter, Ascend, ascend_of, ascend_put}
use Rattle.relation_rows.proofs.MergedInto.{ascend_test}
use Rattle.ring_laws.proofs.Known.{all_in}
use Rattle.edit_changes.specs.Evidence.{FeatureMayList, IsLevel, LayerMayCome}
use Rattle.reference_laws.proofs.Followed.{each_row, in_put}
use Rattle.reference_laws.proofs.KnownRows.{IsRow, HasKnownRows, has_listed, has_of, number_in, row_from, row_parts, rule_is}

-- ---- rows that are found
pub record IsFound {R : Type 0} (o : Option R) : Type 0 where
  pub row : R
  pub is : o ≡ Some row

found : {R : Type 0} (o : Option R) → is_some o ≡ true → IsFound o
found None h = absurd cc
found (Some r) h = record { row = r; is = refl }

pub found_more : {R : Type 0} (id : R → ℕ) (rows : List R) (new r : R) (n : ℕ) → row_at id rows n ≡ Some r → row_at id (rows ++ new ∷ []) n ≡ Some r
found_more id rows new r n e = row_at-append id rows new n ∙ ap (λ o. option_or o (cond (eqb (id new) n) (Some new) None)) e

-- the row that comes with the next id is found
none_or : {R : Type 0} (o : Option R) → ((r : R) → o ≡ Some r → ⊥) → o ≡ None
none_or None h = refl
none_or (Some r) h = absurd (h r refl)

pub found_new : {R : Type 0} (id : R → ℕ) (low next : ℕ) (rows : List R) (new : R) → InOrder id low next rows → id new ≡ next → row_at id (rows ++ new ∷ []) next ≡ Some new
found_new id low next rows new ordered is =
    let none = none_or (row_at id rows next) (λ r e.
    let c = contains-found (λ x. id x == next) r rows e in
    let below = (ids_within id low next rows r ordered c.0).1 in
    let same = eqb-true (id r) next c.1 in
    omega arith) in
    row_at-append id rows new next ∙ ap (λ o. option_or o (cond (eqb (id new) next) (Some new) None)) none ∙ ap (λ b. cond b (Some new) None) (eq-eqb (id new) next is)

-- ---- a layer comes
layer_kept : (S T : Drawing) (l : LayerRow) (o : Option ℕ) → ((n : ℕ) (m : LayerRow) → layer_at S n ≡ Some m → layer_at T n ≡ Some m) → is_layer_known S l o ≡ true → is_layer_known T l o ≡ true
layer_kept S T l None more h = h
layer_kept S T l (Some child) more h = by (layer_at S child) refl h
  where
    by : (o : Option LayerRow) → layer_at S child ≡ o → is_above l o ≡ true → is_above l (layer_at T child) ≡ true
    by None e k = absurd cc
    by (Some m) e k = ap (is_above l) (more child m e) ∙ k

names_more : (ls : List LayerRow) (new : LayerRow) → names_differ ls ≡ true → list_any (λ (l : LayerRow). bytes_eq l.name new.name) ls ≡ false → names_differ (ls ++ new ∷ []) ≡ true
names_more [] new h free = refl
names_more (l ∷ ls) new h free =
    let parts = and_parts (not (list_any (λ (m : LayerRow). bytes_eq l.name m.name) ls)) (names_differ ls) h in
    let both = or_parts (bytes_eq l.name new.name) (list_any (λ (m : LayerRow). bytes_eq m.name new.name) ls) free in
    and_from (not (list_any (λ (m : LayerRow). bytes_eq l.name m.name) (ls ++ new ∷ []))) (names_differ (ls ++ new ∷ []))
    (ap not (list_any-append (λ (m : LayerRow). bytes_eq l.name m.name) ls (new ∷ []) ∙ or_from _ _ (not-true _ parts.0) (or_from (bytes_eq l.name new.name) false both.0 refl)))
    (names_more ls new parts.1 both.1)

some_more : (S T : Drawing) (n : ℕ) → ((m : ℕ) (l : LayerRow) → layer_at S m ≡ Some l → layer_at T m ≡ Some l) → is_some (layer_at S n) ≡ true → is_some (layer_at T n) ≡ true
some_more S T n more h = let f = found (layer_at S n) h in ap is_some (more n f.row f.is)

layer_more : (S : Drawing) (new : LayerRow) (next : ℕ) → is_name_taken S new.name ≡ false → ((T : Drawing) → T.layers ≡ S.layers ++ new ∷ [] → is_layer_known T new new.child_id ≡ true) → HasKnownRows S
    → HasKnownRows (record S { layers = S.layers ++ new ∷ []; next_ids = record (S.next_ids) { layer = next } })
layer_more S new next free known knows = record {
  layers = list_all-append (λ (l : LayerRow). is_layer_known T l l.child_id) S.layers (new ∷ [])
      ∙ and_from (list_all (λ (l : LayerRow). is_layer_known T l l.child_id) S.layers) (is_layer_known T new new.child_id && true)
      (all_weaker (λ (l : LayerRow). is_layer_known S l l.child_id) (λ (l : LayerRow). is_layer_known T l l.child_id) (λ l h. layer_kept S T l l.child_id more h) S.layers knows.layers)
      (and_from (is_layer_known T new new.child_id) true (known T refl) refl);
  names = names_more S.layers new knows.names free;
  features = all_weaker (λ (t : FeatureRow). is_some (layer_at S t.layer_id)) (λ (t : FeatureRow). is_some (layer_at T t.layer_id)) (λ t h. some_more S T t.layer_id more h) S.features knows.features;
  relations = all_weaker (is_row_known S) (is_row_known T) (λ r h. row_from T r (moved r (row_parts S r h))) S.relations knows.relations;
  ascend = knows.ascend;
}
  where
    T : Drawing
    T = record S { layers = S.layers ++ new ∷ []; next_ids = record (S.next_ids) { layer = next } }

    more : (n : ℕ) (m : LayerRow) → layer_at S n ≡ Some m → layer_at T n ≡ Some m
    more n m e = found_more layer_id_of S.layers new m n e

    moved : (r : RelationRow) → IsRow S r → IsRow T r
    moved r k = record { feature = k.feature; layer = k.layer; there = more r.layer_id k.layer k.there; type = k.type; listed = by k.layer.child_id k.listed }
      where
        kind_by : (kind : Kind) → has_of S kind r.element_id ≡ true → has_of T kind r.element_id ≡ true
        kind_by Puntal h = h
        kind_by Lineal h = h
        kind_by Areal h = h

        by : (o : Option ℕ) → has_listed S k.layer.feature_type o r.element_id ≡ true → has_listed T k.layer.feature_type o r.element_id ≡ true
        by None h = kind_by k.layer.feature_type h
        by (Some c) h = h

kinds_turned : (a b : Kind) → same_kind a b ≡ true → same_kind b a ≡ true
kinds_turned a b h = eq-eqb (kind_number b) (kind_number a) (sym (eqb-true (kind_number a) (kind_number b) h))

-- the child stands in any drawing with a layer more
layer_stands : (S T : Drawing) (new : LayerRow) (kind : Kind) (child : Option ℕ) (level : ℕ) → IsLevel S kind child level → T.layers ≡ S.layers ++ new ∷ [] → new.level ≡ level → new.feature_type ≡ kind → is_layer_known T new child ≡ true
layer_stands S T new kind None level k is l t = eq-eqb new.level 0 (l ∙ k)
layer_stands S T new kind (Some child) level k is l t =
    ap (is_above new) (ap (λ (ls : List LayerRow). row_at layer_id_of ls child) is ∙ found_more layer_id_of S.layers new k.row child k.found)
    ∙ and_from (new.level == k.row.level + 1) (same_kind new.feature_type k.row.feature_type) (eq-eqb new.level (k.row.level + 1) (l ∙ sym k.level_is)) (subst (λ a. same_kind a k.row.feature_type ≡ true) (sym t) (kinds_turned k.row.feature_type kind k.kind_is))

pub layer_came : (S : Drawing) (name : List ℕ) (kind : Kind) (child : Option ℕ) (level : ℕ) → LayerMayCome S name kind child level → HasKnownRows S
    → HasKnownRows (record S { layers = S.layers ++ record { layer_id = S.next_ids.layer; level = level; child_id = child; feature_type = kind; name = name } ∷ []; next_ids = record (S.next_ids) { layer = S.next_ids.layer + 1 } })
layer_came S name kind child level k knows =
    let new : LayerRow = record { layer_id = S.next_ids.layer; level = level; child_id = child; feature_type = kind; name = name } in
    layer_more S new (S.next_ids.layer + 1) k.unnamed (λ T is. layer_stands S T new kind child level k.stands is refl refl) knows

-- ---- rows come and go
rows_only : (S : Drawing) (rows : List RelationRow) → ((r : RelationRow) → Contains rows r → IsRow S r) → Ascend rows → HasKnownRows S → HasKnownRows (record S { relations = rows })
rows_only S rows each ascend knows = record {
  layers = knows.layers;
  names = knows.names;
  features = knows.features;
  relations = all_in (is_row_known (record S { relations = rows })) rows (λ r c. row_from S r (each r c));
  ascend = ascend_test rows ascend;
}

-- a row of an element that the layer may list
pub rule_parts : (S : Drawing) (l : LayerRow) (x : Pair) → element_rule S l x ≡ None → (x.element_type ≡ number_in l.feature_type l.child_id) × (has_listed S l.feature_type l.child_id x.id ≡ true)
rule_parts S l x e =
    let both = and_parts (x.element_type == number_in l.feature_type l.child_id) (has_listed S l.feature_type l.child_id x.id) (sym (rule_is S l.feature_type l.child_id x) ∙ ap (λ o. not (is_some o)) e) in
    (eqb-true x.element_type (number_in l.feature_type l.child_id) both.0, both.1)

pub row_came : (S : Drawing) (row : RelationRow) → FeatureMayList S row → HasKnownRows S → HasKnownRows (record S { relations = insert_row row S.relations })
row_came S row k knows = rows_only S (insert_row row S.relations) each (ascend_put row S.relations (ascend_of S.relations knows.ascend)) knows
  where
    is : IsRow S row
    is =
        let t = k.feature in
        let l = k.layer in
        let parts = rule_parts S l k.element k.allowed in
        subst (IsRow S) (sym k.row_is) (record {
          feature = ap (is_row_of (row_for t.feature_id l.layer_id k.element)) k.feature_found ∙ eq-eqb l.layer_id t.layer_id k.layer_is;
          layer = l;
          there = k.layer_found;
          type = parts.0;
          listed = parts.1;
        })

    each : (r : RelationRow) → Contains (insert_row row S.relations) r → IsRow S r
    each r c = ⊎_elim (λ (q : row ≡ r). subst (IsRow S) q is) (λ (k : Contains S.relations r). each_row S knows r k) (in_put row r S.relations c)

-- fewer rows
after_filter : (q : RelationRow → Bool) (a : RelationRow) (rows : List RelationRow) → AllAfter a rows → AllAfter a (filter q rows)
after_filter q a [] h = tt
after_filter q a (b ∷ rows) h = let rest = after_filter q a rows h.1 in cond_both (q b) (b ∷ filter q rows) (filter q rows) (AllAfter a) (λ _. (h.0, rest)) (λ _. rest)

pub ascend_filter : (q : RelationRow → Bool) (rows : List RelationRow) → Ascend rows → Ascend (filter q rows)
ascend_filter q [] h = tt
ascend_filter q (b ∷ rows) h = let rest = ascend_filter q rows h.1 in cond_both (q b) (b ∷ filter q rows) (filter q rows) Ascend (λ _. (after_filter q b rows h.0, rest)) (λ _. rest)

pub rows_gone : (S : Drawing) (test : RelationRow → Bool) → HasKnownRows S → HasKnownRows (record S { relations = filter test S.relations })
rows_gone S test knows = rows_only S (filter test S.relations) (λ r c. each_row S knows r (contains-filtered test r S.relations c).0) (ascend_filter test S.relations (ascend_of S.relations knows.ascend)) knows

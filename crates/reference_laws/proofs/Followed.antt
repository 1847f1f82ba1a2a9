-- Relation rows that follow elements stay known, and stay in order.
use Rattle.std.proofs.Common.{◌≡◌, ◌∙◌, ℕ, eqb-true, refl, sym, ap, subst, ◌⊎◌, inl, inr, ⊎_elim, Bool, true, false, not, cond, ◌&&◌, ◌==◌, List, [], ◌∷◌, Option, Some, None, is_some}
use Rattle.std.specs.List.{Contains, flat_map, list_all}
use Rattle.std.proofs.lemmas.Bool.{and_parts}
use Rattle.std.proofs.lemmas.List.Elements.{Contains-append_cases}
use Rattle.topo_base.specs.Kinds.{kind_number}
use Rattle.topo_base.specs.declared.kind.Kind.{Kind}
use Rattle.topo_base.specs.declared.rows.FeatureRow.{FeatureRow}
use Rattle.topo_base.specs.declared.rows.LayerRow.{LayerRow}
use Rattle.topo_base.specs.declared.rows.RelationRow.{RelationRow}
use Rattle.drawing.specs.Drawing.{Drawing, layer_at}
use Rattle.drawing.specs.Relations.{follow, followed, insert_row, is_among, is_hierarchical, lists_element, ordered, row_before, same_row, with_elements}
use Rattle.drawing.specs.Subdivision.{is_layer_known, is_row_known, names_differ, rows_ascend}
use Rattle.plane.proofs.ListTests.{contains_cases, contains_here, contains_none, contains_there}
use Rattle.drawing.proofs.Members.{contains-mapped}
use Rattle.relation_rows.proofs.MergedInto.{ascend_test, ascend_ordered}
use Rattle.ring_laws.proofs.Known.{all_in, all_out}
use Rattle.reference_laws.proofs.KnownRows.{IsRow, HasKnownRows, has_of, lists_of, lists_primitive, number_in, row_from, row_moves, row_parts}

-- ---- rows in order
in_put_by : (a b r : RelationRow) (rows : List RelationRow) (x y : Bool) → (Contains (insert_row a rows) r → (a ≡ r) ⊎ Contains rows r)
    → Contains (cond x (a ∷ b ∷ rows) (cond y (b ∷ rows) (b ∷ insert_row a rows))) r → (a ≡ r) ⊎ Contains (b ∷ rows) r
in_put_by a b r rows true y ih c = contains_cases r a (b ∷ rows) c
in_put_by a b r rows false true ih c = inr c
in_put_by a b r rows false false ih c =
    ⊎_elim (λ (e : b ≡ r). inr (subst (Contains (b ∷ rows)) e (contains_here b rows)))
    (λ (k : Contains (insert_row a rows) r). ⊎_elim (λ (e : a ≡ r). inl e) (λ (d : Contains rows r). inr (contains_there r b rows d)) (ih k)) (contains_cases r b (insert_row a rows) c)

pub in_put : (a r : RelationRow) (rows : List RelationRow) → Contains (insert_row a rows) r → (a ≡ r) ⊎ Contains rows r
in_put a r [] c = contains_cases r a [] c
in_put a r (b ∷ rows) c = in_put_by a b r rows (row_before a b) (same_row a b) (in_put a r rows) c

pub in_ordered : (r : RelationRow) (rows : List RelationRow) → Contains (ordered rows) r → Contains rows r
in_ordered r [] c = c
in_ordered r (a ∷ rows) c =
    ⊎_elim (λ (e : a ≡ r). subst (Contains (a ∷ rows)) e (contains_here a rows)) (λ (k : Contains (ordered rows) r). contains_there r a rows (in_ordered r rows k)) (in_put a r (ordered rows) c)

-- ---- rows that stay or are replaced
-- the row was there and stays, or lists a new element in the place of an old one
pub data Came (S : Drawing) (type : ℕ) (old new : List ℕ) (rows : List RelationRow) (r : RelationRow) : Type 0 where
  Stayed : Contains rows r → (lists_element S type r.element_id r && is_among r.element_id old) ≡ false → Came S type old new rows r
  Replaced : (q : RelationRow) → Contains rows q → (lists_element S type q.element_id q && is_among q.element_id old) ≡ true → (id : ℕ) → Contains new id → record q { element_id = id } ≡ r → Came S type old new rows r

pub came_more : (S : Drawing) (type : ℕ) (old new : List ℕ) (rows : List RelationRow) (q r : RelationRow) → Came S type old new rows r → Came S type old new (q ∷ rows) r
came_more S type old new rows q r (Stayed c h) = Stayed (contains_there r q rows c) h
came_more S type old new rows q r (Replaced p c h id d e) = Replaced p (contains_there p q rows c) h id d e

pub came_first : (S : Drawing) (type : ℕ) (old new : List ℕ) (rows : List RelationRow) (q r : RelationRow) (b : Bool) → (lists_element S type q.element_id q && is_among q.element_id old) ≡ b
    → Contains (cond b (with_elements new q) (q ∷ [])) r → Came S type old new (q ∷ rows) r
came_first S type old new rows q r true h c =
    let m = contains-mapped (λ id. record q { element_id = id }) r new c in
    Replaced q (contains_here q rows) h m.0 m.1.0 m.1.1
came_first S type old new rows q r false h c =
    ⊎_elim (λ (e : q ≡ r). subst (Came S type old new (q ∷ rows)) e (Stayed (contains_here q rows) h)) (λ (k : Contains [] r). absurd (contains_none r k)) (contains_cases r q [] c)

pub came : (S : Drawing) (type : ℕ) (old new : List ℕ) (rows : List RelationRow) (r : RelationRow) → Contains (flat_map (followed S type old new) rows) r → Came S type old new rows r
came S type old new [] r c = absurd (contains_none r c)
came S type old new (q ∷ rows) r c =
    ⊎_elim (λ (k : Contains (followed S type old new q) r). came_first S type old new rows q r (lists_element S type q.element_id q && is_among q.element_id old) refl k)
    (λ (k : Contains (flat_map (followed S type old new) rows) r). came_more S type old new rows q r (came S type old new rows r k))
    (Contains-append_cases (followed S type old new q) (flat_map (followed S type old new) rows) r c)

-- ---- elements of which another drawing has those that rows then list
pub record Follows (S T : Drawing) (type : ℕ) (old new : List ℕ) : Type 0 where
  -- an element that a row lists stays, but for an old one
  pub kept : (r : RelationRow) (kind : Kind) → Contains S.relations r → lists_element S (kind_number kind) r.element_id r ≡ true → (kind_number kind ≡ type → is_among r.element_id old ≡ false)
      → has_of S kind r.element_id ≡ true → has_of T kind r.element_id ≡ true
  -- where a row lists an old one, the new ones are there
  pub made : (r : RelationRow) (kind : Kind) (id : ℕ) → Contains S.relations r → kind_number kind ≡ type → lists_element S type r.element_id r ≡ true → is_among r.element_id old ≡ true
      → has_of S kind r.element_id ≡ true → Contains new id → has_of T kind id ≡ true

same_none : (o : Option ℕ) (c : ℕ) → o ≡ None → o ≡ Some c → ⊥
same_none o c p q = cc

came_known : (S T : Drawing) (type : ℕ) (old new : List ℕ) (r : RelationRow) → T.features ≡ S.features → T.layers ≡ S.layers → Follows S T type old new → ((q : RelationRow) → Contains S.relations q → IsRow S q)
    → Came S type old new S.relations r → IsRow T r
came_known S T type old new r features layers follows rows (Stayed c h) =
    let k = rows r c in
    row_moves S T r r.element_id k features layers (λ _ _. refl) (λ none has.
    let lists = lists_of S r k none in
    follows.kept r k.layer.feature_type c lists (λ same. ap (λ b. b && is_among r.element_id old) (sym (subst (λ n. lists_element S n r.element_id r ≡ true) same lists)) ∙ h) has)
came_known S T type old new r features layers follows rows (Replaced q c h id d e) =
    let k = rows q c in
    let both = and_parts (lists_element S type q.element_id q) (is_among q.element_id old) h in
    let lone = lists_primitive S type q.element_id q k both.0 in
    let kind_is : kind_number k.layer.feature_type ≡ type =
    ap (number_in k.layer.feature_type) (sym lone) ∙ sym k.type ∙ eqb-true q.element_type type (and_parts (q.element_type == type) (q.element_id == q.element_id) (and_parts (q.element_type == type && q.element_id == q.element_id) (not (is_hierarchical S q.layer_id)) both.0).0).0 in
    subst (IsRow T) e (row_moves S T q id k features layers (λ ch is. absurd (same_none k.layer.child_id ch lone is))
    (λ none has. follows.made q k.layer.feature_type id c kind_is both.0 both.1 has d))

pub each_row : (S : Drawing) → HasKnownRows S → (q : RelationRow) → Contains S.relations q → IsRow S q
each_row S knows q c = row_parts S q (all_out (is_row_known S) S.relations q knows.relations c)

-- a drawing with the same layers and features, whose rows follow
pub rows_follow : (S T : Drawing) (type : ℕ) (old new : List ℕ) → T.features ≡ S.features → T.layers ≡ S.layers → T.relations ≡ follow S type old new → Follows S T type old new → HasKnownRows S → HasKnownRows T
rows_follow S T type old new features layers relations follows knows = record {
  layers = (λ i. list_all (λ (l : LayerRow). is_layer_known (record T { layers = layers i }) l l.child_id) (layers i)) ∙ knows.layers;
  names = ap names_differ layers ∙ knows.names;
  features = (λ i. list_all (λ (t : FeatureRow). is_some (layer_at (record T { layers = layers i }) t.layer_id)) (features i)) ∙ knows.features;
  relations = all_in (is_row_known T) T.relations (λ r c.
      row_from T r (came_known S T type old new r features layers follows (each_row S knows)
      (came S type old new S.relations r (in_ordered r (flat_map (followed S type old new) S.relations) (subst (λ (rs : List RelationRow). Contains rs r) relations c)))));
  ascend = ap rows_ascend relations ∙ ascend_test (follow S type old new) (ascend_ordered (flat_map (followed S type old new) S.relations));
}

-- and one whose rows stay
pub rows_stay : (S T : Drawing) → T.features ≡ S.features → T.layers ≡ S.layers → T.relations ≡ S.relations
    → ((r : RelationRow) (kind : Kind) → Contains S.relations r → lists_element S (kind_number kind) r.element_id r ≡ true → has_of S kind r.element_id ≡ true → has_of T kind r.element_id ≡ true)
    → HasKnownRows S → HasKnownRows T
rows_stay S T features layers relations kept knows = record {
  layers = (λ i. list_all (λ (l : LayerRow). is_layer_known (record T { layers = layers i }) l l.child_id) (layers i)) ∙ knows.layers;
  names = ap names_differ layers ∙ knows.names;
  features = (λ i. list_all (λ (t : FeatureRow). is_some (layer_at (record T { layers = layers i }) t.layer_id)) (features i)) ∙ knows.features;
  relations = all_in (is_row_known T) T.relations (λ r c.
      let there = subst (λ (rs : List RelationRow). Contains rs r) relations c in
      let k = each_row S knows r there in
      row_from T r (row_moves S T r r.element_id k features layers (λ _ _. refl) (λ none has. kept r k.layer.feature_type there (lists_of S r k none) has)));
  ascend = ap rows_ascend relations ∙ knows.ascend;
}

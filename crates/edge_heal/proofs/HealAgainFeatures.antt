-- The features that list the parts of an edge, where references are known.
use Rattle.std.proofs.Common.{◌≡◌, ◌∙◌, ℕ, ◌<◌, ◌≤◌, refl, sym, ap, subst, arith, ◌⊎◌, inl, inr, Bool, true, false, cond, ◌&&◌, ◌==◌, eqb-true, eq-eqb, List, [], ◌∷◌, ◌++◌, map, filter, flat_map}
use Rattle.std.specs.List.{Contains, list_any}
use Rattle.std.specs.Str.{bytes_eq}
use Rattle.std.proofs.lemmas.Bool.{false≢true, false_from_ne_true}
use Rattle.topo_base.specs.Kinds.{kind_number}
use Rattle.topo_base.specs.declared.kind.Kind.{Kind}
use Rattle.topo_base.specs.declared.kind.Kind.TheVariants.{Puntal, Lineal, Areal}
use Rattle.topo_base.specs.declared.rows.NodeRow.{NodeRow}
use Rattle.topo_base.specs.declared.rows.RelationRow.{RelationRow}
use Rattle.drawing.specs.Drawing.{Drawing, edge_id_of, feature_at, has_node, node_id_of}
use Rattle.drawing.specs.Relations.{edge_type, insert_row, lists_element, node_type, ordered}
use Rattle.drawing.specs.RemoveEdge.{same_numbers}
use Rattle.drawing.specs.Subdivision.{is_row_known, rows_in_order}
use Rattle.plane.proofs.ListTests.{contains_here, contains_there}
use Rattle.drawing.proofs.Members.{ids_within}
use Rattle.relation_rows.proofs.KnownFeatures.{KnowsReferences, known_row, layer_in, references_parts}
use Rattle.relation_rows.proofs.Putting.{ascend_of, commutes, put_unlisted}
use Rattle.ring_laws.proofs.Known.{all_out, any_out}
use Rattle.reference_laws.proofs.Followed.{each_row}
use Rattle.reference_laws.proofs.KnownRows.{HasKnownRows, has_listed, has_of, lists_primitive, number_in}
use Rattle.reference_laws.specs.Referenced.{IsReferenced}
use Rattle.relation_rows.proofs.MergedInto.{one_row}
use Rattle.relation_rows.specs.Features.{features_in}
use Rattle.edge_heal.proofs.HealAgainRows.{CanPart, IsOf, can_rest, listed_id, listed_type, listed_with, of_parted, parted, parted_rows, put_part, with_id}
use Rattle.edge_heal.proofs.HealAgainRows.IsOf.{Stays, Part}

-- ---- both parts are listed by the features that list the edge
abbrev of_row : RelationRow → ℕ
of_row row = row.topogeo_id

turned : (x y : ℕ) → (x == y) ≡ false → (y == x) ≡ false
turned x y h = false_from_ne_true (y == x) (λ e. false≢true (sym h ∙ eq-eqb x y (sym (eqb-true y x e))))

-- the row of a part is put among the others
put_both : (S : Drawing) (type id x y : ℕ) (layer : ℕ → ℕ) (a : RelationRow) (rows : List RelationRow) → CanPart S type id x y layer (a ∷ rows) → lists_element S type id a ≡ true → (w : ℕ) → ((w ≡ x) ⊎ (w ≡ y))
    → filter (lists_element S type w) (insert_row (with_id x a) (insert_row (with_id y a) (parted_rows S type id x y rows))) ≡ with_id w a ∷ filter (lists_element S type w) (parted_rows S type id x y rows)
put_both S type id x y layer a rows g h w (inl e) =
    let Y = parted_rows S type id x y rows in
    let own = g.layers a (contains_here a rows) in
    let other : lists_element S type w (with_id y a) ≡ false = listed_with S type id w y a h ∙ ap (λ k. y == k) e ∙ turned x y g.differ in
    ap (filter (lists_element S type w)) (commutes (with_id x a) (with_id y a) Y (one_row layer (with_id x a) (with_id y a) own own))
    ∙ put_unlisted (lists_element S type w) (with_id y a) (insert_row (with_id x a) Y) other
    ∙ ap (λ k. filter (lists_element S type w) (insert_row (with_id k a) Y)) (sym e)
    ∙ put_part S type id x y layer a rows g h w (inl e)
put_both S type id x y layer a rows g h w (inr e) =
    let Y = parted_rows S type id x y rows in
    let other : lists_element S type w (with_id x a) ≡ false = listed_with S type id w x a h ∙ ap (λ k. x == k) e ∙ g.differ in
    put_unlisted (lists_element S type w) (with_id x a) (insert_row (with_id y a) Y) other
    ∙ ap (λ k. filter (lists_element S type w) (insert_row (with_id k a) Y)) (sym e)
    ∙ put_part S type id x y layer a rows g h w (inr e)

pub part_features : (S : Drawing) (type id x y : ℕ) (layer : ℕ → ℕ) (rows : List RelationRow) → CanPart S type id x y layer rows → (w : ℕ) → ((w ≡ x) ⊎ (w ≡ y))
    → features_in S type w (parted_rows S type id x y rows) ≡ features_in S type id rows
part_features S type id x y layer [] g w which = refl
part_features S type id x y layer (a ∷ rows) g w which = by (lists_element S type id a) refl (part_features S type id x y layer rows (can_rest S type id x y layer a rows g) w which)
  where
    by : (t : Bool) → lists_element S type id a ≡ t → features_in S type w (parted_rows S type id x y rows) ≡ features_in S type id rows
        → map of_row (filter (lists_element S type w) (ordered (cond t (with_id x a ∷ with_id y a ∷ []) (a ∷ []) ++ flat_map (parted S type id x y) rows)))
        ≡ map of_row (cond t (a ∷ filter (lists_element S type id) rows) (filter (lists_element S type id) rows))
    by true h ih = ap (map of_row) (put_both S type id x y layer a rows g h w which) ∙ ap (λ ns. a.topogeo_id ∷ ns) ih
    by false h ih = ap (map of_row) (put_unlisted (lists_element S type w) a (parted_rows S type id x y rows) (g.unlisted w which a (contains_here a rows) h)) ∙ ih

same_itself : (ns : List ℕ) → bytes_eq ns ns ≡ true
same_itself [] = refl
same_itself (n ∷ ns) = (λ i. eq-eqb n n refl i && bytes_eq ns ns) ∙ same_itself ns

pub same_features : (S : Drawing) (type id x y : ℕ) (layer : ℕ → ℕ) (rows : List RelationRow) → CanPart S type id x y layer rows
    → same_numbers (features_in S type x (parted_rows S type id x y rows)) (features_in S type y (parted_rows S type id x y rows)) ≡ true
same_features S type id x y layer rows g =
    let first = part_features S type id x y layer rows g x (inl refl) in
    let second = part_features S type id x y layer rows g y (inr refl) in
    (λ i. bytes_eq (first i) (second i)) ∙ same_itself (features_in S type id rows)

-- ---- what no row lists
filter_none : (p : RelationRow → Bool) (rows : List RelationRow) → ((r : RelationRow) → Contains rows r → p r ≡ false) → filter p rows ≡ []
filter_none p [] none = refl
filter_none p (r ∷ rows) none = ap (λ b. cond b (r ∷ filter p rows) (filter p rows)) (none r (contains_here r rows)) ∙ filter_none p rows (λ s c. none s (contains_there s r rows c))

pub others_unlisted : (S : Drawing) (type id x y other n : ℕ) (rows : List RelationRow) → (type == other) ≡ false → ((r : RelationRow) → Contains rows r → lists_element S other n r ≡ false)
    → features_in S other n (parted_rows S type id x y rows) ≡ []
others_unlisted S type id x y other n rows differ none = ap (map of_row) (filter_none (lists_element S other n) (parted_rows S type id x y rows) (λ b c. by b (of_parted S type id x y rows b c)))
  where
    by : (b : RelationRow) → IsOf S type id x y rows b → lists_element S other n b ≡ false
    by b (Stays c h) = none b c
    by b (Part r c h w which e) =
        false_from_ne_true (lists_element S other n b)
        (λ t. false≢true (sym differ ∙ eq-eqb type other (sym (listed_type S type id r h) ∙ listed_type S other n (with_id w r) (subst (λ s. lists_element S other n s ≡ true) (sym e) t))))

-- ---- where references are known, a row lists elements that are there
knows_of : (S : Drawing) → IsReferenced S → KnowsReferences S
knows_of S g = references_parts S g.references

rows_of : (S : Drawing) → KnowsReferences S → HasKnownRows S
rows_of S k = record { layers = k.layers; names = k.names; features = k.features; relations = k.relations; ascend = k.ascend }

-- what is listed by its number is below the next one
not_next : {R : Type 0} (id : R → ℕ) (next n : ℕ) (rows : List R) → rows_in_order id 0 next rows ≡ true → next ≤ n → list_any (λ r. id r == n) rows ≡ true → ⊥
not_next id next n rows ordered h t =
    let s = any_out (λ r. id r == n) rows t in
    let below = (ids_within id 0 next rows s.0 (record { test = ordered }) s.1.0).1 in
    let is = eqb-true (id s.0) n s.1.1 in
    omega arith

listed_there : (S : Drawing) (type n : ℕ) (r : RelationRow) → IsReferenced S → Contains S.relations r → lists_element S type n r ≡ true → (kind : Kind) × ((kind_number kind ≡ type) × (has_of S kind n ≡ true))
listed_there S type n r g c lists =
    let k = each_row S (rows_of S (knows_of S g)) r c in
    let lone = lists_primitive S type n r k lists in
    let is : kind_number k.layer.feature_type ≡ type = ap (number_in k.layer.feature_type) (sym lone) ∙ sym k.type ∙ listed_type S type n r lists in
    let has : has_of S k.layer.feature_type r.element_id ≡ true = subst (λ o. has_listed S k.layer.feature_type o r.element_id ≡ true) lone k.listed in
    (k.layer.feature_type, (is, subst (λ m. has_of S k.layer.feature_type m ≡ true) (listed_id S type n r lists) has))

pub edge_unlisted : (S : Drawing) (n : ℕ) (r : RelationRow) → IsReferenced S → S.next_ids.edge ≤ n → Contains S.relations r → lists_element S edge_type n r ≡ false
edge_unlisted S n r g h c = false_from_ne_true (lists_element S edge_type n r) (λ t. let k = listed_there S edge_type n r g c t in by k.0 k.1.0 k.1.1)
  where
    by : (kind : Kind) → kind_number kind ≡ edge_type → has_of S kind n ≡ true → ⊥
    by Puntal e has = absurd cc
    by Areal e has = absurd cc
    by Lineal e has = not_next edge_id_of S.next_ids.edge n S.edges g.rings.rings.plain.edge_ids h has

pub node_unlisted : (S : Drawing) (n : ℕ) (r : RelationRow) → IsReferenced S → S.next_ids.node ≤ n → Contains S.relations r → lists_element S node_type n r ≡ false
node_unlisted S n r g h c = false_from_ne_true (lists_element S node_type n r) (λ t. let k = listed_there S node_type n r g c t in by k.0 k.1.0 k.1.1)
  where
    by : (kind : Kind) → kind_number kind ≡ node_type → has_of S kind n ≡ true → ⊥
    by Lineal e has = absurd cc
    by Areal e has = absurd cc
    by Puntal e has = not_next node_id_of S.next_ids.node n S.nodes g.rings.rings.plain.node_ids h has

-- the ends of an edge are nodes that are there
pub end_below : (S : Drawing) (n : ℕ) → IsReferenced S → has_node S n ≡ true → n < S.next_ids.node
end_below S n g has =
    let s = any_out (λ (r : NodeRow). node_id_of r == n) S.nodes has in
    let below = (ids_within node_id_of 0 S.next_ids.node S.nodes s.0 (record { test = g.rings.rings.plain.node_ids }) s.1.0).1 in
    let is = eqb-true (node_id_of s.0) n s.1.1 in
    omega arith

-- the rows of the drawing may list parts with new numbers
abbrev pub feature_layer : Drawing → ℕ → ℕ
feature_layer S t = layer_in (feature_at S t)

pub can_part : (S : Drawing) (id x y : ℕ) → IsReferenced S → (x == y) ≡ false → ((x ≡ id) ⊎ (S.next_ids.edge ≤ x)) → S.next_ids.edge ≤ y → CanPart S edge_type id x y (feature_layer S) S.relations
can_part S id x y g differ first second = record {
  differ = differ;
  ascend = ascend_of S.relations (knows_of S g).ascend;
  layers = λ r c. (known_row S r (all_out (is_row_known S) S.relations r (knows_of S g).relations c)).same;
  unlisted = λ w which r c h. by w which first r c h;
}
  where
    by : (w : ℕ) → ((w ≡ x) ⊎ (w ≡ y)) → ((x ≡ id) ⊎ (S.next_ids.edge ≤ x)) → (r : RelationRow) → Contains S.relations r → lists_element S edge_type id r ≡ false → lists_element S edge_type w r ≡ false
    by w (inl e) (inl f) r c h = ap (λ k. lists_element S edge_type k r) (e ∙ f) ∙ h
    by w (inl e) (inr f) r c h = edge_unlisted S w r g (omega arith) c
    by w (inr e) f r c h = edge_unlisted S w r g (omega arith) c

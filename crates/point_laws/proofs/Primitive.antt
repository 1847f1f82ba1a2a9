-- What a feature without children lists: elements of its kind that are there.
use Rattle.std.proofs.Common.{◌≡◌, ◌∙◌, ℕ, zero, ◌+◌, arith, refl, sym, ap, subst, Bool, true, false, not, ◌&&◌, ◌==◌, eq-eqb, eqb-true, List, Option, Some, None}
use Rattle.std.specs.List.{Contains}
use Rattle.std.specs.Prelude.{filter}
use Rattle.std.proofs.lemmas.Bool.{and_parts}
use Rattle.std.proofs.lemmas.Slice.Eq.{bytes_eq-Decides}
use Rattle.topo_base.specs.Kinds.{kind_number}
use Rattle.topo_base.specs.declared.kind.Kind.{Kind}
use Rattle.topo_base.specs.declared.rows.LayerRow.{LayerRow}
use Rattle.topo_base.specs.declared.rows.RelationRow.{RelationRow}
use Rattle.drawing.specs.Descent.{listed_by}
use Rattle.drawing.specs.Drawing.{Drawing, feature_at, layer_at, layer_id_of}
use Rattle.drawing.specs.Layers.{same_kind}
use Rattle.drawing.specs.Relations.{features_of, is_among, is_hierarchical, lists_element}
use Rattle.drawing.specs.RemoveEdge.{have_same_features}
use Rattle.drawing.specs.Subdivision.{is_above, is_layer_known, is_row_of}
use Rattle.plane.proofs.ListTests.{some_same}
use Rattle.drawing.proofs.Members.{contains-filter, contains-filtered, contains-found, contains-map, contains-mapped}
use Rattle.reference_laws.proofs.Followed.{each_row}
use Rattle.reference_laws.proofs.KnownRows.{HasKnownRows, has_listed, has_of, lists_of}
use Rattle.ring_laws.proofs.Known.{all_out, any_out, any_in}
use Rattle.point_laws.proofs.Levels.{HasLevel, row_of}

pub among_out : (id : ℕ) (ids : List ℕ) → is_among id ids ≡ true → Contains ids id
among_out id ids h = let s = any_out (λ m. m == id) ids h in subst (Contains ids) (eqb-true s.0 id s.1.1) s.1.0

-- a layer of level 0 has no child
childless : (S : Drawing) (l : LayerRow) → is_layer_known S l l.child_id ≡ true → l.level ≡ 0 → l.child_id ≡ None
childless S l h level = by l.child_id refl h
  where
    of : (c : ℕ) (o : Option LayerRow) → is_above l o ≡ true → l.child_id ≡ None
    of c None k = absurd cc
    of c (Some child) k =
        let up : l.level ≡ child.level + 1 = eqb-true l.level (child.level + 1) (and_parts (l.level == child.level + 1) (same_kind l.feature_type child.feature_type) k).0 in
        absurd (omega arith)

    by : (o : Option ℕ) → l.child_id ≡ o → is_layer_known S l o ≡ true → l.child_id ≡ None
    by None e k = e
    by (Some c) e k = of c (layer_at S c) k

-- a row of such a feature lists an element of its kind that is there
pub record IsListing (S : Drawing) (kind : Kind) (u id : ℕ) : Type 0 where
  pub row : RelationRow
  pub there : Contains S.relations row
  pub of : row.topogeo_id ≡ u
  pub element : row.element_id ≡ id
  pub lists : lists_element S (kind_number kind) row.element_id row ≡ true
  pub known : has_of S kind id ≡ true

pub listing : (S : Drawing) (kind : Kind) (u id : ℕ) → HasKnownRows S → HasLevel S kind zero u → Contains (listed_by S u) id → IsListing S kind u id
listing S kind u id knows h c =
    let (r, (i, own, is)) = row_of S u id c in
    let k = each_row S knows r i in
    let same : r.layer_id ≡ h.row.layer_id = eqb-true r.layer_id h.row.layer_id (sym (ap (is_row_of r) (ap (feature_at S) own ∙ h.feature)) ∙ k.feature) in
    let layer : k.layer ≡ h.layer = some_same k.layer h.layer (sym k.there ∙ ap (layer_at S) same ∙ h.there) in
    let known = all_out (λ (l : LayerRow). is_layer_known S l l.child_id) S.layers h.layer knows.layers (contains-found (λ (l : LayerRow). layer_id_of l == h.row.layer_id) h.layer S.layers h.there).0 in
    let none : k.layer.child_id ≡ None = ap (λ (l : LayerRow). l.child_id) layer ∙ childless S h.layer known h.level in
    let kind_is : k.layer.feature_type ≡ kind = ap (λ (l : LayerRow). l.feature_type) layer ∙ h.kind_is in
    record {
      row = r;
      there = i;
      of = own;
      element = is;
      lists = ap (λ f. lists_element S (kind_number f) r.element_id r) (sym kind_is) ∙ lists_of S r k none;
      known = ap (λ n. has_of S kind n) (sym is) ∙ ap (λ f. has_of S f r.element_id) (sym kind_is) ∙ ap (λ o. has_listed S k.layer.feature_type o r.element_id) (sym none) ∙ k.listed;
    }

pub among_in : (id : ℕ) (ids : List ℕ) → Contains ids id → is_among id ids ≡ true
among_in id ids c = any_in (λ m. m == id) ids id c (eq-eqb id id refl)

-- each row of such a feature lists an element of its kind
pub rows_list : (S : Drawing) (kind : Kind) (u : ℕ) → HasKnownRows S → HasLevel S kind zero u → (r : RelationRow) → Contains S.relations r → r.topogeo_id ≡ u → lists_element S (kind_number kind) r.element_id r ≡ true
rows_list S kind u knows h r i own =
    let k = each_row S knows r i in
    let same : r.layer_id ≡ h.row.layer_id = eqb-true r.layer_id h.row.layer_id (sym (ap (is_row_of r) (ap (feature_at S) own ∙ h.feature)) ∙ k.feature) in
    let layer : k.layer ≡ h.layer = some_same k.layer h.layer (sym k.there ∙ ap (layer_at S) same ∙ h.there) in
    let known = all_out (λ (l : LayerRow). is_layer_known S l l.child_id) S.layers h.layer knows.layers (contains-found (λ (l : LayerRow). layer_id_of l == h.row.layer_id) h.layer S.layers h.there).0 in
    ap (λ f. lists_element S (kind_number f) r.element_id r) (sym (ap (λ (l : LayerRow). l.feature_type) layer ∙ h.kind_is)) ∙ lists_of S r k (ap (λ (l : LayerRow). l.child_id) layer ∙ childless S h.layer known h.level)

-- elements of another list that contains the same
pub among_same : (f : ℕ) (xs ys : List ℕ) → ((w : ℕ) → Contains xs w → Contains ys w) → is_among f xs ≡ true → is_among f ys ≡ true
among_same f xs ys h among = among_in f ys (h f (among_out f xs among))

-- ---- rows that are not followed
pub other_kind : (S : Drawing) (n type : ℕ) (r : RelationRow) (among : Bool) → (n == type) ≡ false → lists_element S n r.element_id r ≡ true → (lists_element S type r.element_id r && among) ≡ false
other_kind S n type r among differ h =
    let own : r.element_type ≡ n = eqb-true r.element_type n (and_parts (r.element_type == n) (r.element_id == r.element_id) (and_parts (r.element_type == n && r.element_id == r.element_id) (not (is_hierarchical S r.layer_id)) h).0).0 in
    ap (λ b. b && r.element_id == r.element_id && not (is_hierarchical S r.layer_id) && among) (ap (λ m. m == type) own ∙ differ)

pub above_kind : (S : Drawing) (type : ℕ) (r : RelationRow) (among : Bool) → is_hierarchical S r.layer_id ≡ true → (lists_element S type r.element_id r && among) ≡ false
above_kind S type r among h = ap (λ b. (r.element_type == type && r.element_id == r.element_id && not b) && among) h ∙ none (r.element_type == type && r.element_id == r.element_id) among
  where
    none : (a b : Bool) → (a && false && b) ≡ false
    none true b = refl
    none false b = refl

-- ---- elements that the same features list
pub row_lists : (S : Drawing) (u w : ℕ) (r : RelationRow) → Contains S.relations r → r.topogeo_id ≡ u → r.element_id ≡ w → Contains (listed_by S u) w
row_lists S u w r c own is =
    subst (Contains (listed_by S u)) is
    (contains-map (λ (row : RelationRow). row.element_id) r (filter (λ (row : RelationRow). row.topogeo_id == u) S.relations) (contains-filter (λ (row : RelationRow). row.topogeo_id == u) r S.relations c (eq-eqb r.topogeo_id u own)))

pub listed_alike : (S : Drawing) (kind : Kind) (x y u : ℕ) → HasKnownRows S → HasLevel S kind zero u → have_same_features S (kind_number kind) x y ≡ true → Contains (listed_by S u) x → Contains (listed_by S u) y
listed_alike S kind x y u knows h alike c =
    let l = listing S kind u x knows h c in
    let lists : lists_element S (kind_number kind) x l.row ≡ true = ap (λ n. lists_element S (kind_number kind) n l.row) (sym l.element) ∙ l.lists in
    let of_x : Contains (features_of S (kind_number kind) x) u =
    subst (Contains (features_of S (kind_number kind) x)) l.of (contains-map (λ (row : RelationRow). row.topogeo_id) l.row (filter (lists_element S (kind_number kind) x) S.relations) (contains-filter (lists_element S (kind_number kind) x) l.row S.relations l.there lists)) in
    let same = (bytes_eq-Decides (features_of S (kind_number kind) x) (features_of S (kind_number kind) y)).0 alike in
    let (r, (i, own)) = contains-mapped (λ (row : RelationRow). row.topogeo_id) u (filter (lists_element S (kind_number kind) y) S.relations) (subst (λ ns. Contains ns u) same of_x) in
    let f = contains-filtered (lists_element S (kind_number kind) y) r S.relations i in
    row_lists S u y r f.0 own
    (eqb-true r.element_id y (and_parts (r.element_type == kind_number kind) (r.element_id == y) (and_parts (r.element_type == kind_number kind && r.element_id == y) (not (is_hierarchical S r.layer_id)) f.1).0).1)

pub turned_alike : (S : Drawing) (type x y : ℕ) → have_same_features S type x y ≡ true → have_same_features S type y x ≡ true
turned_alike S type x y alike = (bytes_eq-Decides (features_of S type y) (features_of S type x)).1 (sym ((bytes_eq-Decides (features_of S type x) (features_of S type y)).0 alike))

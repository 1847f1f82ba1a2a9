-- The points of features over levels: where features without children keep their points, those above them do.
use Rattle.std.proofs.Common.{◌≡◌, ◌∙◌, ℕ, zero, suc, ◌+◌, arith, refl, sym, ap, subst, true, ◌==◌, eqb-true, filter, Option, Some, None, is_some}
use Rattle.std.specs.Prelude.{◌↔◌}
use Rattle.std.specs.List.{Contains}
use Rattle.std.proofs.lemmas.Bool.{and_parts}
use Rattle.topo_base.specs.RationalPoint.{RationalPoint}
use Rattle.topo_base.specs.declared.kind.Kind.{Kind}
use Rattle.topo_base.specs.declared.kind.Kind.TheVariants.{Puntal, Lineal, Areal}
use Rattle.topo_base.specs.declared.rows.FeatureRow.{FeatureRow}
use Rattle.topo_base.specs.declared.rows.LayerRow.{LayerRow}
use Rattle.topo_base.specs.declared.rows.RelationRow.{RelationRow}
use Rattle.drawing.specs.Descent.{listed_by}
use Rattle.drawing.specs.Drawing.{Drawing, feature_at, feature_id_of, layer_at, layer_id_of}
use Rattle.drawing.specs.FeaturePoints.{IsPointOfElements, IsPointAtLevel, IsPointIn, IsPointOfRow, IsPointOf}
use Rattle.drawing.specs.Layers.{is_feature_of, same_kind}
use Rattle.drawing.specs.Relations.{is_hierarchical}
use Rattle.drawing.specs.Subdivision.{is_above, is_layer_known, is_row_of}
use Rattle.plane.proofs.ListTests.{some_same}
use Rattle.drawing.proofs.Members.{contains-filtered, contains-found, contains-mapped}
use Rattle.reference_laws.proofs.Followed.{each_row}
use Rattle.reference_laws.proofs.KnownRows.{IsRow, HasKnownRows, has_listed, hierarchical_of}
use Rattle.ring_laws.proofs.Known.{all_out}
use Rattle.point_laws.specs.PointsStay.{SamePoints}

-- ---- levels
-- the feature is of a layer of this kind and level
pub record HasLevel (S : Drawing) (kind : Kind) (n u : ℕ) : Type 0 where
  pub row : FeatureRow
  pub layer : LayerRow
  pub feature : feature_at S u ≡ Some row
  pub there : layer_at S row.layer_id ≡ Some layer
  pub level : layer.level ≡ n
  pub kind_is : layer.feature_type ≡ kind

-- what is asked of features by level, and what is known of those
pub record StaysBelow (S T : Drawing) (Q : ℕ → ℕ → Type 0) (kind : Kind) (q : RationalPoint) : Type 0 where
  pub base : (u : ℕ) → Q zero u → IsPointOfElements S kind (listed_by S u) q ↔ IsPointOfElements T kind (listed_by T u) q
  pub rows : (n u w : ℕ) → Q (suc n) u → Contains (listed_by S u) w ↔ Contains (listed_by T u) w
  pub down : (n u w : ℕ) → Q (suc n) u → Contains (listed_by S u) w → Q n w

pub lift : (S T : Drawing) (Q : ℕ → ℕ → Type 0) (kind : Kind) (q : RationalPoint) → StaysBelow S T Q kind q → (n u : ℕ) → Q n u → IsPointAtLevel S kind n u q ↔ IsPointAtLevel T kind n u q
lift S T Q kind q h zero u k = h.base u k
lift S T Q kind q h (suc n) u k = (
  λ p. (p.0, ((h.rows n u p.0 k).0 p.1.0, (lift S T Q kind q h n p.0 (h.down n u p.0 k p.1.0)).0 p.1.1)),
  λ p. let c = (h.rows n u p.0 k).1 p.1.0 in (p.0, (c, (lift S T Q kind q h n p.0 (h.down n u p.0 k c)).1 p.1.1)),
)

-- what a feature lists, by rows
pub row_of : (S : Drawing) (t w : ℕ) → Contains (listed_by S t) w → (r : RelationRow) × (Contains S.relations r × (r.topogeo_id ≡ t) × (r.element_id ≡ w))
row_of S t w c =
    let m = contains-mapped (λ (row : RelationRow). row.element_id) w (filter (λ (row : RelationRow). row.topogeo_id == t) S.relations) c in
    let f = contains-filtered (λ (row : RelationRow). row.topogeo_id == t) m.0 S.relations m.1.0 in
    (m.0, (f.0, eqb-true m.0.topogeo_id t f.1, m.1.1))

kind_of : (a b : Kind) → same_kind a b ≡ true → a ≡ b
kind_of Puntal Puntal e = refl
kind_of Puntal Lineal e = absurd cc
kind_of Puntal Areal e = absurd cc
kind_of Lineal Puntal e = absurd cc
kind_of Lineal Lineal e = refl
kind_of Lineal Areal e = absurd cc
kind_of Areal Puntal e = absurd cc
kind_of Areal Lineal e = absurd cc
kind_of Areal Areal e = refl

-- the layer below
record IsBelow (S : Drawing) (l : LayerRow) (n : ℕ) : Type 0 where
  id : ℕ
  is : l.child_id ≡ Some id
  child : LayerRow
  there : layer_at S id ≡ Some child
  level : child.level ≡ n
  kind : child.feature_type ≡ l.feature_type

below : (S : Drawing) (l : LayerRow) (n : ℕ) → is_layer_known S l l.child_id ≡ true → l.level ≡ suc n → IsBelow S l n
below S l n known level = by l.child_id refl known
  where
    of : (c : ℕ) (o : Option LayerRow) → l.child_id ≡ Some c → layer_at S c ≡ o → is_above l o ≡ true → IsBelow S l n
    of c None e f k = absurd cc
    of c (Some child) e f k =
        let both = and_parts (l.level == child.level + 1) (same_kind l.feature_type child.feature_type) k in
        let up : l.level ≡ child.level + 1 = eqb-true l.level (child.level + 1) both.0 in
        record { id = c; is = e; child = child; there = f; level = omega arith; kind = sym (kind_of l.feature_type child.feature_type both.1) }

    by : (o : Option ℕ) → l.child_id ≡ o → is_layer_known S l o ≡ true → IsBelow S l n
    by None e k = let zero_is : l.level ≡ 0 = eqb-true l.level 0 k in absurd (omega arith)
    by (Some c) e k = of c (layer_at S c) e refl k

-- a feature that is listed is of the layer below
pub listed_below : (S : Drawing) (kind : Kind) (n u w : ℕ) → HasKnownRows S → HasLevel S kind (suc n) u → Contains (listed_by S u) w → HasLevel S kind n w
listed_below S kind n u w knows h c =
    let (r, (i, own, is)) = row_of S u w c in
    of_row r (each_row S knows r i) own is
  where
    of_feature : (b : IsBelow S h.layer n) (o : Option FeatureRow) → feature_at S w ≡ o → is_feature_of b.id o ≡ true → HasLevel S kind n w
    of_feature b None e k = absurd cc
    of_feature b (Some t) e k = record {
      row = t;
      layer = b.child;
      feature = e;
      there = ap (layer_at S) (eqb-true t.layer_id b.id k) ∙ b.there;
      level = b.level;
      kind_is = b.kind ∙ h.kind_is;
    }

    same_layer : (r : RelationRow) (k : IsRow S r) → r.topogeo_id ≡ u → k.layer ≡ h.layer
    same_layer r k own =
        let same : r.layer_id ≡ h.row.layer_id = eqb-true r.layer_id h.row.layer_id (sym (ap (is_row_of r) (ap (feature_at S) own ∙ h.feature)) ∙ k.feature) in
        some_same k.layer h.layer (sym k.there ∙ ap (layer_at S) same ∙ h.there)

    of_row : (r : RelationRow) → IsRow S r → r.topogeo_id ≡ u → r.element_id ≡ w → HasLevel S kind n w
    of_row r k own is =
        let known = all_out (λ (l : LayerRow). is_layer_known S l l.child_id) S.layers h.layer knows.layers (contains-found (λ (l : LayerRow). layer_id_of l == h.row.layer_id) h.layer S.layers h.there).0 in
        let b = below S h.layer n known h.level in
        of_feature b (feature_at S w) refl (
        ap (λ m. is_feature_of b.id (feature_at S m)) (sym is)
        ∙ ap (λ o. has_listed S k.layer.feature_type o r.element_id) (sym (ap (λ (l : LayerRow). l.child_id) (same_layer r k own) ∙ b.is)) ∙ k.listed)

-- ---- the points of a feature that is in both, with its layer
pub points_in : (S T : Drawing) (t : ℕ) (q : RationalPoint) (row : FeatureRow) (layer : LayerRow) → feature_at S t ≡ Some row → feature_at T t ≡ Some row → layer_at S row.layer_id ≡ Some layer → layer_at T row.layer_id ≡ Some layer
    → row.feature_id ≡ t
    → IsPointAtLevel S layer.feature_type layer.level t q ↔ IsPointAtLevel T layer.feature_type layer.level t q → IsPointOf S t q ↔ IsPointOf T t q
points_in S T t q row layer fs ft ls lt own h =
    let one : IsPointOf S t q ≡ IsPointAtLevel S layer.feature_type layer.level t q =
    ap (λ o. IsPointOfRow S o q) fs ∙ ap (λ o. IsPointIn S o row.feature_id q) ls ∙ ap (λ m. IsPointAtLevel S layer.feature_type layer.level m q) own in
    let two : IsPointOf T t q ≡ IsPointAtLevel T layer.feature_type layer.level t q =
    ap (λ o. IsPointOfRow T o q) ft ∙ ap (λ o. IsPointIn T o row.feature_id q) lt ∙ ap (λ m. IsPointAtLevel T layer.feature_type layer.level m q) own in
    (λ p. subst (λ (A : Type 0). A) (sym two) (h.0 (subst (λ (A : Type 0). A) one p)), λ p. subst (λ (A : Type 0). A) (sym one) (h.1 (subst (λ (A : Type 0). A) two p)))

-- ---- the points of every feature, from what is known by levels
-- P is what else is known of the features in question, by level
pub record LeavesPoints (S T : Drawing) (P : ℕ → ℕ → Type 0) : Type 0 where
  pub features : (t : ℕ) (row : FeatureRow) → feature_at S t ≡ Some row → is_some (feature_at T t) ≡ true → feature_at T t ≡ Some row
  pub layers : (l : ℕ) (row : LayerRow) → layer_at S l ≡ Some row → layer_at T l ≡ Some row
  pub down : (kind : Kind) (n u w : ℕ) → HasLevel S kind (suc n) u → P (suc n) u → Contains (listed_by S u) w → P n w
  pub rows : (kind : Kind) (n u w : ℕ) → HasLevel S kind (suc n) u → P (suc n) u → Contains (listed_by S u) w ↔ Contains (listed_by T u) w
  pub base : (kind : Kind) (u : ℕ) (q : RationalPoint) → HasLevel S kind zero u → P zero u → IsPointOfElements S kind (listed_by S u) q ↔ IsPointOfElements T kind (listed_by T u) q

by_levels : (S T : Drawing) (P : ℕ → ℕ → Type 0) (kind : Kind) (q : RationalPoint) → HasKnownRows S → LeavesPoints S T P → StaysBelow S T (λ n u. HasLevel S kind n u × P n u) kind q
by_levels S T P kind q knows h = record {
  base = λ u k. h.base kind u q k.0 k.1;
  rows = λ n u w k. h.rows kind n u w k.0 k.1;
  down = λ n u w k c. (listed_below S kind n u w knows k.0 c, h.down kind n u w k.0 k.1 c);
}

pub points_kept : (S T : Drawing) (P : ℕ → ℕ → Type 0) (t : ℕ) → HasKnownRows S → LeavesPoints S T P → ((n : ℕ) → P n t) → is_some (feature_at S t) ≡ true → is_some (feature_at T t) ≡ true → SamePoints S T t
points_kept S T P t knows h own before later q = by (feature_at S t) refl before
  where
    of : (row : FeatureRow) → feature_at S t ≡ Some row → (o : Option LayerRow) → layer_at S row.layer_id ≡ o → is_some o ≡ true → IsPointOf S t q ↔ IsPointOf T t q
    of row e None f k = absurd cc
    of row e (Some layer) f k =
        points_in S T t q row layer e (h.features t row e later) f (h.layers row.layer_id layer f) (eqb-true row.feature_id t (contains-found (λ (f : FeatureRow). feature_id_of f == t) row S.features e).1)
        (lift S T (λ n u. HasLevel S layer.feature_type n u × P n u) layer.feature_type q (by_levels S T P layer.feature_type q knows h) layer.level t
        (record { row = row; layer = layer; feature = e; there = f; level = refl; kind_is = refl }, own layer.level))

    by : (o : Option FeatureRow) → feature_at S t ≡ o → is_some o ≡ true → IsPointOf S t q ↔ IsPointOf T t q
    by None e k = absurd cc
    by (Some row) e k =
        of row e (layer_at S row.layer_id) refl
        (all_out (λ (f : FeatureRow). is_some (layer_at S f.layer_id)) S.features row knows.features (contains-found (λ (f : FeatureRow). feature_id_of f == t) row S.features e).0)

-- the rows of a feature that is above others are of a layer with a child
pub above_rows : (S : Drawing) (kind : Kind) (n u : ℕ) → HasKnownRows S → HasLevel S kind (suc n) u → (r : RelationRow) → Contains S.relations r → r.topogeo_id ≡ u → is_hierarchical S r.layer_id ≡ true
above_rows S kind n u knows h r i own =
    let k = each_row S knows r i in
    let same : r.layer_id ≡ h.row.layer_id = eqb-true r.layer_id h.row.layer_id (sym (ap (is_row_of r) (ap (feature_at S) own ∙ h.feature)) ∙ k.feature) in
    let known = all_out (λ (l : LayerRow). is_layer_known S l l.child_id) S.layers h.layer knows.layers (contains-found (λ (l : LayerRow). layer_id_of l == h.row.layer_id) h.layer S.layers h.there).0 in
    let b = below S h.layer n known h.level in
    hierarchical_of S r k b.id (ap (λ (l : LayerRow). l.child_id) (some_same k.layer h.layer (sym k.there ∙ ap (layer_at S) same ∙ h.there)) ∙ b.is)

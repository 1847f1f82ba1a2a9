-- Edits of layers and features leave the points of others.
use Rattle.std.proofs.Common.{◌≡◌, ◌≢◌, ◌∙◌, ℕ, zero, suc, ◌+◌, ◌<◌, arith, refl, sym, ap, subst, Bool, true, false, cond, not, ◌==◌, eq-eqb, eqb-true, List, [], ◌∷◌, ◌++◌, map, filter, Option, Some, is_some, inl, inr}
use Rattle.std.specs.Prelude.{◌↔◌}
use Rattle.std.specs.List.{Contains}
use Rattle.std.proofs.lemmas.Bool.{and_from, false≢true, ne_eqb}
use Rattle.topo_base.specs.RationalPoint.{RationalPoint}
use Rattle.topo_base.specs.declared.edit.Pair.{Pair}
use Rattle.topo_base.specs.declared.kind.Kind.{Kind}
use Rattle.topo_base.specs.declared.kind.Kind.TheVariants.{Puntal, Lineal, Areal}
use Rattle.topo_base.specs.declared.rows.Counters.{Counters}
use Rattle.topo_base.specs.declared.rows.FeatureRow.{FeatureRow}
use Rattle.topo_base.specs.declared.rows.LayerRow.{LayerRow}
use Rattle.topo_base.specs.declared.rows.RelationRow.{RelationRow}
use Rattle.drawing.specs.Descent.{listed_by}
use Rattle.drawing.specs.Drawing.{Drawing, feature_at, feature_id_of, layer_at, layer_id_of}
use Rattle.drawing.specs.FeaturePoints.{IsPointOfElements}
use Rattle.drawing.specs.Layers.{row_for, with_feature_done, with_layer_done}
use Rattle.drawing.specs.Relations.{insert_row, is_hierarchical, lists_feature, ordered, same_row}
use Rattle.drawing.specs.Rows.{row_at, without_row}
use Rattle.plane.proofs.ListTests.{contains_here, contains_there}
use Rattle.drawing.proofs.Members.{contains-found, contains-mapped, ids_within}
use Rattle.drawing.proofs.Ordering.{InOrder}
use Rattle.drawing.proofs.RowLemmas.{row_at-without_other, row_at-without_same}
use Rattle.relation_rows.proofs.Order.{same_topogeo}
use Rattle.relation_rows.proofs.Putting.{put_unlisted}
use Rattle.reference_laws.proofs.Followed.{in_ordered}
use Rattle.reference_laws.proofs.KnownRows.{HasKnownRows}
use Rattle.reference_laws.proofs.LayerChanges.{found_more}
use Rattle.ring_laws.proofs.Known.{any_in}
use Rattle.edit_changes.specs.Evidence.{FeatureMayGo}
use Rattle.point_laws.specs.PointsStay.{IsApartFrom, KeepsPoints, KeepsPointsOf, Reaches}
use Rattle.point_laws.proofs.Told.{IsTold}
use Rattle.point_laws.proofs.Levels.{HasLevel, LeavesPoints, above_rows, points_kept, row_of}

-- ---- the rows of one feature among rows that come or go
filter_none : {X : Type 0} (p : X → Bool) (x : X) (xs : List X) (b : Bool) → b ≡ false → filter p xs ≡ [] → cond b (x ∷ filter p xs) (filter p xs) ≡ []
filter_none p x xs true e rest = absurd cc
filter_none p x xs false e rest = rest

filter_more : {X : Type 0} (p : X → Bool) (xs more : List X) → ((x : X) → Contains more x → p x ≡ false) → filter p (xs ++ more) ≡ filter p xs
filter_more p [] [] none = refl
filter_more p [] (x ∷ more) none = filter_none p x more (p x) (none x (contains_here x more)) (filter_more p [] more (λ y c. none y (contains_there y x more c)))
filter_more p (x ∷ xs) more none = ap (λ ys. cond (p x) (x ∷ ys) ys) (filter_more p xs more none)

within_step : {X : Type 0} (p q : X → Bool) (x : X) (xs : List X) → (p x ≡ true → q x ≡ true) → filter p (filter q xs) ≡ filter p xs → (a b : Bool) → q x ≡ a → p x ≡ b
    → filter p (cond a (x ∷ filter q xs) (filter q xs)) ≡ cond b (x ∷ filter p xs) (filter p xs)
within_step p q x xs each rest true b e f = ap (λ c. cond c (x ∷ filter p (filter q xs)) (filter p (filter q xs))) f ∙ ap (λ ys. cond b (x ∷ ys) ys) rest
within_step p q x xs each rest false true e f = let t : q x ≡ true = each f in absurd cc
within_step p q x xs each rest false false e f = rest

filter_within : {X : Type 0} (p q : X → Bool) (xs : List X) → ((x : X) → p x ≡ true → q x ≡ true) → filter p (filter q xs) ≡ filter p xs
filter_within p q [] each = refl
filter_within p q (x ∷ xs) each = within_step p q x xs (each x) (filter_within p q xs each) (q x) (p x) refl refl

-- ---- nodes, edges and faces are as they were
abbrev with_others : Drawing → List LayerRow → List FeatureRow → List RelationRow → Counters → Drawing
with_others S layers features relations ids = record S { layers = layers; features = features; relations = relations; next_ids = ids }

elements_same : (S : Drawing) (layers : List LayerRow) (features : List FeatureRow) (relations : List RelationRow) (next : Counters) (kind : Kind) (ids : List ℕ) (q : RationalPoint)
    → IsPointOfElements S kind ids q ↔ IsPointOfElements (with_others S layers features relations next) kind ids q
elements_same S layers features relations next Puntal ids q = (λ p. p, λ p. p)
elements_same S layers features relations next Lineal ids q = (λ p. p, λ p. p)
elements_same S layers features relations next Areal ids q = (λ p. p, λ p. p)

-- the feature lists the same
record IsAside (S T : Drawing) (P : ℕ → ℕ → Type 0) : Type 0 where
  features : (t : ℕ) (row : FeatureRow) → feature_at S t ≡ Some row → is_some (feature_at T t) ≡ true → feature_at T t ≡ Some row
  layers : (l : ℕ) (row : LayerRow) → layer_at S l ≡ Some row → layer_at T l ≡ Some row
  down : (kind : Kind) (n u w : ℕ) → HasLevel S kind (suc n) u → P (suc n) u → Contains (listed_by S u) w → P n w
  listed : (kind : Kind) (n u : ℕ) → HasLevel S kind n u → P n u → listed_by T u ≡ listed_by S u

aside : (S : Drawing) (layers : List LayerRow) (features : List FeatureRow) (relations : List RelationRow) (next : Counters) (P : ℕ → ℕ → Type 0) → IsAside S (with_others S layers features relations next) P
    → LeavesPoints S (with_others S layers features relations next) P
aside S layers features relations next P h = record {
  features = h.features;
  layers = h.layers;
  down = h.down;
  rows = λ kind n u w k own.
      let e = h.listed kind (suc n) u k own in
      (λ c. subst (λ (ids : List ℕ). Contains ids w) (sym e) c, λ c. subst (λ (ids : List ℕ). Contains ids w) e c);
  base = λ kind u q k own.
      let e = h.listed kind zero u k own in
      subst (λ (ids : List ℕ). IsPointOfElements S kind (listed_by S u) q ↔ IsPointOfElements (with_others S layers features relations next) kind ids q) (sym e)
      (elements_same S layers features relations next kind (listed_by S u) q);
}

-- ---- a layer comes
pub layer_comes : (S : Drawing) (name : List ℕ) (kind : Kind) (child : Option ℕ) (level : ℕ) → IsTold S → KeepsPoints S ((with_layer_done S name kind child level).drawing)
layer_comes S name kind child level h t before later =
    points_kept S (with_others S (S.layers ++ l ∷ []) S.features S.relations next) (λ n u. Unit {0}) t h.rows
    (aside S (S.layers ++ l ∷ []) S.features S.relations next (λ n u. Unit {0}) (record {
      features = λ u row e _. e;
      layers = λ n row e. found_more layer_id_of S.layers l row n e;
      down = λ kind n u v k own c. tt;
      listed = λ kind n u k own. refl;
    }))
    (λ n. tt) before later
  where
    l : LayerRow
    l = record { layer_id = S.next_ids.layer; level = level; child_id = child; feature_type = kind; name = name }

    next : Counters
    next = record (S.next_ids) { layer = S.next_ids.layer + 1 }

-- ---- a feature comes
-- a feature that is there has an id below the next one
old_id : (S : Drawing) (kind : Kind) (n u : ℕ) → InOrder feature_id_of 1 S.next_ids.feature S.features → HasLevel S kind n u → u < S.next_ids.feature
old_id S kind n u ordered k =
    let c = contains-found (λ (f : FeatureRow). feature_id_of f == u) k.row S.features k.feature in
    subst (λ m. m < S.next_ids.feature) (eqb-true k.row.feature_id u c.1) (ids_within feature_id_of 1 S.next_ids.feature S.features k.row ordered c.0).1

pub feature_comes : (S : Drawing) (l : LayerRow) (xs : List Pair) → IsTold S → KeepsPoints S ((with_feature_done S l xs).drawing)
feature_comes S l xs h t before later =
    points_kept S (with_others S S.layers (S.features ++ row ∷ []) (S.relations ++ ordered rows) next) (λ n u. Unit {0}) t h.rows
    (aside S S.layers (S.features ++ row ∷ []) (S.relations ++ ordered rows) next (λ n u. Unit {0}) (record {
      features = λ u f e _. found_more feature_id_of S.features row f u e;
      layers = λ n f e. e;
      down = λ kind n u v k own c. tt;
      listed = λ kind n u k own.
          ap (map (λ (r : RelationRow). r.element_id)) (filter_more (λ (r : RelationRow). r.topogeo_id == u) S.relations (ordered rows) (λ r c. of_new u (old_id S kind n u h.order.features k) r c));
    }))
    (λ n. tt) before later
  where
    new : ℕ
    new = S.next_ids.feature

    row : FeatureRow
    row = record { feature_id = new; layer_id = l.layer_id }

    rows : List RelationRow
    rows = map (row_for new l.layer_id) xs

    next : Counters
    next = record (S.next_ids) { feature = new + 1 }

    differ : (a b : ℕ) → a < b → b ≢ a
    differ a b h e = omega arith

    of_new : (u : ℕ) → u < new → (r : RelationRow) → Contains (ordered rows) r → (r.topogeo_id == u) ≡ false
    of_new u h r c =
        let m = contains-mapped (row_for new l.layer_id) r xs (in_ordered r rows c) in
        ap (λ k. k == u) (ap (λ (x : RelationRow). x.topogeo_id) (sym m.1.1)) ∙ ne_eqb new u (differ u new h)

-- ---- a feature lists one element more, or one no more
-- what is known by level of a feature that does not descend to u
abbrev pub Below : Drawing → ℕ → ℕ → ℕ → Type 0
Below S u n t = Reaches S n t u → ⊥

not_it : (S : Drawing) (u n t : ℕ) → Below S u n t → t ≢ u
not_it S u zero t h e = h e
not_it S u (suc n) t h e = h (inl e)

-- the rows of others stay
others_stay : (S : Drawing) (u : ℕ) (relations : List RelationRow) → HasKnownRows S → ((v : ℕ) → v ≢ u → filter (λ (r : RelationRow). r.topogeo_id == v) relations ≡ filter (λ (r : RelationRow). r.topogeo_id == v) S.relations)
    → KeepsPointsOf (IsApartFrom S u) S (with_others S S.layers S.features relations S.next_ids)
others_stay S u relations knows same t apart before later =
    points_kept S (with_others S S.layers S.features relations S.next_ids) (Below S u) t knows
    (aside S S.layers S.features relations S.next_ids (Below S u) (record {
      features = λ v f e _. e;
      layers = λ n f e. e;
      down = λ kind n v w k own c r. own (inr (w, (c, r)));
      listed = λ kind n v k own. ap (map (λ (r : RelationRow). r.element_id)) (same v (not_it S u n v own));
    }))
    apart before later

pub lists_more : (S : Drawing) (row : RelationRow) → IsTold S → KeepsPointsOf (IsApartFrom S row.topogeo_id) S (with_others S S.layers S.features (insert_row row S.relations) S.next_ids)
lists_more S row h =
    others_stay S row.topogeo_id (insert_row row S.relations) h.rows (λ v ne. put_unlisted (λ (r : RelationRow). r.topogeo_id == v) row S.relations (ne_eqb row.topogeo_id v (λ e. ne (sym e))))

pub lists_less : (S : Drawing) (row : RelationRow) → IsTold S → KeepsPointsOf (IsApartFrom S row.topogeo_id) S (with_others S S.layers S.features (filter (λ r. not (same_row row r)) S.relations) S.next_ids)
lists_less S row h =
    others_stay S row.topogeo_id (filter (λ r. not (same_row row r)) S.relations) h.rows (λ v ne.
    filter_within (λ (r : RelationRow). r.topogeo_id == v) (λ r. not (same_row row r)) S.relations (λ r e. other v ne r (eqb-true r.topogeo_id v e) (same_row row r) refl))
  where
    other : (v : ℕ) → v ≢ row.topogeo_id → (r : RelationRow) → r.topogeo_id ≡ v → (b : Bool) → same_row row r ≡ b → not b ≡ true
    other v ne r e true s = absurd (ne (sym e ∙ sym (same_topogeo row r s)))
    other v ne r e false s = refl

-- ---- a feature goes
pub feature_goes : (S : Drawing) (f : FeatureRow) → FeatureMayGo S f → IsTold S
    → KeepsPoints S (with_others S S.layers (without_row feature_id_of S.features f.feature_id) (filter (λ (r : RelationRow). not (r.topogeo_id == f.feature_id)) S.relations) S.next_ids)
feature_goes S f may h t before later =
    points_kept S T (λ n v. v ≢ f.feature_id) t h.rows
    (aside S S.layers (without_row feature_id_of S.features f.feature_id) (filter (λ (r : RelationRow). not (r.topogeo_id == f.feature_id)) S.relations) S.next_ids (λ n v. v ≢ f.feature_id) (record {
      features = λ v row e there. row_at-without_other feature_id_of S.features f.feature_id v (still v there) ∙ e;
      layers = λ n row e. e;
      down = λ kind n v w k own c. unlisted kind n v w k c;
      listed = λ kind n v k own. ap (map (λ (r : RelationRow). r.element_id)) (filter_within (λ (r : RelationRow). r.topogeo_id == v) (λ (r : RelationRow). not (r.topogeo_id == f.feature_id)) S.relations (λ r e. ap not (ap (λ m. m == f.feature_id) (eqb-true r.topogeo_id v e) ∙ ne_eqb v f.feature_id own)));
    }))
    (λ n. still t later) before later
  where
    T : Drawing
    T = with_others S S.layers (without_row feature_id_of S.features f.feature_id) (filter (λ (r : RelationRow). not (r.topogeo_id == f.feature_id)) S.relations) S.next_ids

    still : (v : ℕ) → is_some (row_at feature_id_of (without_row feature_id_of S.features f.feature_id) v) ≡ true → v ≢ f.feature_id
    still v there e = false≢true (sym (ap is_some (ap (row_at feature_id_of (without_row feature_id_of S.features f.feature_id)) e ∙ row_at-without_same feature_id_of S.features f.feature_id)) ∙ there)

    unlisted : (kind : Kind) (n v w : ℕ) → HasLevel S kind (suc n) v → Contains (listed_by S v) w → w ≢ f.feature_id
    unlisted kind n v w k c e =
        let (r, (i, own, is)) = row_of S v w c in
        false≢true (sym may.unused ∙ any_in (lists_feature S f.feature_id) S.relations r i (and_from (r.element_id == f.feature_id) (is_hierarchical S r.layer_id) (eq-eqb r.element_id f.feature_id (is ∙ e)) (above_rows S kind n v h.rows k r i own)))

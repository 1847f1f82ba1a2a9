-- Isolated nodes that come, move and go leave the points of features.
use Rattle.std.proofs.Common.{◌≡◌, ◌∙◌, ℕ, zero, suc, ◌+◌, arith, refl, sym, ap, subst, ⊎_elim, inr, Bool, true, false, cond, not, ◌==◌, eqb-true, List, [], ◌∷◌, ◌++◌, Some}
use Rattle.std.specs.Prelude.{◌↔◌}
use Rattle.std.specs.List.{Contains}
use Rattle.std.proofs.lemmas.List.Elements.{Contains-push_cases, Contains-append_left}
use Rattle.topo_base.specs.Point.{Point}
use Rattle.topo_base.specs.RationalPoint.{RationalPoint, IsAt}
use Rattle.topo_base.specs.declared.kind.Kind.{Kind}
use Rattle.topo_base.specs.declared.kind.Kind.TheVariants.{Puntal, Lineal, Areal}
use Rattle.topo_base.specs.declared.rows.Counters.{Counters}
use Rattle.topo_base.specs.declared.rows.NodeRow.{NodeRow}
use Rattle.topo_base.specs.declared.rows.RelationRow.{RelationRow}
use Rattle.drawing.specs.Descent.{listed_by}
use Rattle.drawing.specs.Drawing.{Drawing, node_id_of}
use Rattle.drawing.specs.FeaturePoints.{AtNodes, IsPointOfElements}
use Rattle.drawing.specs.IsoEdits.{is_in_feature, put_at, with_node}
use Rattle.drawing.specs.Relations.{features_of, is_among, lists_element, node_type}
use Rattle.drawing.specs.Rows.{without_row}
use Rattle.drawing.proofs.Members.{contains-filter, contains-filtered, contains-map, contains-mapped, ids_within}
use Rattle.drawing.proofs.Ordering.{InOrder}
use Rattle.reference_laws.proofs.Elements.{is_free}
use Rattle.reference_laws.proofs.KnownRows.{HasKnownRows}
use Rattle.ring_laws.proofs.Known.{any_out}
use Rattle.subdivision_laws.specs.Subdivided.{IsSubdivided}
use Rattle.edit_changes.specs.Evidence.{NodeMayGo}
use Rattle.point_laws.specs.PointsStay.{IsApartFromNode, KeepsPoints, KeepsPointsOf}
use Rattle.point_laws.proofs.Told.{IsTold}
use Rattle.point_laws.proofs.Areal.{area_from, area_to}
use Rattle.point_laws.proofs.Levels.{HasLevel, LeavesPoints, points_kept}
use Rattle.point_laws.proofs.Primitive.{among_out, listing}

abbrev with_nodes : Drawing → List NodeRow → Counters → Drawing
with_nodes S nodes next = record S { nodes = nodes; next_ids = next }

-- only features of nodes are to be looked at
nodes_leave : (S : Drawing) (nodes : List NodeRow) (next : Counters) (P : ℕ → ℕ → Type 0) → IsSubdivided S → IsSubdivided (with_nodes S nodes next)
    → ((n u w : ℕ) → P (suc n) u → Contains (listed_by S u) w → P n w)
    → ((u : ℕ) (q : RationalPoint) → HasLevel S Puntal zero u → P zero u → AtNodes S (listed_by S u) q ↔ AtNodes (with_nodes S nodes next) (listed_by S u) q)
    → LeavesPoints S (with_nodes S nodes next) P
nodes_leave S nodes next P s later down puntal = record {
  features = λ u row e _. e;
  layers = λ n row e. e;
  down = λ kind n u w k own c. down n u w own c;
  rows = λ kind n u w k own. (λ c. c, λ c. c);
  base = λ kind u q k own. by kind u q k own;
}
  where
    by : (kind : Kind) (u : ℕ) (q : RationalPoint) → HasLevel S kind zero u → P zero u → IsPointOfElements S kind (listed_by S u) q ↔ IsPointOfElements (with_nodes S nodes next) kind (listed_by S u) q
    by Puntal u q k own = puntal u q k own
    by Lineal u q k own = (λ p. p, λ p. p)
    by Areal u q k own =
        (λ p. area_to (with_nodes S nodes next) (listed_by S u) q later (area_from S (listed_by S u) q s p), λ p. area_to S (listed_by S u) q s (area_from (with_nodes S nodes next) (listed_by S u) q later p))

-- ---- a node comes
pub comes_at : (S : Drawing) (u : ℕ) (q : RationalPoint) (new : NodeRow) (next : Counters) → HasKnownRows S → InOrder node_id_of 1 S.next_ids.node S.nodes → new.node_id ≡ S.next_ids.node → HasLevel S Puntal zero u
    → AtNodes S (listed_by S u) q ↔ AtNodes (with_nodes S (S.nodes ++ new ∷ []) next) (listed_by S u) q
comes_at S u q new next knows ascend is k = (
  λ p. (p.0, (Contains-append_left S.nodes (new ∷ []) p.0 p.1.0, p.1.1, p.1.2)),
  λ p. ⊎_elim (λ (old : Contains S.nodes p.0). (p.0, (old, p.1.1, p.1.2)))
      (λ (fresh : new ≡ p.0). absurd (not_listed (subst (λ (n : NodeRow). Contains (listed_by S u) n.node_id) (sym fresh) (among_out p.0.node_id (listed_by S u) p.1.1))))
      (Contains-push_cases S.nodes new p.0 p.1.0),
)
  where
    not_listed : Contains (listed_by S u) new.node_id → ⊥
    not_listed c =
        let there = any_out (λ (n : NodeRow). node_id_of n == new.node_id) S.nodes (listing S Puntal u new.node_id knows k c).known in
        let below = (ids_within node_id_of 1 S.next_ids.node S.nodes there.0 ascend there.1.0).1 in
        let same : there.0.node_id ≡ new.node_id = eqb-true there.0.node_id new.node_id there.1.1 in
        omega arith

pub node_more : (S : Drawing) (face : ℕ) (p : Point) → IsTold S → IsSubdivided (with_node S (Some face) p) → KeepsPoints S (with_node S (Some face) p)
node_more S face p h later t before still =
    points_kept S (with_nodes S (S.nodes ++ new ∷ []) next) (λ n u. Unit {0}) t h.rows
    (nodes_leave S (S.nodes ++ new ∷ []) next (λ n u. Unit {0}) h.before later (λ n u v own c. tt) (λ u q k own. comes_at S u q new next h.rows h.order.nodes refl k))
    (λ n. tt) before still
  where
    new : NodeRow
    new = record { node_id = S.next_ids.node; containing_face = Some face; geom = p }

    next : Counters
    next = record (S.next_ids) { node = S.next_ids.node + 1 }

-- ---- a node goes
pub goes_at : (S : Drawing) (u gone : ℕ) (q : RationalPoint) → HasKnownRows S → is_in_feature S node_type gone ≡ false → HasLevel S Puntal zero u
    → AtNodes S (listed_by S u) q ↔ AtNodes (with_nodes S (without_row node_id_of S.nodes gone) S.next_ids) (listed_by S u) q
goes_at S u gone q knows free k = (
  λ p. (p.0, (contains-filter (λ (row : NodeRow). not (node_id_of row == gone)) p.0 S.nodes p.1.0 (ap not (other p.0.node_id (among_out p.0.node_id (listed_by S u) p.1.1))), p.1.1, p.1.2)),
  λ p. (p.0, ((contains-filtered (λ (row : NodeRow). not (node_id_of row == gone)) p.0 S.nodes p.1.0).0, p.1.1, p.1.2)),
)
  where
    other : (id : ℕ) → Contains (listed_by S u) id → (id == gone) ≡ false
    other id c = let l = listing S Puntal u id knows k c in ap (λ n. n == gone) (sym l.element) ∙ is_free S node_type gone free l.row l.there l.lists

pub node_less : (S : Drawing) (n : NodeRow) → NodeMayGo S n → IsTold S → IsSubdivided (with_nodes S (without_row node_id_of S.nodes n.node_id) S.next_ids)
    → KeepsPoints S (with_nodes S (without_row node_id_of S.nodes n.node_id) S.next_ids)
node_less S n may h later t before still =
    points_kept S (with_nodes S (without_row node_id_of S.nodes n.node_id) S.next_ids) (λ n u. Unit {0}) t h.rows
    (nodes_leave S (without_row node_id_of S.nodes n.node_id) S.next_ids (λ n u. Unit {0}) h.before later (λ n u v own c. tt) (λ u q k own. goes_at S u n.node_id q h.rows may.unlisted k))
    (λ n. tt) before still

-- ---- a node moves
-- the feature does not descend to one that lists the node
abbrev Away : Drawing → ℕ → ℕ → ℕ → Type 0
Away S node n u = IsApartFromNode S node u

moves_at : (S : Drawing) (u node : ℕ) (p : Point) (q : RationalPoint) → HasKnownRows S → IsApartFromNode S node u → HasLevel S Puntal zero u
    → AtNodes S (listed_by S u) q ↔ AtNodes (with_nodes S (put_at p node S.nodes) S.next_ids) (listed_by S u) q
moves_at S u node p q knows apart k = (
  λ r. (r.0, (subst (Contains (put_at p node S.nodes)) (same r.0 (among_out r.0.node_id (listed_by S u) r.1.1)) (contains-map change r.0 S.nodes r.1.0), r.1.1, r.1.2)),
  λ r. let (row, (c, is)) = contains-mapped change r.0 S.nodes r.1.0 in back r.0 row c is r.1.1 r.1.2,
)
  where
    change : NodeRow → NodeRow
    change row = cond (node_id_of row == node) (record row { geom = p }) row

    other : (id : ℕ) → Contains (listed_by S u) id → (id == node) ≡ false
    other id c = by (id == node) refl
      where
        by : (b : Bool) → (id == node) ≡ b → b ≡ false
        by false e = refl
        by true e =
            let l = listing S Puntal u id knows k c in
            let lists : lists_element S node_type node l.row ≡ true = ap (λ n. lists_element S node_type n l.row) (sym (l.element ∙ eqb-true id node e)) ∙ l.lists in
            absurd (apart zero u refl (subst (Contains (features_of S node_type node)) l.of (contains-map (λ (r : RelationRow). r.topogeo_id) l.row _ (contains-filter (lists_element S node_type node) l.row S.relations l.there lists))))

    same : (row : NodeRow) → Contains (listed_by S u) row.node_id → change row ≡ row
    same row c = ap (λ b. cond b (record row { geom = p }) row) (other row.node_id c)

    id_kept : (row : NodeRow) (b : Bool) → node_id_of (cond b (record row { geom = p }) row) ≡ row.node_id
    id_kept row true = refl
    id_kept row false = refl

    back : (n row : NodeRow) → Contains S.nodes row → change row ≡ n → is_among n.node_id (listed_by S u) ≡ true → IsAt n.geom q → AtNodes S (listed_by S u) q
    back n row c is among at =
        let id : row.node_id ≡ n.node_id = sym (id_kept row (node_id_of row == node)) ∙ ap node_id_of is in
        let e : row ≡ n = sym (same row (subst (Contains (listed_by S u)) (sym id) (among_out n.node_id (listed_by S u) among))) ∙ is in
        (n, (subst (Contains S.nodes) e c, among, at))

pub node_elsewhere : (S : Drawing) (node : ℕ) (p : Point) → IsTold S → IsSubdivided (with_nodes S (put_at p node S.nodes) S.next_ids) → KeepsPointsOf (IsApartFromNode S node) S (with_nodes S (put_at p node S.nodes) S.next_ids)
node_elsewhere S node p h later t apart before still =
    points_kept S (with_nodes S (put_at p node S.nodes) S.next_ids) (Away S node) t h.rows
    (nodes_leave S (put_at p node S.nodes) S.next_ids (Away S node) h.before later (λ m u w a c k v r. a (suc k) v (inr (w, (c, r)))) (λ u q k a. moves_at S u node p q h.rows a k))
    (λ m. apart) before still

-- Healed edges keep a drawing plain.
use Rattle.std.proofs.Common.{◌≡◌, ◌≢◌, ℕ, refl, sym, ap, subst, ◌⊎◌, inl, inr, ⊎_elim, false, cond, not, ◌&&◌, ◌==◌, List, [], ◌∷◌, ◌++◌, IsTrue, eqb-true, true}
use Rattle.std.specs.Prelude.{reverse}
use Rattle.std.specs.List.{list_any, Contains}
use Rattle.std.proofs.lemmas.Bool.{and_from, cond_both}
use Rattle.std.proofs.lemmas.Bool.Decides.{Decides-eqb, Decides-not, not_from_Decides}
use Rattle.std.proofs.lemmas.List.Elements.{Contains-push_cases}
use Rattle.drawing.specs.Rows.{without_row, with_change}
use Rattle.drawing.specs.Drawing.{Drawing, Edge, node_id_of, edge_id_of, is_end_of, has_only}
use Rattle.drawing.specs.HalfEdge.{HalfEdge, forward_of, backward_of}
use Rattle.drawing.specs.HealEdges.{joined_edge, away_from, is_closed}
use Rattle.plane.proofs.ListTests.{Decides-any}
use Rattle.drawing.proofs.Members.{contains-mapped, contains-filtered, pairwise-same, ids_differ}
use Rattle.drawing.proofs.PlainParts.{ArePlain}
use Rattle.drawing.proofs.PlainSplits.{EdgeIdsDiffer, end_cases}
use Rattle.edit_changes.proofs.PlainHeals.{IsWalk, walk_forward, walk_back, IsHealed, IsBeside, edges_healed}
use Rattle.edit_changes.proofs.PlainStaying.{HasPlain}

-- what is known of the two edges and the node
pub record CanHeal (S : Drawing) (e f : Edge) (n : ℕ) : Type 0 where
  pub has_e : Contains S.edges e
  pub has_f : Contains S.edges f
  pub e_open : e.start_node ≢ e.end_node
  pub f_open : f.start_node ≢ f.end_node
  pub differ : e.edge_id ≢ f.edge_id
  pub of_e : (n ≡ e.end_node) ⊎ (n ≡ e.start_node)
  pub of_f : IsTrue (is_end_of n f)
  pub only : IsTrue (has_only S n e.edge_id f.edge_id)

-- ---- the joined edge
away_walk : (S : Drawing) (e f : Edge) (n : ℕ) → HasPlain S → CanHeal S e f n → IsWalk S.nodes f (away_from n f).points n (away_from n f).to_node
away_walk S e f n h g =
    let walk = walk_forward S.nodes S.edges f h.parts g.has_f g.f_open in
    cond_both (f.start_node == n) (forward_of f) (backward_of f) (λ (way : HalfEdge). IsWalk S.nodes f way.points n way.to_node)
    (λ is. subst (λ k. IsWalk S.nodes f f.geom k f.end_node) (eqb-true f.start_node n is) walk)
    (λ no.
    let other = not_from_Decides (f.start_node == n) (Decides-eqb f.start_node n) no in
    let end : f.end_node ≡ n = ⊎_elim (λ (k : n ≡ f.start_node). absurd (other (sym k))) (λ (k : n ≡ f.end_node). sym k) (end_cases n f g.of_f) in
    subst (λ k. IsWalk S.nodes f (reverse f.geom) k f.start_node) end (walk_back S.nodes f f.geom f.start_node f.end_node walk))

healed_of : (S : Drawing) (e f : Edge) (n id : ℕ) → HasPlain S → CanHeal S e f n → IsHealed S.nodes e f n (joined_edge n e f id) ⊎ IsHealed S.nodes f e n (joined_edge n e f id)
healed_of S e f n id h g =
    let walk = walk_forward S.nodes S.edges e h.parts g.has_e g.e_open in
    let away = away_walk S e f n h g in
    let far = away_from n f in
    cond_both (n == e.end_node) _ _ (λ (x : Edge). IsHealed S.nodes e f n x ⊎ IsHealed S.nodes f e n x)
    (λ is. inl (record { a = e.geom; b = far.points; line = refl; first = subst (IsWalk S.nodes e e.geom e.start_node) (sym (eqb-true n e.end_node is)) walk; second = away }))
    (λ no.
    let other = not_from_Decides (n == e.end_node) (Decides-eqb n e.end_node) no in
    let start : e.start_node ≡ n = ⊎_elim (λ (k : n ≡ e.end_node). absurd (other k)) (λ (k : n ≡ e.start_node). sym k) g.of_e in
    inr (record { a = reverse far.points; b = e.geom; line = refl; first = walk_back S.nodes f far.points n far.to_node away; second = subst (λ k. IsWalk S.nodes e e.geom k e.end_node) start walk }))

-- ---- the other edges
-- no third edge has an end at a node that has only the two
pub no_third : (S : Drawing) (n id other : ℕ) (y : Edge) → has_only S n id other ≡ true → Contains S.edges y → y.edge_id ≢ id → y.edge_id ≢ other → IsTrue (is_end_of n y) → ⊥
no_third S n id other y only c not_id not_other end =
    let test = λ (x : Edge). is_end_of n x && not (x.edge_id == id) && not (x.edge_id == other) in
    let any = Decides-any test (λ (x : Edge). IsTrue (test x)) (λ x. (λ k. k, λ k. k)) S.edges in
    let past = λ (k : ℕ) (far : y.edge_id ≢ k). (Decides-not (y.edge_id == k) (Decides-eqb y.edge_id k)).1 far in
    (Decides-not (list_any test S.edges) any).0 only (y, (c, and_from (is_end_of n y && not (y.edge_id == id)) (not (y.edge_id == other)) (and_from (is_end_of n y) (not (y.edge_id == id)) end (past id not_id)) (past other not_other)))

pub beside : (S : Drawing) (e f : Edge) (n : ℕ) (y : Edge) → CanHeal S e f n → Contains S.edges y → y.edge_id ≢ e.edge_id → y.edge_id ≢ f.edge_id → IsBeside S.edges e f n y
beside S e f n y g c not_e not_f = record { there = c; not_e = not_e; not_f = not_f; away = no_third S n e.edge_id f.edge_id y g.only c not_e not_f }

beside_other : (es : List Edge) (e f : Edge) (n : ℕ) (y : Edge) → IsBeside es e f n y → IsBeside es f e n y
beside_other es e f n y b = record { there = b.there; not_e = b.not_f; not_f = b.not_e; away = b.away }

pub left_over : (es : List Edge) (n : ℕ) (y : Edge) → Contains (without_row edge_id_of es n) y → Contains es y × (y.edge_id ≢ n)
left_over es n y c =
    let r = contains-filtered (λ (x : Edge). not (x.edge_id == n)) y es c in
    (r.0, (Decides-not (y.edge_id == n) (Decides-eqb y.edge_id n)).0 r.1)

pub from_mod : (S : Drawing) (e f : Edge) (n : ℕ) → HasPlain S → CanHeal S e f n → (y : Edge)
    → Contains (with_change edge_id_of (without_row edge_id_of S.edges f.edge_id) e.edge_id (λ x. joined_edge n x f x.edge_id)) y → IsBeside S.edges e f n y ⊎ (joined_edge n e f e.edge_id ≡ y)
from_mod S e f n h g y c =
    let join = λ (x : Edge). joined_edge n x f x.edge_id in
    let change = λ (x : Edge). cond (x.edge_id == e.edge_id) (join x) x in
    let r = contains-mapped change y (without_row edge_id_of S.edges f.edge_id) c in
    let old = left_over S.edges f.edge_id r.0 r.1.0 in
    subst (λ z. IsBeside S.edges e f n z ⊎ (join e ≡ z)) r.1.1
    (cond_both (r.0.edge_id == e.edge_id) (join r.0) r.0 (λ z. IsBeside S.edges e f n z ⊎ (join e ≡ z))
    (λ is.
    let one = eqb-true r.0.edge_id e.edge_id is in
    let same : e ≡ r.0 = pairwise-same EdgeIdsDiffer S.edges e r.0 (ids_differ edge_id_of 0 S.next_ids.edge S.edges h.edge_ids) g.has_e old.0 (λ far. far (sym one)) (λ far. far one) in
    inr (ap join same))
    (λ no. inl (beside S e f n r.0 g old.0 (not_from_Decides (r.0.edge_id == e.edge_id) (Decides-eqb r.0.edge_id e.edge_id) no) old.1)))

pub from_new : (S : Drawing) (e f : Edge) (n new : ℕ) → CanHeal S e f n → (y : Edge)
    → Contains (without_row edge_id_of (without_row edge_id_of S.edges e.edge_id) f.edge_id ++ joined_edge n e f new ∷ []) y → IsBeside S.edges e f n y ⊎ (joined_edge n e f new ≡ y)
from_new S e f n new g y c =
    ⊎_elim
    (λ (k : Contains (without_row edge_id_of (without_row edge_id_of S.edges e.edge_id) f.edge_id) y).
    let outer = left_over (without_row edge_id_of S.edges e.edge_id) f.edge_id y k in
    let inner = left_over S.edges e.edge_id y outer.0 in
    inl (beside S e f n y g inner.0 inner.1 outer.1))
    (λ (k : joined_edge n e f new ≡ y). inr k)
    (Contains-push_cases (without_row edge_id_of (without_row edge_id_of S.edges e.edge_id) f.edge_id) (joined_edge n e f new) y c)

-- ---- the drawing
pub made : (S : Drawing) (e f : Edge) (n id : ℕ) (fs : List Edge) → HasPlain S → CanHeal S e f n → ((y : Edge) → Contains fs y → IsBeside S.edges e f n y ⊎ (joined_edge n e f id ≡ y))
    → ArePlain (without_row node_id_of S.nodes n) fs
made S e f n id fs h g from =
    let x = joined_edge n e f id in
    let ids = ids_differ node_id_of 0 S.next_ids.node S.nodes h.ids in
    ⊎_elim
    (λ (k : IsHealed S.nodes e f n x).
    edges_healed S.nodes S.edges fs e f n x (record { plain = h.parts; ids = ids; has_e = g.has_e; has_f = g.has_f; differ = g.differ; healed = k }) from)
    (λ (k : IsHealed S.nodes f e n x).
    edges_healed S.nodes S.edges fs f e n x (record { plain = h.parts; ids = ids; has_e = g.has_f; has_f = g.has_e; differ = λ s. g.differ (sym s); healed = k })
    (λ y c. ⊎_elim (λ (b : IsBeside S.edges e f n y). inl (beside_other S.edges e f n y b)) (λ (is : x ≡ y). inr is) (from y c)))
    (healed_of S e f n id h g)

pub is_open : (e : Edge) → is_closed e ≡ false → e.start_node ≢ e.end_node
is_open e h = not_from_Decides (e.start_node == e.end_node) (Decides-eqb e.start_node e.end_node) h

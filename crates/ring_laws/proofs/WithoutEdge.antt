-- The drawing without an isolated edge.
use Rattle.std.proofs.Common.{◌≡◌, sym, ◌∙◌, ap, subst, ◌⊎◌, ⊎_elim, true, false, not, ◌&&◌, ◌==◌, List}
use Rattle.std.specs.Prelude.{flat_map}
use Rattle.std.specs.List.{Contains}
use Rattle.std.proofs.lemmas.Bool.{and_parts, or_left, or_right, eqb-true, eq-eqb, false≢true, false_from_ne_true, not-true}
use Rattle.drawing.specs.Drawing.{Drawing, Edge, edge_id_of, is_end_of, has_only}
use Rattle.drawing.specs.HalfEdge.{HalfEdge, forward_of, backward_of, both_ways, half_edges}
use Rattle.drawing.specs.IsoEdits.{is_isolated_edge}
use Rattle.drawing.specs.Rows.{without_row}
use Rattle.drawing.proofs.Members.{contains-filter}
use Rattle.edit_changes.proofs.PlainHealing.{left_over, no_third}
use Rattle.face_rings.proofs.HalfLines.{HasPlainLines}
use Rattle.face_rings.proofs.HalvesApart.{IsHalf, half_of, forward_there, backward_there, one_edge}
use Rattle.face_rings.proofs.Ranks.{by_bool}
use Rattle.ring_laws.proofs.Turning.{FacesAgree}

-- fewer half-edges stay joined where none is missed about the nodes of the others
pub joined_less : (hs ks : List HalfEdge) → ((k : HalfEdge) → Contains ks k → Contains hs k) → ((k t : HalfEdge) → Contains hs k → Contains ks t → k.from_node ≡ t.from_node → Contains ks k) → FacesAgree hs → FacesAgree ks
joined_less hs ks into kept joined t s h = joined t s (record {
  first = into t h.first;
  second = into s h.second;
  one_node = h.one_node;
  none_between = λ k c from other. h.none_between k (kept k t c h.first from) from other;
  alone = λ e k c from. h.alone e k (kept k t c h.first from) from;
})

-- ---- the ends of an edge
-- what a half-edge leaves is an end of its edge
pub leaves_end : (edges : List Edge) (h : HalfEdge) (r : IsHalf edges h) → is_end_of h.from_node r.edge ≡ true
leaves_end edges h r =
    ⊎_elim
    (λ (p : forward_of r.edge ≡ h). or_left (r.edge.start_node == h.from_node) (r.edge.end_node == h.from_node) (eq-eqb r.edge.start_node h.from_node (ap (λ (x : HalfEdge). x.from_node) p)))
    (λ (p : backward_of r.edge ≡ h). or_right (r.edge.start_node == h.from_node) (r.edge.end_node == h.from_node) (eq-eqb r.edge.end_node h.from_node (ap (λ (x : HalfEdge). x.from_node) p)))
    r.way

-- both ends of an isolated edge are its own
pub record IsAlone (S : Drawing) (e : Edge) : Type 0 where
  pub differ : e.start_node ≡ e.end_node → ⊥
  pub at_start : (x : Edge) → Contains S.edges x → (x.edge_id ≡ e.edge_id → ⊥) → is_end_of e.start_node x ≡ true → ⊥
  pub at_end : (x : Edge) → Contains S.edges x → (x.edge_id ≡ e.edge_id → ⊥) → is_end_of e.end_node x ≡ true → ⊥

pub alone_of : (S : Drawing) (e : Edge) → is_isolated_edge S e ≡ true → IsAlone S e
alone_of S e h =
    let differ = not (e.start_node == e.end_node) in
    let both = and_parts (differ && has_only S e.start_node e.edge_id e.edge_id) (has_only S e.end_node e.edge_id e.edge_id) h in
    let first = and_parts differ (has_only S e.start_node e.edge_id e.edge_id) both.0 in
    record {
      differ = λ p. false≢true (sym (not-true (e.start_node == e.end_node) first.0) ∙ eq-eqb e.start_node e.end_node p);
      at_start = λ x c other ends. no_third S e.start_node e.edge_id e.edge_id x first.1 c other other ends;
      at_end = λ x c other ends. no_third S e.end_node e.edge_id e.edge_id x both.1 c other other ends;
    }

-- ---- edges with other ids
pub kept_edge : (edges : List Edge) (e x : Edge) → Contains edges x → (x.edge_id ≡ e.edge_id → ⊥) → Contains (without_row edge_id_of edges e.edge_id) x
kept_edge edges e x c other = contains-filter (λ (r : Edge). not (edge_id_of r == e.edge_id)) x edges c (ap not (false_from_ne_true (x.edge_id == e.edge_id) (λ t. other (eqb-true x.edge_id e.edge_id t))))

pub was_edge : (edges : List Edge) (e x : Edge) → Contains (without_row edge_id_of edges e.edge_id) x → Contains edges x × (x.edge_id ≡ e.edge_id → ⊥)
was_edge edges e x c = left_over edges e.edge_id x c

-- ---- the rings
-- each way along an edge of the drawing is one of its half-edges
pub half_there : (edges : List Edge) (k : HalfEdge) (x : Edge) → Contains edges x → (forward_of x ≡ k) ⊎ (backward_of x ≡ k) → Contains (flat_map both_ways edges) k
half_there edges k x c way =
    ⊎_elim (λ (p : forward_of x ≡ k). subst (Contains (flat_map both_ways edges)) p (forward_there edges x c)) (λ (p : backward_of x ≡ k). subst (Contains (flat_map both_ways edges)) p (backward_there edges x c)) way

pub without_edge_joined : (S : Drawing) (e : Edge) → HasPlainLines S → Contains S.edges e → IsAlone S e → FacesAgree (half_edges S) → FacesAgree (flat_map both_ways (without_row edge_id_of S.edges e.edge_id))
without_edge_joined S e good ce alone joined = joined_less (half_edges S) (flat_map both_ways (without_row edge_id_of S.edges e.edge_id)) into kept joined
  where
    into : (k : HalfEdge) → Contains (flat_map both_ways (without_row edge_id_of S.edges e.edge_id)) k → Contains (half_edges S) k
    into k c = let r = half_of (without_row edge_id_of S.edges e.edge_id) k c in half_there S.edges k r.edge (was_edge S.edges e r.edge r.there).0 r.way

    clash : (k t : HalfEdge) → (r : IsHalf S.edges k) → r.edge ≡ e → (x : IsHalf (without_row edge_id_of S.edges e.edge_id) t) → k.from_node ≡ t.from_node → ⊥
    clash k t r same x from =
        let was = was_edge S.edges e x.edge x.there in
        let ends : is_end_of k.from_node x.edge ≡ true = subst (λ n. is_end_of n x.edge ≡ true) (sym from) (leaves_end (without_row edge_id_of S.edges e.edge_id) t x) in
        ⊎_elim
        (λ (p : forward_of r.edge ≡ k). alone.at_start x.edge was.0 was.1 (subst (λ n. is_end_of n x.edge ≡ true) (ap (λ (z : HalfEdge). z.from_node) (sym p) ∙ ap (λ (z : Edge). z.start_node) same) ends))
        (λ (p : backward_of r.edge ≡ k). alone.at_end x.edge was.0 was.1 (subst (λ n. is_end_of n x.edge ≡ true) (ap (λ (z : HalfEdge). z.from_node) (sym p) ∙ ap (λ (z : Edge). z.end_node) same) ends))
        r.way

    kept : (k t : HalfEdge) → Contains (half_edges S) k → Contains (flat_map both_ways (without_row edge_id_of S.edges e.edge_id)) t → k.from_node ≡ t.from_node → Contains (flat_map both_ways (without_row edge_id_of S.edges e.edge_id)) k
    kept k t ck ct from =
        let r = half_of S.edges k ck in
        ⊎_elim
        (λ (p : (r.edge.edge_id == e.edge_id) ≡ true). absurd (clash k t r (one_edge S r.edge e good r.there ce (eqb-true r.edge.edge_id e.edge_id p)) (half_of (without_row edge_id_of S.edges e.edge_id) t ct) from))
        (λ (p : (r.edge.edge_id == e.edge_id) ≡ false).
        half_there (without_row edge_id_of S.edges e.edge_id) k r.edge (kept_edge S.edges e r.edge r.there (λ q. false≢true (sym p ∙ eq-eqb r.edge.edge_id e.edge_id q))) r.way)
        (by_bool (r.edge.edge_id == e.edge_id))

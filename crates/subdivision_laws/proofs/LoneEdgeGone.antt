-- An isolated edge that goes.
use Rattle.std.proofs.Common.{◌≡◌, ℕ, refl, sym, ◌∙◌, ap, subst, ◌⊎◌, ⊎_elim, true, false, ◌==◌, List, [], ◌∷◌, map, Some}
use Rattle.std.specs.List.{Contains}
use Rattle.std.proofs.lemmas.Bool.{both_ways, eqb-true, eq-eqb, or_left, or_right}
use Rattle.topo_base.specs.declared.rows.NodeRow.{NodeRow}
use Rattle.drawing.specs.Drawing.{Drawing, Edge, edge_id_of, is_end_of, is_isolated}
use Rattle.drawing.specs.HalfEdge.{HalfEdge, forward_of, backward_of, half_edges}
use Rattle.drawing.specs.IsoEdits.{put_in_face}
use Rattle.plane.specs.Line.{segments_of}
use Rattle.drawing.specs.Rows.{without_row}
use Rattle.plane.specs.Segment.{Segment}
use Rattle.plane.proofs.ListTests.{some_same}
use Rattle.edit_changes.specs.Evidence.{LoneEdgeMayGo}
use Rattle.face_rings.proofs.HalfLines.{begins}
use Rattle.face_rings.proofs.HalvesApart.{half_of, backward_there, one_edge}
use Rattle.face_rings.proofs.Ranks.{by_bool}
use Rattle.ring_laws.specs.Ringed.{IsRinged}
use Rattle.ring_laws.proofs.Known.{isolated_if, put_twice}
use Rattle.ring_laws.proofs.KnownStays.{without_edge}
use Rattle.ring_laws.proofs.Turning.{Turns, joined_of}
use Rattle.ring_laws.proofs.WithoutEdge.{IsAlone, alone_of, leaves_end, was_edge}
use Rattle.face_laws.specs.Covered.{IsInFaceOf, IsCovered}
use Rattle.subdivision_laws.proofs.Covers.{Covers}
use Rattle.subdivision_laws.proofs.GoneSteps.{with_sides, Takes, lines_before}
use Rattle.subdivision_laws.proofs.GoneFaces.{Settled, one_settled}
use Rattle.subdivision_laws.proofs.GoneNodes.{end_placed, node_stays, put_row, settled_covers}

-- its two sides are one
pub alone_sides : (S : Drawing) (e : Edge) → IsCovered S → Contains S.edges e → IsAlone S e → e.left_face ≡ e.right_face
alone_sides S e c ce alone = joined_of S (lines_before S c) c.ringed.rings.one_face (backward_of e) (backward_of e) turns
  where
    only : (k : HalfEdge) → Contains (half_edges S) k → k.from_node ≡ e.end_node → k ≡ backward_of e
    only k ck from =
        let r = half_of S.edges k ck in
        ⊎_elim
        (λ (p : (r.edge.edge_id == e.edge_id) ≡ true).
        let same = one_edge S r.edge e (lines_before S c) r.there ce (eqb-true r.edge.edge_id e.edge_id p) in
        ⊎_elim
        (λ (q : forward_of r.edge ≡ k). absurd (alone.differ (ap (λ (x : Edge). x.start_node) (sym same) ∙ ap (λ (x : HalfEdge). x.from_node) q ∙ from)))
        (λ (q : backward_of r.edge ≡ k). sym q ∙ ap backward_of same)
        r.way)
        (λ (p : (r.edge.edge_id == e.edge_id) ≡ false).
        absurd (alone.at_end r.edge r.there (λ q. other r.edge p q) (subst (λ n. is_end_of n r.edge ≡ true) from (leaves_end S.edges k r))))
        (by_bool (r.edge.edge_id == e.edge_id))
      where
        other : (x : Edge) → (x.edge_id == e.edge_id) ≡ false → x.edge_id ≡ e.edge_id → ⊥
        other x p q = both_ways (x.edge_id == e.edge_id) p (eq-eqb x.edge_id e.edge_id q)

    turns : Turns (half_edges S) (backward_of e) (backward_of e)
    turns = record {
      first = backward_there S.edges e ce;
      second = backward_there S.edges e ce;
      one_node = refl;
      none_between = λ k ck from far. absurd (far (only k ck from));
      alone = λ _ k ck from. only k ck from;
    }

same_sides : (edges : List Edge) → edges ≡ map (with_sides (λ m. m)) edges
same_sides [] = refl
same_sides (e ∷ edges) = ap (λ (es : List Edge). e ∷ es) (same_sides edges)

-- left of its line is that face, without it
lone_takes : (S : Drawing) (e : Edge) (first : Segment) (rest : List Segment) → LoneEdgeMayGo S e → IsCovered S → IsRinged (without_edge S e) → segments_of e.geom ≡ first ∷ rest → Takes S (without_edge S e) e first rest (λ m. m)
lone_takes S e first rest k c ringed line = record { before = c; after = ringed; there = k.there; line = line; edges = same_sides (without_row edge_id_of S.edges e.edge_id) }

pub lone_settled : (S : Drawing) (e : Edge) (first : Segment) (rest : List Segment) → LoneEdgeMayGo S e → IsCovered S → IsRinged (without_edge S e) → segments_of e.geom ≡ first ∷ rest → Settled S (without_edge S e) first rest (λ m. m) e.left_face
lone_settled S e first rest k c ringed line =
    one_settled S (without_edge S e) e first rest (λ m. m) (record { takes = lone_takes S e first rest k c ringed line; one = alone_sides S e c k.there (alone_of S e k.lone); stay = λ m. refl; listed = λ g is. is })

-- ---- the drawing without it
pub lone_edge_less : (S : Drawing) (e : Edge) → LoneEdgeMayGo S e → IsCovered S → IsRinged (without_edge S e) → Covers (without_edge S e)
lone_edge_less S e k c ringed =
    let b = begins e.geom ((lines_before S c).long e ce) in
    by_line (record { a = b.first; b = b.second }) (segments_of (b.second ∷ b.rest)) (ap segments_of b.is)
  where
    ce : Contains S.edges e
    ce = k.there

    alone : IsAlone S e
    alone = alone_of S e k.lone

    by_line : (first : Segment) (rest : List Segment) → segments_of e.geom ≡ first ∷ rest → Covers (without_edge S e)
    by_line first rest line = settled_covers S (without_edge S e) first rest (λ m. m) e.left_face settled placed
      where
        takes : Takes S (without_edge S e) e first rest (λ m. m)
        takes = lone_takes S e first rest k c ringed line

        settled : Settled S (without_edge S e) first rest (λ m. m) e.left_face
        settled = lone_settled S e first rest k c ringed line

        end_row : (n : NodeRow) → Contains (without_edge S e).nodes n → (r : NodeRow) × (Contains S.nodes r × ((n.node_id ≡ r.node_id) × (n.geom ≡ r.geom)))
        end_row n i =
            let p = put_row (Some e.left_face) e.start_node (put_in_face (Some e.left_face) e.end_node S.nodes) n i in
            let q = put_row (Some e.left_face) e.end_node S.nodes p.0 p.1.0 in
            (q.0, (q.1.0, (p.1.1.0 ∙ q.1.1.0, p.1.1.1 ∙ q.1.1.1)))

        is_end : (n : ℕ) → (n ≡ e.start_node) ⊎ (n ≡ e.end_node) → is_end_of n e ≡ true
        is_end n at =
            ⊎_elim
            (λ (p : n ≡ e.start_node). or_left (e.start_node == n) (e.end_node == n) (eq-eqb e.start_node n (sym p)))
            (λ (p : n ≡ e.end_node). or_right (e.start_node == n) (e.end_node == n) (eq-eqb e.end_node n (sym p)))
            at

        lone : (n : ℕ) → (n ≡ e.start_node) ⊎ (n ≡ e.end_node) → is_isolated (without_edge S e) n ≡ true
        lone n at = isolated_if (without_edge S e) n (λ x cx t.
            let was = was_edge S.edges e x cx in
            ⊎_elim (λ (p : n ≡ e.start_node). alone.at_start x was.0 was.1 (subst (λ m. is_end_of m x ≡ true) p t)) (λ (p : n ≡ e.end_node). alone.at_end x was.0 was.1 (subst (λ m. is_end_of m x ≡ true) p t)) at)

        placed : (n : NodeRow) (f : ℕ) → Contains (without_edge S e).nodes n → n.containing_face ≡ Some f → IsInFaceOf (without_edge S e) n.geom f
        placed n f i is =
            let m = put_twice (Some e.left_face) e.start_node e.end_node S.nodes n i in
            let r = end_row n i in
            ⊎_elim
            (λ (at : (n.containing_face ≡ Some e.left_face) × ((n.node_id ≡ e.start_node) ⊎ (n.node_id ≡ e.end_node))).
            subst (IsInFaceOf (without_edge S e) n.geom) (some_same e.left_face f (sym at.0 ∙ is))
            (end_placed S (without_edge S e) e first rest (λ m. m) e.left_face r.0 n takes settled r.1.0 i r.1.1.1 (subst (λ k. is_end_of k e ≡ true) r.1.1.0 (is_end n.node_id at.1)) (lone n.node_id at.1)))
            (λ (at : (n ≡ m.row) × (n.node_id ≡ e.start_node → ⊥) × (n.node_id ≡ e.end_node → ⊥)).
            subst (λ (x : NodeRow). IsInFaceOf (without_edge S e) x.geom f) (sym at.0)
            (node_stays S (without_edge S e) first rest (λ m. m) e.left_face m.row f c settled m.there (ap (λ (x : NodeRow). x.containing_face) (sym at.0) ∙ is)))
            m.is

-- The steps of a plain drawing are plain, and each stands once.
use Rattle.std.proofs.Common.{◌≡◌, ◌≢◌, refl, sym, ◌∙◌, ap, subst, ◌⊎◌, inl, inr, ⊎_elim, List, [], ◌∷◌, slice_get, Some, IsTrue}
use Rattle.std.specs.Prelude.{flat_map}
use Rattle.std.specs.List.{Contains}
use Rattle.std.proofs.lemmas.Bool.{and_parts, cases_eq, false≢true}
use Rattle.topo_base.specs.Point.{Point}
use Rattle.topo_base.specs.RationalPoint.{RationalPoint, IsAt}
use Rattle.topo_base.specs.declared.rows.NodeRow.{NodeRow}
use Rattle.drawing.specs.Drawing.{Drawing, Edge, edge_id_of, is_end_of}
use Rattle.drawing.specs.HalfEdge.{HalfEdge, forward_of, backward_of, both_ways, half_edges, twin}
use Rattle.plane.specs.Line.{segments_of, first_vertex, last_vertex}
use Rattle.plane.specs.Relation.{IsEnd, SameCoordinates}
use Rattle.plane.specs.RationalTests.{IsOn}
use Rattle.plane.specs.Segment.{Segment}
use Rattle.plane.specs.Crossings.{back}
use Rattle.plane.proofs.ListTests.{some_same, contains_cases}
use Rattle.drawing.proofs.Members.{Pairwise, ids_differ}
use Rattle.drawing.proofs.PlainSplits.{one_point}
use Rattle.face_rings.proofs.HalfLines.{HasPlainLines, forward_line}
use Rattle.face_rings.proofs.HalvesApart.{half_of, line_of, twin_there, one_edge}
use Rattle.parity_laws.specs.Ways.{Tied}
use Rattle.parity_laws.specs.Rings.{In, Once, Plain}
use Rattle.parity_laws.proofs.Ringwise.{in_each}
use Rattle.face_laws.specs.Walked.{steps_along, steps_of}
use Rattle.face_laws.proofs.Lists.{place_in, in_contains, in_joined, from_joined, once_joined}
use Rattle.face_laws.proofs.LineSteps.{proper_at, apart_at_ends, line_ends_meet, line_once, at_line_end, in_reverse, from_reverse}
use Rattle.face_laws.proofs.Tying.{MeetAtEnds, tied_from, turned_first, turned_second}

-- ---- segments of two edges
-- a common point of different edges is where lines end
pub node_ends : (S : Drawing) (e : Edge) (n : NodeRow) (q : RationalPoint) (r : Segment) → HasPlainLines S → Contains S.edges e → Contains S.nodes n → IsTrue (is_end_of n.node_id e) → IsAt n.geom q →
    In r (segments_of e.geom) → IsOn q r → IsEnd q r
node_ends S e n q r good ce cn ends at i on =
    let line = forward_line S e good ce in
    let (k, place) = place_in r (segments_of e.geom) i in
    at_line_end e.geom k r q line.simple place on
    (⊎_elim
    (λ (p : SameCoordinates n.geom (first_vertex e.geom)). inl (subst (λ (v : Point). IsAt v q) (one_point n.geom (first_vertex e.geom) p) at))
    (λ (p : SameCoordinates n.geom (last_vertex e.geom)). inr (subst (λ (v : Point). IsAt v q) (one_point n.geom (last_vertex e.geom) p) at))
    (line.ends n cn ends))

pub edges_meet : (S : Drawing) (e f : Edge) (r s : Segment) → HasPlainLines S → Contains S.edges e → Contains S.edges f → In r (segments_of e.geom) → In s (segments_of f.geom) →
    ((e ≡ f) × (r ≡ s)) ⊎ MeetAtEnds r s
edges_meet S e f r s good ce cf i j =
    ⊎_elim
    (λ (same : e.edge_id ≡ f.edge_id). of_one (one_edge S e f good ce cf same))
    (λ (far : e.edge_id ≡ f.edge_id → ⊥).
    inr (λ q on_r on_s.
    let (n, (cn, at, ends)) = good.plain.meet e f q ce cf far (r, (in_contains r (segments_of e.geom) i, on_r)) (s, (in_contains s (segments_of f.geom) j, on_s)) in
    let both = and_parts (is_end_of n.node_id e) (is_end_of n.node_id f) ends in
    (node_ends S e n q r good ce cn both.0 at i on_r, node_ends S f n q s good cf cn both.1 at j on_s)))
    (cases_eq e.edge_id f.edge_id)
  where
    of_one : e ≡ f → ((e ≡ f) × (r ≡ s)) ⊎ MeetAtEnds r s
    of_one p =
        let (k, at_k) = place_in r (segments_of e.geom) i in
        let (m, at_m) = place_in s (segments_of e.geom) (subst (λ (x : Edge). In s (segments_of x.geom)) (sym p) j) in
        ⊎_elim
        (λ (same : k ≡ m). inl (p, some_same r s (sym at_k ∙ subst (λ n. slice_get (segments_of e.geom) n ≡ Some s) (sym same) at_m)))
        (λ (other : k ≡ m → ⊥). inr (line_ends_meet e.geom k m r s (forward_line S e good ce).simple other at_k at_m))
        (cases_eq k m)

-- ---- steps of half-edges
-- a step of a half-edge is a segment of its edge, as that is walked
pub record IsStepOf (S : Drawing) (h : HalfEdge) (s : Segment) : Type 0 where
  pub edge : Edge
  pub there : Contains S.edges edge
  pub segment : Segment
  pub on : In segment (segments_of edge.geom)
  pub way : ((forward_of edge ≡ h) × (s ≡ segment)) ⊎ ((backward_of edge ≡ h) × (s ≡ back segment))

pub step_of : (S : Drawing) (h : HalfEdge) (s : Segment) → Contains (half_edges S) h → In s (steps_along h) → IsStepOf S h s
step_of S h s c i =
    let r = half_of S.edges h c in
    ⊎_elim
    (λ (p : forward_of r.edge ≡ h). record { edge = r.edge; there = r.there; segment = s; on = subst (λ (x : HalfEdge). In s (segments_of x.points)) (sym p) i; way = inl (p, refl) })
    (λ (p : backward_of r.edge ≡ h). record {
      edge = r.edge;
      there = r.there;
      segment = back s;
      on = from_reverse s r.edge.geom (subst (λ (x : HalfEdge). In s (segments_of x.points)) (sym p) i);
      way = inr (p, refl);
    })
    r.way

pub step_there : (S : Drawing) (h : HalfEdge) (s : Segment) → Contains (half_edges S) h → In s (steps_along h) → In s (steps_of S)
step_there S h s c i = in_joined steps_along (half_edges S) h s c i

pub half_with : (S : Drawing) (s : Segment) → In s (steps_of S) → (h : HalfEdge) × (Contains (half_edges S) h × In s (steps_along h))
half_with S s i = from_joined steps_along (half_edges S) s i

pub step_proper : (S : Drawing) (h : HalfEdge) (s : Segment) → HasPlainLines S → Contains (half_edges S) h → In s (steps_along h) → s.a ≢ s.b
step_proper S h s good c i =
    let line = line_of S h good (half_of S.edges h c) in
    let (k, e) = place_in s (segments_of h.points) i in
    proper_at h.points k s line.proper e

pub step_back : (h : HalfEdge) (s : Segment) → In s (steps_along h) → In (back s) (steps_along (twin h))
step_back h s i = in_reverse s h.points i

-- two steps are one, in any direction, or meet at ends alone
pub steps_meet : (S : Drawing) (h k : HalfEdge) (s t : Segment) → HasPlainLines S → Contains (half_edges S) h → Contains (half_edges S) k → In s (steps_along h) → In t (steps_along k) →
    (s ≡ t) ⊎ ((s ≡ back t) ⊎ MeetAtEnds s t)
steps_meet S h k s t good ch ck i j =
    let p = step_of S h s ch i in
    let q = step_of S k t ck j in
    ⊎_elim
    (λ (same : (p.edge ≡ q.edge) × (p.segment ≡ q.segment)). of_one p q same.1 p.way q.way)
    (λ (ends : MeetAtEnds p.segment q.segment). inr (inr (of_two p q ends p.way q.way)))
    (edges_meet S p.edge q.edge p.segment q.segment good p.there q.there p.on q.on)
  where
    of_one : (p : IsStepOf S h s) (q : IsStepOf S k t) → p.segment ≡ q.segment → ((forward_of p.edge ≡ h) × (s ≡ p.segment)) ⊎ ((backward_of p.edge ≡ h) × (s ≡ back p.segment)) →
        ((forward_of q.edge ≡ k) × (t ≡ q.segment)) ⊎ ((backward_of q.edge ≡ k) × (t ≡ back q.segment)) → (s ≡ t) ⊎ ((s ≡ back t) ⊎ MeetAtEnds s t)
    of_one p q e (inl a) (inl b) = inl (a.1 ∙ e ∙ sym b.1)
    of_one p q e (inl a) (inr b) = inr (inl (a.1 ∙ e ∙ ap back (sym b.1)))
    of_one p q e (inr a) (inl b) = inr (inl (a.1 ∙ ap back (e ∙ sym b.1)))
    of_one p q e (inr a) (inr b) = inl (a.1 ∙ ap back e ∙ sym b.1)

    of_two : (p : IsStepOf S h s) (q : IsStepOf S k t) → MeetAtEnds p.segment q.segment → ((forward_of p.edge ≡ h) × (s ≡ p.segment)) ⊎ ((backward_of p.edge ≡ h) × (s ≡ back p.segment)) →
        ((forward_of q.edge ≡ k) × (t ≡ q.segment)) ⊎ ((backward_of q.edge ≡ k) × (t ≡ back q.segment)) → MeetAtEnds s t
    of_two p q m (inl a) (inl b) = subst (λ z. MeetAtEnds z t) (sym a.1) (subst (MeetAtEnds p.segment) (sym b.1) m)
    of_two p q m (inl a) (inr b) = subst (λ z. MeetAtEnds z t) (sym a.1) (subst (MeetAtEnds p.segment) (sym b.1) (turned_second p.segment q.segment m))
    of_two p q m (inr a) (inl b) = subst (λ z. MeetAtEnds z t) (sym a.1) (subst (MeetAtEnds (back p.segment)) (sym b.1) (turned_first p.segment q.segment m))
    of_two p q m (inr a) (inr b) = subst (λ z. MeetAtEnds z t) (sym a.1) (subst (MeetAtEnds (back p.segment)) (sym b.1) (turned_second (back p.segment) q.segment (turned_first p.segment q.segment m)))

-- a step is of one half-edge alone
pub one_half : (S : Drawing) (h k : HalfEdge) (s : Segment) → HasPlainLines S → Contains (half_edges S) h → Contains (half_edges S) k → In s (steps_along h) → In s (steps_along k) → h ≡ k
one_half S h k s good ch ck i j =
    let p = step_of S h s ch i in
    let q = step_of S k s ck j in
    ⊎_elim
    (λ (same : (p.edge ≡ q.edge) × (p.segment ≡ q.segment)). of_one p q same p.way q.way)
    (λ (ends : MeetAtEnds p.segment q.segment). absurd (apart_at_ends p.segment q.segment (segment_proper p) ends (two_ways p q p.way q.way)))
    (edges_meet S p.edge q.edge p.segment q.segment good p.there q.there p.on q.on)
  where
    segment_proper : {x : HalfEdge} (p : IsStepOf S x s) → p.segment.a ≢ p.segment.b
    segment_proper p = let (n, e) = place_in p.segment (segments_of p.edge.geom) p.on in proper_at p.edge.geom n p.segment (forward_line S p.edge good p.there).proper e

    not_back : {x : HalfEdge} (p : IsStepOf S x s) → p.segment ≡ back p.segment → ⊥
    not_back p e = segment_proper p (ap (λ (r : Segment). r.a) e)

    of_one : (p : IsStepOf S h s) (q : IsStepOf S k s) → (p.edge ≡ q.edge) × (p.segment ≡ q.segment) → ((forward_of p.edge ≡ h) × (s ≡ p.segment)) ⊎ ((backward_of p.edge ≡ h) × (s ≡ back p.segment)) →
        ((forward_of q.edge ≡ k) × (s ≡ q.segment)) ⊎ ((backward_of q.edge ≡ k) × (s ≡ back q.segment)) → h ≡ k
    of_one p q e (inl a) (inl b) = sym a.0 ∙ ap forward_of e.0 ∙ b.0
    of_one p q e (inl a) (inr b) = absurd (not_back p (sym a.1 ∙ b.1 ∙ ap back (sym e.1)))
    of_one p q e (inr a) (inl b) = absurd (not_back p (e.1 ∙ sym b.1 ∙ a.1))
    of_one p q e (inr a) (inr b) = sym a.0 ∙ ap backward_of e.0 ∙ b.0

    two_ways : (p : IsStepOf S h s) (q : IsStepOf S k s) → ((forward_of p.edge ≡ h) × (s ≡ p.segment)) ⊎ ((backward_of p.edge ≡ h) × (s ≡ back p.segment)) →
        ((forward_of q.edge ≡ k) × (s ≡ q.segment)) ⊎ ((backward_of q.edge ≡ k) × (s ≡ back q.segment)) → (p.segment ≡ q.segment) ⊎ (p.segment ≡ back q.segment)
    two_ways p q (inl a) (inl b) = inl (sym a.1 ∙ b.1)
    two_ways p q (inl a) (inr b) = inr (sym a.1 ∙ b.1)
    two_ways p q (inr a) (inl b) = inr (ap back (sym a.1 ∙ b.1))
    two_ways p q (inr a) (inr b) = inl (ap back (sym a.1 ∙ b.1))

-- ---- the steps of a plain drawing
same_tied : (s t : Segment) → (t ≡ s) ⊎ (t ≡ back s) → Tied s t
same_tied s t =
    ⊎_elim
    (λ (e : t ≡ s). inr (inl (inl (ap (λ (r : Segment). r.a) e, ap (λ (r : Segment). r.b) e))))
    (λ (e : t ≡ back s). inr (inr (inl (ap (λ (r : Segment). r.b) e, ap (λ (r : Segment). r.a) e))))

pub steps_plain : (S : Drawing) → HasPlainLines S → Plain (steps_of S)
steps_plain S good = record {
  proper = λ s i. let (h, (c, j)) = half_with S s i in step_proper S h s good c j;
  tied = λ s i. in_each (Tied s) (steps_of S) (λ t j. tied_to s t i j);
  both = λ s i. let (h, (c, j)) = half_with S s i in step_there S (twin h) (back s) (twin_there S.edges h c) (step_back h s j);
}
  where
    tied_to : (s t : Segment) → In s (steps_of S) → In t (steps_of S) → Tied s t
    tied_to s t i j =
        let (h, (ch, ih)) = half_with S s i in
        let (k, (ck, jk)) = half_with S t j in
        ⊎_elim
        (λ (e : s ≡ t). same_tied s t (inl (sym e)))
        (⊎_elim
        (λ (e : s ≡ back t). same_tied s t (inr (ap back (sym e))))
        (λ (ends : MeetAtEnds s t). tied_from s t (step_proper S h s good ch ih) (step_proper S k t good ck jk) ends))
        (steps_meet S h k s t good ch ck ih jk)

-- no two half-edges are one
pub halves_differ : (edges : List Edge) → Pairwise (λ d e. edge_id_of d ≢ edge_id_of e) edges → Pairwise (λ (h k : HalfEdge). h ≡ k → ⊥) (flat_map both_ways edges)
halves_differ [] differ = tt
halves_differ (e ∷ edges) differ = (
  λ k c e'. ⊎_elim
      (λ (p : backward_of e ≡ k). false≢true (ap (λ (x : HalfEdge). x.is_forward) (p ∙ sym e')))
      (λ (d : Contains (flat_map both_ways edges) k). later k d (ap (λ (x : HalfEdge). x.edge_id) e'))
      (contains_cases k (backward_of e) (flat_map both_ways edges) c),
  (λ k d e'. later k d (ap (λ (x : HalfEdge). x.edge_id) e'), halves_differ edges differ.1),
)
  where
    later : (k : HalfEdge) → Contains (flat_map both_ways edges) k → e.edge_id ≡ k.edge_id → ⊥
    later k d same =
        let r = half_of edges k d in
        differ.0 r.edge r.there (same ∙ sym (⊎_elim (λ (p : forward_of r.edge ≡ k). ap (λ (x : HalfEdge). x.edge_id) p) (λ (p : backward_of r.edge ≡ k). ap (λ (x : HalfEdge). x.edge_id) p) r.way))

pub steps_once : (S : Drawing) → HasPlainLines S → Once (steps_of S)
steps_once S good =
    once_joined steps_along (half_edges S) (halves_differ S.edges (ids_differ edge_id_of 0 S.next_ids.edge S.edges good.edge_ids))
    (λ h c. let line = line_of S h good (half_of S.edges h c) in line_once h.points line.proper line.simple)
    (λ h k s ch ck i j. one_half S h k s good ch ck i j)

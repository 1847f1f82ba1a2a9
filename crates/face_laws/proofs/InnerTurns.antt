-- At an inner vertex of a line the step after a step is the next one on the line.
use Rattle.std.proofs.Common.{◌≡◌, ℕ, suc, sym, ◌∙◌, ap, subst, ◌⊎◌, inl, inr, ⊎_elim, false, List, slice_get, Some}
use Rattle.std.specs.List.{Contains}
use Rattle.std.proofs.lemmas.Bool.{and_parts, cases_eq}
use Rattle.topo_base.specs.Point.{Point}
use Rattle.topo_base.specs.RationalPoint.{rational, IsAt}
use Rattle.drawing.specs.Drawing.{Drawing, is_end_of}
use Rattle.drawing.specs.HalfEdge.{HalfEdge, forward_of, backward_of, half_edges, twin}
use Rattle.plane.specs.Line.{segments_of, first_vertex, last_vertex}
use Rattle.plane.specs.Relation.{SameCoordinates}
use Rattle.plane.specs.RationalTests.{IsOn}
use Rattle.plane.specs.Segment.{Segment}
use Rattle.plane.proofs.Collinear.{at_point}
use Rattle.plane.specs.Crossings.{back}
use Rattle.plane.proofs.ListTests.{some_same}
use Rattle.drawing.proofs.PlainSplits.{one_point}
use Rattle.face_rings.proofs.HalfLines.{HasPlainLines}
use Rattle.face_rings.proofs.HalvesApart.{IsHalf, half_of, line_of, one_edge}
use Rattle.ring_laws.proofs.Turning.{twin_twin}
use Rattle.parity_laws.specs.Steps.{direction}
use Rattle.parity_laws.specs.Ways.{inside, Outside}
use Rattle.parity_laws.specs.Rings.{In, Next}
use Rattle.parity_laws.proofs.Across.{start_on, end_on}
use Rattle.parity_laws.proofs.Ringwise.{in_each}
use Rattle.face_laws.specs.Walked.{steps_along, steps_of}
use Rattle.face_laws.proofs.Lists.{place_in, in_contains, in_place}
use Rattle.face_laws.proofs.LineSteps.{proper_at, from_reverse}
use Rattle.face_laws.proofs.PlainSteps.{half_with, steps_plain}
use Rattle.face_laws.proofs.Tying.{one_end}
use Rattle.face_laws.proofs.Vertices.{IsWellMade, Follows, follows_meet, between_only, between_no_end}
use Rattle.parity_laws.proofs.Nearby.{inside_start}
use Rattle.parity_laws.proofs.Following.{inside_end}

-- where each step goes both ways it is enough to look at those that begin there
pub next_by_starts : (T : List Segment) (d n : Segment) → ((s : Segment) → In s T → In (back s) T) → n.a ≡ d.b →
    ((r : Segment) → In r T → r.a ≡ d.b → inside (direction (back d)) (direction n) (direction r) ≡ false) → Next T d n
next_by_starts T d n both meets out = record {
  meets = meets;
  first = in_each (Outside d (direction n)) T (λ r i. record { start = λ e. out r i e; end = λ e. out (back r) (both r i) e });
}

-- ---- two half-edges are of different edges, or one, or one walked back
pub two_halves : (S : Drawing) (h k : HalfEdge) → HasPlainLines S → Contains (half_edges S) h → Contains (half_edges S) k → (h.edge_id ≡ k.edge_id → ⊥) ⊎ ((k ≡ h) ⊎ (k ≡ twin h))
two_halves S h k good ch ck =
    let p = half_of S.edges h ch in
    let q = half_of S.edges k ck in
    ⊎_elim
    (λ (e : h.edge_id ≡ k.edge_id). inr (by_way p q (one_edge S p.edge q.edge good p.there q.there (id_of h p ∙ e ∙ sym (id_of k q))) p.way q.way))
    (λ (far : h.edge_id ≡ k.edge_id → ⊥). inl far)
    (cases_eq h.edge_id k.edge_id)
  where
    id_of : (x : HalfEdge) (r : IsHalf S.edges x) → r.edge.edge_id ≡ x.edge_id
    id_of x r = ⊎_elim (λ (p : forward_of r.edge ≡ x). ap (λ (y : HalfEdge). y.edge_id) p) (λ (p : backward_of r.edge ≡ x). ap (λ (y : HalfEdge). y.edge_id) p) r.way

    by_way : (p : IsHalf S.edges h) (q : IsHalf S.edges k) → p.edge ≡ q.edge → (forward_of p.edge ≡ h) ⊎ (backward_of p.edge ≡ h) → (forward_of q.edge ≡ k) ⊎ (backward_of q.edge ≡ k) → (k ≡ h) ⊎ (k ≡ twin h)
    by_way p q e (inl a) (inl b) = inl (sym b ∙ ap forward_of (sym e) ∙ a)
    by_way p q e (inr a) (inr b) = inl (sym b ∙ ap backward_of (sym e) ∙ a)
    by_way p q e (inl a) (inr b) = inr (sym b ∙ ap backward_of (sym e) ∙ ap twin a)
    by_way p q e (inr a) (inl b) = inr (sym b ∙ ap forward_of (sym e) ∙ sym (twin_twin (forward_of p.edge)) ∙ ap twin a)

pub well_made : (S : Drawing) (h : HalfEdge) → HasPlainLines S → Contains (half_edges S) h → IsWellMade h.points
well_made S h good c = let line = line_of S h good (half_of S.edges h c) in record { proper = line.proper; simple = line.simple }

-- ---- at an inner vertex of h
pub record AtInner (S : Drawing) (h : HalfEdge) (k : ℕ) (s t : Segment) : Type 0 where
  pub good : HasPlainLines S
  pub there : Contains (half_edges S) h
  pub two : Follows h.points k s t

-- no other step begins there
pub inner_starts : (S : Drawing) (h m : HalfEdge) (k : ℕ) (s t r : Segment) → AtInner S h k s t → Contains (half_edges S) m → In r (steps_along m) → r.a ≡ s.b → (r ≡ t) ⊎ (r ≡ back s)
inner_starts S h m k s t r at cm i e =
    ⊎_elim
    (λ (far : h.edge_id ≡ m.edge_id → ⊥). absurd (other_edge far))
    (⊎_elim
    (λ (p : m ≡ h).
    let (j, f) = place_in r (segments_of h.points) (subst (λ (x : HalfEdge). In r (segments_of x.points)) p i) in
    ⊎_elim
    (λ (same : j ≡ k). absurd (not_s (one_place j k r s f at.two.first same)))
    (λ (same : j ≡ suc k). inl (one_place j (suc k) r t f at.two.second same))
    (between_only h.points k j s t r made at.two f (subst (λ (p : Point). IsOn (rational p) r) e (start_on r))))
    (λ (p : m ≡ twin h).
    let (j, f) = place_in (back r) (segments_of h.points) (from_reverse r h.points (subst (λ (x : HalfEdge). In r (segments_of x.points)) p i)) in
    ⊎_elim
    (λ (same : j ≡ k). inr (ap back (one_place j k (back r) s f at.two.first same)))
    (λ (same : j ≡ suc k). absurd (not_back_t (ap back (one_place j (suc k) (back r) t f at.two.second same))))
    (between_only h.points k j s t (back r) made at.two f (subst (λ (p : Point). IsOn (rational p) (back r)) e (end_on (back r))))))
    (two_halves S h m at.good at.there cm)
  where
    made : IsWellMade h.points
    made = well_made S h at.good at.there

    one_place : (i j : ℕ) (x y : Segment) → slice_get (segments_of h.points) i ≡ Some x → slice_get (segments_of h.points) j ≡ Some y → i ≡ j → x ≡ y
    one_place i j x y f g same = some_same x y (sym f ∙ subst (λ n. slice_get (segments_of h.points) n ≡ Some y) (sym same) g)

    not_s : r ≡ s → ⊥
    not_s p = proper_at h.points k s made.proper at.two.first (ap (λ (x : Segment). x.a) (sym p) ∙ e)

    not_back_t : r ≡ back t → ⊥
    not_back_t p = proper_at h.points (suc k) t made.proper at.two.second (follows_meet h.points k s t at.two ∙ sym e ∙ ap (λ (x : Segment). x.a) p)

    other_edge : (h.edge_id ≡ m.edge_id → ⊥) → ⊥
    other_edge far =
        let p = half_of S.edges h at.there in
        let q = half_of S.edges m cm in
        let line = line_of S h at.good p in
        let other = line_of S m at.good q in
        let place = rational s.b in
        let on_h = line.on_edge place (s, (in_contains s (segments_of h.points) (in_place s (segments_of h.points) k at.two.first), end_on s)) in
        let on_m = other.on_edge place (r, (in_contains r (segments_of m.points) i, subst (λ (p : Point). IsOn (rational p) r) e (start_on r))) in
        let (n, (cn, here, ends)) = at.good.plain.meet p.edge q.edge place p.there q.there (λ same. far (line.id ∙ same ∙ sym other.id)) on_h on_m in
        between_no_end h.points k s t made at.two
        (⊎_elim
        (λ (z : SameCoordinates n.geom (first_vertex h.points)). inl (one_end place s.b (first_vertex h.points) (at_point s.b) (subst (λ (v : Point). IsAt v place) (one_point n.geom (first_vertex h.points) z) here)))
        (λ (z : SameCoordinates n.geom (last_vertex h.points)). inr (one_end place s.b (last_vertex h.points) (at_point s.b) (subst (λ (v : Point). IsAt v place) (one_point n.geom (last_vertex h.points) z) here)))
        (line.ends n cn (and_parts (is_end_of n.node_id p.edge) (is_end_of n.node_id q.edge) ends).0))

pub inner_next : (S : Drawing) (h : HalfEdge) (k : ℕ) (s t : Segment) → AtInner S h k s t → Next (steps_of S) s t
inner_next S h k s t at =
    next_by_starts (steps_of S) s t (λ r i. (steps_plain S at.good).both r i) (follows_meet h.points k s t at.two) (λ r i e.
    let (m, (c, j)) = half_with S r i in
    ⊎_elim
    (λ (p : r ≡ t). subst (λ z. inside (direction (back s)) (direction t) (direction z) ≡ false) (sym p) (inside_end (direction (back s)) (direction t)))
    (λ (p : r ≡ back s). subst (λ z. inside (direction (back s)) (direction t) (direction z) ≡ false) (sym p) (inside_start (direction (back s)) (direction t)))
    (inner_starts S h m k s t r at c j e))

-- The step after the last one of a half-edge is the first one of the half-edge that is next.
use Rattle.std.proofs.Common.{◌≡◌, ℕ, ◌+◌, sym, ◌∙◌, ap, subst, inl, inr, ⊎_elim, false, length, slice_get, Some}
use Rattle.std.specs.Prelude.{reverse}
use Rattle.std.specs.List.{Contains}
use Rattle.std.proofs.lemmas.Bool.{both_ways, false_from_ne_true}
use Rattle.topo_base.specs.Point.{Point}
use Rattle.topo_base.specs.RationalPoint.{rational}
use Rattle.topo_base.specs.declared.rows.NodeRow.{NodeRow}
use Rattle.plane.specs.Direction.{is_nearer}
use Rattle.drawing.specs.Drawing.{Drawing}
use Rattle.drawing.specs.HalfEdge.{HalfEdge, half_edges, twin}
use Rattle.plane.specs.Line.{segments_of, first_vertex, last_vertex}
use Rattle.plane.specs.Relation.{SameCoordinates}
use Rattle.plane.specs.RationalTests.{IsOn}
use Rattle.plane.specs.Segment.{Segment}
use Rattle.drawing.specs.Star.{leaving, next_of}
use Rattle.plane.proofs.LineCuts.{last_ends}
use Rattle.plane.proofs.LineTurns.{first-reverse}
use Rattle.drawing.proofs.PlainSplits.{one_point, point_id}
use Rattle.plane.proofs.SimpleTests.{first_begins}
use Rattle.face_rings.proofs.HalfLines.{HasPlainLines}
use Rattle.face_rings.proofs.HalvesApart.{half_of, line_of, twin_there, one_start, directions_differ}
use Rattle.face_rings.proofs.NextApart.{next_there, next_from, leaving_not_zero}
use Rattle.ring_laws.proofs.Turning.{Turns, next_turns, one_or_other}
use Rattle.parity_laws.specs.Ways.{inside}
use Rattle.parity_laws.specs.Rings.{In, Next}
use Rattle.parity_laws.proofs.Across.{start_on}
use Rattle.face_laws.specs.Walked.{steps_along, steps_of}
use Rattle.face_laws.proofs.Lists.{place_in, in_contains}
use Rattle.face_laws.proofs.InnerTurns.{next_by_starts, well_made}
use Rattle.face_laws.proofs.InsideNearer.{inside_nearer}
use Rattle.face_laws.proofs.PlainSteps.{half_with, steps_plain}
use Rattle.face_laws.proofs.Vertices.{begins_at_end, first_way, last_way}
use Rattle.parity_laws.proofs.Nearby.{inside_start}

-- d is the last step of h
pub record IsLastOf (h : HalfEdge) (d : Segment) : Type 0 where
  pub place : ℕ
  pub there : slice_get (segments_of h.points) place ≡ Some d
  pub last : place + 1 ≡ length (segments_of h.points)

-- n is the first
abbrev pub IsFirstOf : HalfEdge → Segment → Type 0
IsFirstOf h n = slice_get (segments_of h.points) 0 ≡ Some n

-- ---- what leaves a node
-- a step that begins where h begins is the first of a half-edge that leaves the same node
pub record LeavesToo (S : Drawing) (h x : HalfEdge) (r : Segment) : Type 0 where
  pub first : IsFirstOf x r
  pub node : x.from_node ≡ h.from_node

pub leaves_too : (S : Drawing) (h x : HalfEdge) (r : Segment) → HasPlainLines S → Contains (half_edges S) h → Contains (half_edges S) x → In r (steps_along x) → r.a ≡ first_vertex h.points → LeavesToo S h x r
leaves_too S h x r good ch cx i e = by_node (line_of S h good (half_of S.edges h ch)).starts
  where
    by_node : (n : NodeRow) × (Contains S.nodes n × ((n.node_id ≡ h.from_node) × SameCoordinates n.geom (first_vertex h.points))) → LeavesToo S h x r
    by_node (n, (cn, (id, at))) =
        let p = half_of S.edges x cx in
        let line = line_of S x good p in
        let here : n.geom ≡ r.a = one_point n.geom (first_vertex h.points) at ∙ sym e in
        let on = line.on_edge (rational n.geom) (r, (in_contains r (segments_of x.points) i, subst (λ (v : Point). IsOn (rational v) r) (sym here) (start_on r))) in
        let ends = line.ends n cn (good.plain.off n p.edge cn p.there on) in
        let (j, f) = place_in r (segments_of x.points) i in
        let zeroth = begins_at_end x.points j r (well_made S x good cx) f
        (⊎_elim
        (λ (z : SameCoordinates n.geom (first_vertex x.points)). inl (sym here ∙ one_point n.geom (first_vertex x.points) z))
        (λ (z : SameCoordinates n.geom (last_vertex x.points)). inr (sym here ∙ one_point n.geom (last_vertex x.points) z))
        ends) in
        let f' : IsFirstOf x r = subst (λ k. slice_get (segments_of x.points) k ≡ Some r) zeroth f in
        let vertex : n.geom ≡ first_vertex x.points = here ∙ sym (first_begins x.points r f') in
        record {
          first = f';
          node = sym (point_id S.nodes n x.from_node (first_vertex x.points) good.plain.apart cn (ap (λ (v : Point). v.x) vertex, ap (λ (v : Point). v.y) vertex) line.starts) ∙ id;
        }

-- ---- the wedge before the next half-edge
none_inside : (S : Drawing) (h x : HalfEdge) → HasPlainLines S → Contains (half_edges S) h → Contains (half_edges S) x → x.from_node ≡ h.to_node →
    inside (leaving (twin h)) (leaving (next_of (half_edges S) h)) (leaving x) ≡ false
none_inside S h x good ch cx from =
    ⊎_elim
    (λ (p : x ≡ twin h). subst (λ (y : HalfEdge). inside (leaving (twin h)) (leaving (next_of (half_edges S) h)) (leaving y) ≡ false) (sym p) (inside_start (leaving (twin h)) (leaving (next_of (half_edges S) h))))
    (λ (other : x ≡ twin h → ⊥).
    false_from_ne_true (inside (leaving (twin h)) (leaving (next_of (half_edges S) h)) (leaving x)) (λ e.
    both_ways (is_nearer (leaving (twin h)) (leaving x) (leaving (next_of (half_edges S) h))) (turns.none_between x cx from other)
    (inside_nearer (leaving (twin h)) (leaving (next_of (half_edges S) h)) (leaving x) (leaving_not_zero S (twin h) good back_there) (leaving_not_zero S (next_of (half_edges S) h) good next)
    (leaving_not_zero S x good cx) (λ one. other (turns.alone (sym (directions_differ S (twin h) (next_of (half_edges S) h) good back_there next (sym turns.one_node) one)) x cx from)) e)))
    (one_or_other S x (twin h) good cx back_there)
  where
    back_there : Contains (half_edges S) (twin h)
    back_there = twin_there S.edges h ch

    next : Contains (half_edges S) (next_of (half_edges S) h)
    next = next_there S h good ch

    turns : Turns (half_edges S) (twin h) (next_of (half_edges S) h)
    turns = next_turns S h good ch

pub half_next : (S : Drawing) (h : HalfEdge) (d n : Segment) → HasPlainLines S → Contains (half_edges S) h → IsLastOf h d → IsFirstOf (next_of (half_edges S) h) n → Next (steps_of S) d n
half_next S h d n good ch last first =
    next_by_starts (steps_of S) d n (λ r i. (steps_plain S good).both r i) (sym (first_begins next.points n first) ∙ vertex ∙ sym at_end) (λ r i e.
    let (x, (cx, j)) = half_with S r i in
    let too = leaves_too S (twin h) x r good back_there cx j (e ∙ at_end) in
    let u = last_way h.points last.place d last.there last.last in
    let w = first_way next.points n first in
    let v = first_way x.points r too.first in
    (λ k. inside (u k) (w k) (v k)) ∙ none_inside S h x good ch cx too.node)
  where
    next : HalfEdge
    next = next_of (half_edges S) h

    back_there : Contains (half_edges S) (twin h)
    back_there = twin_there S.edges h ch

    at_end : d.b ≡ first_vertex (reverse h.points)
    at_end = sym (last_ends h.points last.place d last.there last.last) ∙ sym (first-reverse h.points)

    vertex : first_vertex (next_of (half_edges S) h).points ≡ first_vertex (reverse h.points)
    vertex =
        one_start S (next_of (half_edges S) h).from_node h.to_node (first_vertex (next_of (half_edges S) h).points) (first_vertex (reverse h.points)) good (next_from S h good ch)
        (line_of S (next_of (half_edges S) h) good (half_of S.edges (next_of (half_edges S) h) (next_there S h good ch))).starts
        (line_of S (twin h) good (half_of S.edges (twin h) (twin_there S.edges h ch))).starts

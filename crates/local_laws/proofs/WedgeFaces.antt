-- What the parities say left of a line at the node that it leaves: the face of the wedge in which it lies.
use Rattle.std.proofs.Common.{◌≡◌, ◌≢◌, ℕ, sym, ◌∙◌, ap, subst, ⊎_elim, true, false, eqb, Some, filter, unwrap_or}
use Rattle.std.specs.List.{Contains}
use Rattle.std.proofs.lemmas.Bool.{both_ways, false_from_ne_true}
use Rattle.topo_base.specs.Point.{Point}
use Rattle.topo_base.specs.RationalPoint.{rational}
use Rattle.topo_base.specs.declared.rows.NodeRow.{NodeRow}
use Rattle.plane.specs.Direction.{is_nearer, same_direction, OneDirection, IsNotZero}
use Rattle.drawing.specs.Drawing.{Drawing, is_isolated}
use Rattle.plane.specs.Parity.{xor}
use Rattle.drawing.specs.Faces.{wedge_face, face_after}
use Rattle.drawing.specs.HalfEdge.{HalfEdge, forward_of, backward_of, half_edges, twin, leaves}
use Rattle.plane.specs.Line.{segments_of, first_vertex}
use Rattle.plane.specs.RationalTests.{IsOn}
use Rattle.plane.specs.Segment.{Segment}
use Rattle.drawing.specs.Star.{leaving, last_clockwise}
use Rattle.plane.specs.Crossings.{back}
use Rattle.plane.proofs.Directions.{nearer_cyclic, same_out}
use Rattle.drawing.proofs.PlainSplits.{end_cases}
use Rattle.plane.proofs.SimpleTests.{first_begins}
use Rattle.plane.proofs.Wedges.{apart_nearer}
use Rattle.face_rings.proofs.HalfLines.{HasPlainLines}
use Rattle.face_rings.proofs.HalvesApart.{half_of, line_of, twin_there, one_start, directions_differ, forward_there, backward_there}
use Rattle.face_rings.proofs.NextApart.{leaving_not_zero}
use Rattle.ring_laws.proofs.Inserting.{IsLast, NoneLeaves}
use Rattle.ring_laws.proofs.Known.{lone_of}
use Rattle.ring_laws.proofs.Turning.{one_or_other}
use Rattle.ring_laws.proofs.WithEdge.{comes_into}
use Rattle.parity_laws.specs.Rings.{In, Next, Drawn, those, of_face}
use Rattle.parity_laws.specs.Steps.{Even, direction, above, left}
use Rattle.parity_laws.specs.Walks.{NotAt}
use Rattle.parity_laws.specs.Ways.{inside}
use Rattle.parity_laws.proofs.Across.{start_on as start_on_step}
use Rattle.parity_laws.proofs.Nearby.{inside_start}
use Rattle.parity_laws.proofs.Orbits.{label_even}
use Rattle.parity_laws.proofs.Ringwise.{in_each, side_next}
use Rattle.parity_laws.proofs.Star.{those_in, those_within}
use Rattle.parity_laws.proofs.Sums.{xor_none}
use Rattle.parity_laws.proofs.Walking.{not_turned}
use Rattle.face_laws.specs.Walked.{steps_of}
use Rattle.face_laws.specs.Covered.{face_of, IsCovered}
use Rattle.face_laws.proofs.Covering.{known}
use Rattle.face_laws.proofs.FaceOnLeft.{left_is}
use Rattle.face_laws.proofs.InnerTurns.{next_by_starts}
use Rattle.face_laws.proofs.InsideNearer.{inside_nearer}
use Rattle.face_laws.proofs.Lists.{in_contains}
use Rattle.face_laws.proofs.NextTurns.{leaves_too}
use Rattle.face_laws.proofs.PlainSteps.{half_with, step_there, step_back, steps_plain}
use Rattle.face_laws.proofs.RingLabels.{face_ringwise, first_step, first_there}
use Rattle.face_laws.proofs.Vertices.{first_way}
use Rattle.subdivision_laws.proofs.AddedSides.{isolated_node, face_known}
use Rattle.subdivision_laws.proofs.AddedSteps.{drawn_of}
use Rattle.subdivision_laws.proofs.DividedFaces.{start_on}

-- x comes to the drawing S, which T is with x and perhaps more
pub record Comes (S T : Drawing) (x : HalfEdge) : Type 0 where
  pub lines : HasPlainLines S
  pub more : HasPlainLines T
  pub stays : (h : HalfEdge) → Contains (half_edges S) h → Contains (half_edges T) h
  pub there : Contains (half_edges T) x
  pub fresh : Contains (half_edges S) x → ⊥

-- no old half-edge leaves inside the wedge from the last one before x, clockwise to x
none_before : (S T : Drawing) (x p y : HalfEdge) → Comes S T x → IsLast (half_edges S) x p → Contains (half_edges S) y → y.from_node ≡ x.from_node → inside (leaving p) (leaving x) (leaving y) ≡ false
none_before S T x p y c last cy from =
    ⊎_elim
    (λ (e : y ≡ p). subst (λ (z : HalfEdge). inside (leaving p) (leaving x) (leaving z) ≡ false) (sym e) (inside_start (leaving p) (leaving x)))
    (λ (other : y ≡ p → ⊥).
    false_from_ne_true (inside (leaving p) (leaving x) (leaving y)) (λ e.
    both_ways (is_nearer (leaving x) (leaving p) (leaving y)) (last.last y cy from) (turned_round other (inside_nearer (leaving p) (leaving x) (leaving y) zero_p zero_x zero_y apart e))))
    (one_or_other S y p c.lines cy last.there)
  where
    zero_p : IsNotZero (leaving p)
    zero_p = leaving_not_zero S p c.lines last.there

    zero_y : IsNotZero (leaving y)
    zero_y = leaving_not_zero S y c.lines cy

    zero_x : IsNotZero (leaving x)
    zero_x = leaving_not_zero T x c.more c.there

    apart : OneDirection (leaving p) (leaving x) → ⊥
    apart one = c.fresh (subst (Contains (half_edges S)) (directions_differ T p x c.more (c.stays p last.there) c.there last.one_node one) last.there)

    turned_round : (y ≡ p → ⊥) → is_nearer (leaving p) (leaving y) (leaving x) ≡ true → is_nearer (leaving x) (leaving p) (leaving y) ≡ true
    turned_round other near =
        nearer_cyclic (leaving y) (leaving x) (leaving p) zero_y zero_x
        (nearer_cyclic (leaving p) (leaving y) (leaving x) zero_p zero_y near
        (false_from_ne_true (same_direction (leaving p) (leaving y)) (λ e. other (sym (directions_differ S p y c.lines last.there cy (last.one_node ∙ sym from) (same_out (leaving p) (leaving y) zero_p zero_y e))))))
        (apart_nearer (leaving p) (leaving y) (leaving x) zero_y zero_x near)

-- so x begins with the step after the last one, walked back
pub last_then : (S T : Drawing) (x p : HalfEdge) → Comes S T x → IsLast (half_edges S) x p → Next (steps_of S) (back (first_step p)) (first_step x)
last_then S T x p c last =
    next_by_starts (steps_of S) (back (first_step p)) (first_step x) (λ r i. (steps_plain S c.lines).both r i) (sym begin_x ∙ sym vertex ∙ begin_p) (λ r i e.
    let (y, (cy, j)) = half_with S r i in
    let too = leaves_too S p y r c.lines last.there cy j (e ∙ sym begin_p) in
    let u = first_way p.points (first_step p) (first_there S p c.lines last.there) in
    let w = first_way x.points (first_step x) (first_there T x c.more c.there) in
    let v = first_way y.points r too.first in
    (λ k. inside (u k) (w k) (v k)) ∙ none_before S T x p y c last cy (too.node ∙ last.one_node))
  where
    begin_p : first_vertex p.points ≡ (first_step p).a
    begin_p = first_begins p.points (first_step p) (first_there S p c.lines last.there)

    begin_x : first_vertex x.points ≡ (first_step x).a
    begin_x = first_begins x.points (first_step x) (first_there T x c.more c.there)

    vertex : first_vertex p.points ≡ first_vertex x.points
    vertex =
        one_start T p.from_node x.from_node (first_vertex p.points) (first_vertex x.points) c.more last.one_node
        (line_of T p c.more (half_of T.edges p (c.stays p last.there))).starts (line_of T x c.more (half_of T.edges x c.there)).starts

-- ---- a node that no half-edge leaves
no_step : (S : Drawing) (n : NodeRow) → HasPlainLines S → Contains S.nodes n → NoneLeaves (half_edges S) n.node_id → (t : Segment) → In t (steps_of S) → t.a ≢ n.geom
no_step S n good cn none t i e =
    let (y, (cy, j)) = half_with S t i in
    let p = half_of S.edges y cy in
    let on = (line_of S y good p).on_edge (rational n.geom) (t, (in_contains t (segments_of y.points) j, subst (λ (v : Point). IsOn (rational v) t) e (start_on_step t))) in
    ⊎_elim
    (λ (k : n.node_id ≡ p.edge.start_node). none (forward_of p.edge) (forward_there S.edges p.edge p.there) (sym k))
    (λ (k : n.node_id ≡ p.edge.end_node). none (backward_of p.edge) (backward_there S.edges p.edge p.there) (sym k))
    (end_cases n.node_id p.edge (good.plain.off n p.edge cn p.there on))

-- ---- the parities at the node
-- x leaves the node n into the face f
pub record LeavesInto (S T : Drawing) (n : NodeRow) (x : HalfEdge) (f : ℕ) : Type 0 where
  pub before : IsCovered S
  pub comes : Comes S T x
  pub node : Contains S.nodes n
  pub from : x.from_node ≡ n.node_id
  pub begins : (first_step x).a ≡ n.geom
  pub face : wedge_face S n (leaving x) ≡ f

pub wedge_parity : (S T : Drawing) (n : NodeRow) (x : HalfEdge) (f : ℕ) → LeavesInto S T n x f → (g : ℕ) → g ≢ 0 → left (those (of_face (face_of S) g) (steps_of S)) (first_step x) ≡ eqb f g
wedge_parity S T n x f h g ng =
    ⊎_elim
    (λ (none : NoneLeaves (half_edges S) x.from_node). alone (no_step S n h.comes.lines h.node (subst (NoneLeaves (half_edges S)) h.from none)))
    (λ (p : (p : HalfEdge) × (IsLast (half_edges S) x p × (p.on_right ≡ f))). beside p.0 p.1.0 p.1.1)
    (comes_into S n x f h.from (lone_of S n (known S h.before.ringed) h.node) h.face)
  where
    drawn : Drawn (steps_of S)
    drawn = drawn_of S h.comes.lines

    even : Even (those (of_face (face_of S) g) (steps_of S))
    even = label_even (steps_of S) drawn.plain drawn.once (of_face (face_of S) g) (face_ringwise S g h.before.ringed.rings)

    beside : (p : HalfEdge) → IsLast (half_edges S) x p → p.on_right ≡ f → left (those (of_face (face_of S) g) (steps_of S)) (first_step x) ≡ eqb f g
    beside p last right =
        let on = step_back p (first_step p) (start_on S p h.comes.lines last.there) in
        let cp = twin_there S.edges p last.there in
        let i = step_there S (twin p) (back (first_step p)) cp on in
        sym (side_next (steps_of S) (those (of_face (face_of S) g) (steps_of S)) (back (first_step p)) (first_step x) drawn.plain even (those_within (of_face (face_of S) g) (steps_of S)) i (last_then S T x p h.comes last))
        ∙ h.before.sided g ng (back (first_step p)) i
        ∙ ap (λ k. eqb k g) (left_is S (twin p) (back (first_step p)) h.comes.lines cp on ∙ right)

    alone : ((t : Segment) → In t (steps_of S) → t.a ≢ n.geom) → left (those (of_face (face_of S) g) (steps_of S)) (first_step x) ≡ eqb f g
    alone none =
        let lone = isolated_node S n h.comes.lines h.node none in
        let c = face_known S n.containing_face (is_isolated S n.node_id) ((known S h.before.ringed).nodes n h.node) lone in
        ap (xor (above (those (of_face (face_of S) g) (steps_of S)) (first_step x).a))
        (not_turned (those (of_face (face_of S) g) (steps_of S)) (first_step x).a (direction (first_step x)) (in_each (NotAt (first_step x).a) (those (of_face (face_of S) g) (steps_of S)) (λ t j.
        let m = those_in (of_face (face_of S) g) (steps_of S) t j in
        ((λ e. none t m.0 (e ∙ h.begins)), (λ e. none (back t) (drawn.plain.both t m.0) (e ∙ h.begins))))))
        ∙ xor_none (above (those (of_face (face_of S) g) (steps_of S)) (first_step x).a)
        ∙ ap (above (those (of_face (face_of S) g) (steps_of S))) h.begins
        ∙ h.before.placed n c.0 h.node c.1 g ng
        ∙ ap (λ k. eqb k g) (face_is c.0 c.1)
      where
        face_is : (k : ℕ) → n.containing_face ≡ Some k → k ≡ f
        face_is k e = sym (ap (λ o. unwrap_or o (face_after (last_clockwise (leaving x) (filter (leaves n.node_id) (half_edges S))))) e) ∙ h.face

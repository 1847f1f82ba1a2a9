-- Half-edges of a plain drawing that leave one node have different directions.
use Rattle.std.proofs.Common.{◌≡◌, ◌≢◌, ℕ, ◌≤◌, refl, sym, ◌∙◌, ap, subst, arith, ℤ, pos, ◌-ℤ◌, ◌⊎◌, inl, inr, ⊎_elim, true, List, [], ◌∷◌, length, slice_get, Some}
use Rattle.std.specs.Prelude.{reverse, flat_map}
use Rattle.std.specs.List.{Contains}
use Rattle.std.proofs.lemmas.Bool.{and_parts, cases_eq}
use Rattle.std.proofs.lemmas.List.{reverse-reverse}
use Rattle.topo_base.specs.Point.{Point}
use Rattle.topo_base.specs.RationalPoint.{RationalPoint, IsAt}
use Rattle.plane.specs.Segment.{Segment}
use Rattle.plane.specs.Line.{segments_of, first_vertex, last_vertex}
use Rattle.plane.specs.Direction.{direction_to, first_direction, OneDirection}
use Rattle.drawing.specs.Drawing.{Drawing, Edge, edge_id_of, is_end_of}
use Rattle.drawing.specs.HalfEdge.{HalfEdge, forward_of, backward_of, both_ways, half_edges, twin}
use Rattle.drawing.specs.Star.{leaving}
use Rattle.plane.specs.RationalTests.{IsOn, IsOnLine}
use Rattle.plane.specs.Relation.{SameCoordinates}
use Rattle.plane.specs.SimpleLine.{IsSimpleLine}
use Rattle.plane.proofs.Ring.{signed}
use Rattle.plane.proofs.Directions.{one_turned}
use Rattle.plane.proofs.ListTests.{some_same, contains_here, contains_there, contains_cases, contains_none}
use Rattle.drawing.proofs.Members.{pairwise-same, ids_differ}
use Rattle.drawing.proofs.PlainParts.{HasPoint}
use Rattle.drawing.proofs.PlainSplits.{one_point, id_point}
use Rattle.plane.proofs.SegmentParts.{segment}
use Rattle.plane.proofs.Collinear.{on_round}
use Rattle.face_rings.proofs.Inside.{first_not_zero, inside_both}
use Rattle.face_rings.proofs.HalfLines.{inner_on_first, inner_not_last, last_of_reverse, IsLineOf, HasPlainLines, forward_line, backward_line}

-- ---- two lines that leave a point in one direction
pub record Shares (l m : List Point) : Type 0 where
  pub point : RationalPoint
  pub on_first : IsOnLine point l
  pub on_second : IsOnLine point m
  pub not_first : IsAt (first_vertex l) point → ⊥
  pub not_last : IsSimpleLine (segments_of l) → IsAt (last_vertex l) point → ⊥

shares : (l m : List Point) → 2 ≤ length l → 2 ≤ length m → first_vertex l ≡ first_vertex m → OneDirection (first_direction l) (first_direction m) → Shares l m
shares [] m h k same one = absurd (omega arith)
shares (a ∷ []) m h k same one = absurd (omega arith)
shares (a ∷ b ∷ rest) [] h k same one = absurd (omega arith)
shares (a ∷ b ∷ rest) (c ∷ []) h k same one = absurd (omega arith)
shares (a ∷ b ∷ rest) (c ∷ d ∷ more) h k same one =
    let from_a : OneDirection (direction_to a b) (direction_to a d) = subst (λ (p : Point). OneDirection (direction_to a b) (direction_to p d)) (sym same) one in
    let some = first_not_zero (direction_to a d) (direction_to a b) (one_turned (direction_to a b) (direction_to a d) from_a) in
    let (q, (first, second)) = inside_both a b d from_a some in
    let on_d : IsOn q (segment c d) = subst (λ (p : Point). IsOn q (segment p d)) same second.on in
    record {
      point = q;
      on_first = (segment a b, (contains_here (segment a b) (segments_of (b ∷ rest)), first.on));
      on_second = (segment c d, (contains_here (segment c d) (segments_of (d ∷ more)), on_d));
      not_first = first.not_start;
      not_last = λ simple. inner_not_last a b rest q simple first;
    }

-- a simple line does not come back along itself
no_return : (l m : List Point) → 2 ≤ length l → 2 ≤ length m → reverse l ≡ m → IsSimpleLine (segments_of l) → first_vertex l ≡ first_vertex m → OneDirection (first_direction l) (first_direction m) → ⊥
no_return [] m h k e simple same one = omega arith
no_return (a ∷ []) m h k e simple same one = omega arith
no_return (a ∷ b ∷ rest) [] h k e simple same one = omega arith
no_return (a ∷ b ∷ rest) (c ∷ []) h k e simple same one = omega arith
no_return (a ∷ b ∷ rest) (c ∷ d ∷ more) h k e simple same one =
    let from_a : OneDirection (direction_to a b) (direction_to a d) = subst (λ (p : Point). OneDirection (direction_to a b) (direction_to p d)) (sym same) one in
    let some_b = first_not_zero (direction_to a b) (direction_to a d) from_a in
    let some_d = first_not_zero (direction_to a d) (direction_to a b) (one_turned (direction_to a b) (direction_to a d) from_a) in
    let (q, (first, second)) = inside_both a b d from_a some_d in
    let on_d : IsOn q (segment c d) = subst (λ (p : Point). IsOn q (segment p d)) same second.on in
    let (n, there) = last_of_reverse (a ∷ b ∷ rest) c d more e in
    let none : n ≡ 0 = inner_on_first a b rest q n (segment d c) simple first there (on_round (segment c d) q on_d) in
    let one_segment : segment a b ≡ segment d c = some_same (segment a b) (segment d c) (subst (λ i. slice_get (segments_of (a ∷ b ∷ rest)) i ≡ Some (segment d c)) none there) in
    let closed : b ≡ a = ap (λ (s : Segment). s.b) one_segment ∙ sym same in
    some_b (flat b.x a.x (ap (λ (p : Point). p.x) closed)) (flat b.y a.y (ap (λ (p : Point). p.y) closed))
  where
    flat : (x y : ℤ) → x ≡ y → x -ℤ y ≡ pos 0
    flat x y e = omega (arith, signed)

-- ---- the half-edges of a drawing
pub record IsHalf (edges : List Edge) (h : HalfEdge) : Type 0 where
  pub edge : Edge
  pub there : Contains edges edge
  pub way : (forward_of edge ≡ h) ⊎ (backward_of edge ≡ h)

pub half_of : (edges : List Edge) (h : HalfEdge) → Contains (flat_map both_ways edges) h → IsHalf edges h
half_of [] h c = absurd (contains_none h c)
half_of (e ∷ edges) h c =
    ⊎_elim
    (λ (p : forward_of e ≡ h). record { edge = e; there = contains_here e edges; way = inl p })
    (λ (d : Contains (backward_of e ∷ flat_map both_ways edges) h).
    ⊎_elim
    (λ (p : backward_of e ≡ h). record { edge = e; there = contains_here e edges; way = inr p })
    (λ (k : Contains (flat_map both_ways edges) h). let r = half_of edges h k in record { edge = r.edge; there = contains_there r.edge e edges r.there; way = r.way })
    (contains_cases h (backward_of e) (flat_map both_ways edges) d))
    (contains_cases h (forward_of e) (backward_of e ∷ flat_map both_ways edges) c)

pub forward_there : (edges : List Edge) (e : Edge) → Contains edges e → Contains (flat_map both_ways edges) (forward_of e)
forward_there [] e c = absurd (contains_none e c)
forward_there (d ∷ edges) e c =
    ⊎_elim
    (λ (p : d ≡ e). subst (λ (x : Edge). Contains (flat_map both_ways (d ∷ edges)) (forward_of x)) p (contains_here (forward_of d) (backward_of d ∷ flat_map both_ways edges)))
    (λ (k : Contains edges e).
    contains_there (forward_of e) (forward_of d) (backward_of d ∷ flat_map both_ways edges) (contains_there (forward_of e) (backward_of d) (flat_map both_ways edges) (forward_there edges e k)))
    (contains_cases e d edges c)

pub backward_there : (edges : List Edge) (e : Edge) → Contains edges e → Contains (flat_map both_ways edges) (backward_of e)
backward_there [] e c = absurd (contains_none e c)
backward_there (d ∷ edges) e c =
    ⊎_elim
    (λ (p : d ≡ e).
    subst (λ (x : Edge). Contains (flat_map both_ways (d ∷ edges)) (backward_of x)) p
    (contains_there (backward_of d) (forward_of d) (backward_of d ∷ flat_map both_ways edges) (contains_here (backward_of d) (flat_map both_ways edges))))
    (λ (k : Contains edges e).
    contains_there (backward_of e) (forward_of d) (backward_of d ∷ flat_map both_ways edges) (contains_there (backward_of e) (backward_of d) (flat_map both_ways edges) (backward_there edges e k)))
    (contains_cases e d edges c)

-- walked back, it is a half-edge too
pub twin_back : (e : Edge) → forward_of e ≡ twin (backward_of e)
twin_back e = λ i. record { edge_id = e.edge_id; is_forward = true; from_node = e.start_node; to_node = e.end_node; on_left = e.left_face; on_right = e.right_face; points = sym (reverse-reverse e.geom) i }

pub twin_there : (edges : List Edge) (h : HalfEdge) → Contains (flat_map both_ways edges) h → Contains (flat_map both_ways edges) (twin h)
twin_there edges h c =
    let r = half_of edges h c in
    ⊎_elim
    (λ (p : forward_of r.edge ≡ h). subst (λ (x : HalfEdge). Contains (flat_map both_ways edges) (twin x)) p (backward_there edges r.edge r.there))
    (λ (p : backward_of r.edge ≡ h).
    subst (λ (x : HalfEdge). Contains (flat_map both_ways edges) (twin x)) p (subst (Contains (flat_map both_ways edges)) (twin_back r.edge) (forward_there edges r.edge r.there)))
    r.way

pub line_of : (S : Drawing) (h : HalfEdge) → HasPlainLines S → (r : IsHalf S.edges h) → IsLineOf S r.edge h
line_of S h good r =
    ⊎_elim
    (λ (p : forward_of r.edge ≡ h). subst (IsLineOf S r.edge) p (forward_line S r.edge good r.there))
    (λ (p : backward_of r.edge ≡ h). subst (IsLineOf S r.edge) p (backward_line S r.edge good r.there))
    r.way

-- ---- two that leave one node
pub one_start : (S : Drawing) (n m : ℕ) (p r : Point) → HasPlainLines S → n ≡ m → HasPoint S.nodes n p → HasPoint S.nodes m r → p ≡ r
one_start S n m p r good same (row, (c, (is, at))) there =
    let other = id_point S.nodes row m r good.node_ids c (is ∙ same) there in
    one_point p r (sym at.0 ∙ other.0, sym at.1 ∙ other.1)

at_other : (a b : Point) (q : RationalPoint) → SameCoordinates a b → IsAt a q → IsAt b q
at_other a b q h k = (rw (← h.0) k.0, rw (← h.1) k.1)

-- of two edges
edges_apart : (S : Drawing) (e f : Edge) (h k : HalfEdge) → HasPlainLines S → Contains S.edges e → Contains S.edges f → e.edge_id ≢ f.edge_id → IsLineOf S e h → IsLineOf S f k → h.from_node ≡ k.from_node → OneDirection (leaving h) (leaving k) → ⊥
edges_apart S e f h k good ce cf differ line other same one =
    let start = one_start S h.from_node k.from_node (first_vertex h.points) (first_vertex k.points) good same line.starts other.starts in
    let both = shares h.points k.points line.long other.long start one in
    let (n, (cn, at, ends)) = good.plain.meet e f both.point ce cf differ (line.on_edge both.point both.on_first) (other.on_edge both.point both.on_second) in
    ⊎_elim
    (λ (p : SameCoordinates n.geom (first_vertex h.points)). both.not_first (at_other n.geom (first_vertex h.points) both.point p at))
    (λ (p : SameCoordinates n.geom (last_vertex h.points)). both.not_last line.simple (at_other n.geom (last_vertex h.points) both.point p at))
    (line.ends n cn (and_parts (is_end_of n.node_id e) (is_end_of n.node_id f) ends).0)

-- of one edge that comes back to its node
ways_apart : (S : Drawing) (e : Edge) → HasPlainLines S → Contains S.edges e → e.start_node ≡ e.end_node → OneDirection (leaving (forward_of e)) (leaving (backward_of e)) → ⊥
ways_apart S e good c same one =
    let line = forward_line S e good c in
    let back = backward_line S e good c in
    no_return e.geom (reverse e.geom) line.long back.long refl line.simple (one_start S e.start_node e.end_node (first_vertex e.geom) (first_vertex (reverse e.geom)) good same line.starts back.starts) one

pub one_edge : (S : Drawing) (e f : Edge) → HasPlainLines S → Contains S.edges e → Contains S.edges f → e.edge_id ≡ f.edge_id → e ≡ f
one_edge S e f good ce cf same =
    pairwise-same (λ x y. edge_id_of x ≢ edge_id_of y) S.edges e f (ids_differ edge_id_of 0 S.next_ids.edge S.edges good.edge_ids) ce cf (λ far. far same) (λ far. far (sym same))

pub directions_differ : (S : Drawing) (h k : HalfEdge) → HasPlainLines S → Contains (half_edges S) h → Contains (half_edges S) k → h.from_node ≡ k.from_node → OneDirection (leaving h) (leaving k) → h ≡ k
directions_differ S h k good ch ck same one =
    let r = half_of S.edges h ch in
    let s = half_of S.edges k ck in
    ⊎_elim
    (λ (e : r.edge.edge_id ≡ s.edge.edge_id). by_way r s (one_edge S r.edge s.edge good r.there s.there e) r.way s.way)
    (λ (far : r.edge.edge_id ≡ s.edge.edge_id → ⊥). absurd (edges_apart S r.edge s.edge h k good r.there s.there far (line_of S h good r) (line_of S k good s) same one))
    (cases_eq r.edge.edge_id s.edge.edge_id)
  where
    by_way : (r : IsHalf S.edges h) (s : IsHalf S.edges k) → r.edge ≡ s.edge → (forward_of r.edge ≡ h) ⊎ (backward_of r.edge ≡ h) → (forward_of s.edge ≡ k) ⊎ (backward_of s.edge ≡ k) → h ≡ k
    by_way r s e (inl p) (inl q) = sym p ∙ ap forward_of e ∙ q
    by_way r s e (inr p) (inr q) = sym p ∙ ap backward_of e ∙ q
    by_way r s e (inl p) (inr q) =
        let is_back : backward_of r.edge ≡ k = ap backward_of e ∙ q in
        absurd (ways_apart S r.edge good r.there
        (ap (λ (x : HalfEdge). x.from_node) p ∙ same ∙ sym (ap (λ (x : HalfEdge). x.from_node) is_back))
        (subst (λ (x : HalfEdge). OneDirection (leaving (forward_of r.edge)) (leaving x)) (sym is_back) (subst (λ (x : HalfEdge). OneDirection (leaving x) (leaving k)) (sym p) one)))
    by_way r s e (inr p) (inl q) =
        let is_on : forward_of r.edge ≡ k = ap forward_of e ∙ q in
        absurd (ways_apart S r.edge good r.there
        (ap (λ (x : HalfEdge). x.from_node) is_on ∙ sym same ∙ sym (ap (λ (x : HalfEdge). x.from_node) p))
        (one_turned (leaving (backward_of r.edge)) (leaving (forward_of r.edge))
        (subst (λ (x : HalfEdge). OneDirection (leaving (backward_of r.edge)) (leaving x)) (sym is_on) (subst (λ (x : HalfEdge). OneDirection (leaving x) (leaving k)) (sym p) one))))

-- The part of a ring of rows is that of the half-edges of the ring.
use Rattle.std.proofs.Common.{◌≡◌, ℕ, refl, sym, ◌∙◌, ap, subst, ⊎_elim, Bool, true, false, not, cond, ◌==◌, eqb-true, eq-eqb, List, [], ◌∷◌, length, map, Some}
use Rattle.std.specs.Prelude.{fold, option_map}
use Rattle.std.specs.List.{Contains, list_all}
use Rattle.std.proofs.lemmas.Bool.{and_parts, false≢true}
use Rattle.topo_base.specs.Point.{Point}
use Rattle.topo_base.specs.declared.rows.EdgeRow.{EdgeRow}
use Rattle.drawing.specs.AddEdge.{Division, is_on_left, part_at, part_beside}
use Rattle.drawing.specs.Drawing.{Drawing, Edge}
use Rattle.plane.specs.Parity.{xor, is_odd_over}
use Rattle.drawing.specs.HalfEdge.{HalfEdge, forward_of, backward_of, half_edges, comes_before, dart_of}
use Rattle.plane.specs.Line.{first_vertex}
use Rattle.drawing.specs.Ring.{ring_of, contains_half_edge, earlier_of, least_vertex, ring_segments}
use Rattle.plane.specs.ClosedWalk.{closed_segments, is_hole_walk}
use Rattle.drawing.specs.Rows.{row_at}
use Rattle.drawing.specs.Subdivision.{begins_ring}
use Rattle.drawing.specs.Tables.{Tables, edge_row, tables_of}
use Rattle.drawing.specs.Writes.{edge_row_id}
use Rattle.plane.proofs.LineTurns.{first-reverse}
use Rattle.drawing.proofs.Members.{contains-map, contains-mapped}
use Rattle.face_rings.specs.declared.content.BorderDart.{BorderDart}
use Rattle.face_rings.specs.Border.{has_dart}
use Rattle.face_rings.specs.FaceBorder.{face_border}
use Rattle.face_rings.proofs.FaceBorders.{has_plain_lines, in_beside, has_half, border_linked}
use Rattle.face_rings.proofs.HalfLines.{HasPlainLines}
use Rattle.face_rings.proofs.HalvesApart.{half_of, one_edge, forward_there, backward_there}
use Rattle.face_rings.proofs.Orbits.{linked_of}
use Rattle.face_rings.proofs.Reaching.{reaches_back, in_ring, from_ring}
use Rattle.ring_laws.proofs.RingParts.{IsStep, ring_has, contains_darts, walk_begins}
use Rattle.ring_laws.proofs.Turning.{same_test}
use Rattle.face_parts.specs.declared.parts.FaceParts.{FaceParts}
use Rattle.face_parts.specs.Divided.{is_left_of, part_of_point, vertex_along, start_of, start_of_ring, part_of_start, part_of_ring}
use Rattle.face_parts.specs.DividedFace.{IsDividedFace}
use Rattle.face_parts.specs.Sides.{dart_along}
use Rattle.face_parts.proofs.Lists.{found_one}

-- ---- points
-- the left of a closed walk that has the segments of a ring is the left of the ring
pub left_is : (ring : List HalfEdge) (vertices : List Point) (p : Point) → closed_segments vertices ≡ ring_segments ring → is_left_of vertices p ≡ is_on_left ring p
left_is ring vertices p same = λ i. not (xor (is_odd_over p (same i)) (not (is_hole_walk (same i))))

pub point_is : (T : Drawing) (e : Edge) (d : Division) (parts : FaceParts) (vertices : List Point) (t : Tables) (border : List BorderDart) (p : Point) → IsDividedFace T e d parts vertices t border
    → part_of_point parts vertices p ≡ part_at d p
point_is T e d parts vertices t border p of = λ i. cond (left_is d.left_ring vertices p of.cut i) (of.left_part i) (of.right_part i)

-- ---- where a ring begins
first_stays : (h : HalfEdge) (ring : List HalfEdge) → list_all (λ k. not (comes_before k h)) ring ≡ true → fold earlier_of h ring ≡ h
first_stays h [] all = refl
first_stays h (k ∷ ring) all =
    let parts = and_parts (not (comes_before k h)) (list_all (λ x. not (comes_before x h)) ring) all in
    ap (λ (x : HalfEdge). fold earlier_of x ring) (stays (comes_before k h) parts.0) ∙ first_stays h ring parts.1
  where
    stays : (b : Bool) → not b ≡ true → cond b k h ≡ h
    stays true e = absurd (false≢true e)
    stays false e = refl

least_is : (hs : List HalfEdge) (h : HalfEdge) → begins_ring hs h ≡ true → least_vertex (ring_of hs h) ≡ first_vertex h.points
least_is hs h all =
    let (rest, is) = walk_begins hs h h (length hs) in
    let test = λ (k : HalfEdge). not (comes_before k h) in
    let parts = and_parts (test h) (list_all test rest) (subst (λ (ring : List HalfEdge). list_all test ring ≡ true) is all) in
    ap least_vertex is ∙ ap (λ (x : HalfEdge). first_vertex x.points) (first_stays h rest parts.1)

-- ---- the vertex from which a dart leaves, in the rows
row_found : (T : Drawing) (e : Edge) → HasPlainLines T → Contains T.edges e → row_at edge_row_id (tables_of T).edges e.edge_id ≡ Some (edge_row (half_edges T) e)
row_found T e good c =
    found_one (λ (r : EdgeRow). r.edge_id == e.edge_id) (tables_of T).edges (edge_row (half_edges T) e)
    (contains-map (edge_row (half_edges T)) e T.edges c) (eq-eqb e.edge_id e.edge_id refl)
    (λ r there is.
    let (x, (cx, same)) = contains-mapped (edge_row (half_edges T)) r T.edges there in
    let ids : x.edge_id ≡ e.edge_id = ap (λ (y : EdgeRow). y.edge_id) same ∙ eqb-true r.edge_id e.edge_id is in
    sym same ∙ ap (edge_row (half_edges T)) (one_edge T x e good cx c ids))

start_is : (T : Drawing) (h : HalfEdge) → HasPlainLines T → Contains (half_edges T) h → start_of (tables_of T).edges (dart_of h) ≡ Some (first_vertex h.points)
start_is T h good c =
    let r = half_of T.edges h c in
    let found = row_found T r.edge good r.there in
    let at = λ (k : HalfEdge). start_of (tables_of T).edges (dart_of k) ≡ Some (first_vertex k.points) in
    ⊎_elim
    (λ (p : forward_of r.edge ≡ h). subst at p (ap (option_map (vertex_along true)) found))
    (λ (p : backward_of r.edge ≡ h). subst at p (ap (option_map (vertex_along false)) found ∙ ap Some (sym (first-reverse r.edge.geom))))
    r.way

-- ---- a ring that has one has the other
either_ring : (T : Drawing) (f : ℕ) (g h : HalfEdge) → IsStep T f g → IsStep T f h → contains_half_edge (ring_of (half_edges T) g) h ≡ true → contains_half_edge (ring_of (half_edges T) h) g ≡ true
either_ring T f g h sg sh inside =
    let border = face_border (half_edges T) f in
    let linked = linked_of border (border_linked T f sg.rings) in
    let known = λ (k : HalfEdge) (s : IsStep T f k). has_half T f k (in_beside T f k s.there s.left) in
    let reach = from_ring border (dart_of g) (dart_of h) (sym (ring_has T f g h sg) ∙ inside) in
    ring_has T f h g sh ∙ in_ring border (dart_of h) (dart_of g) linked (known h sh) (reaches_back border (dart_of g) (dart_of h) linked (known g sg) reach)

rings_agree : (T : Drawing) (f : ℕ) (g h : HalfEdge) → IsStep T f g → IsStep T f h → has_dart (map dart_of (ring_of (half_edges T) h)) (dart_of g) ≡ contains_half_edge (ring_of (half_edges T) g) h
rings_agree T f g h sg sh =
    contains_darts (ring_of (half_edges T) h) g
    ∙ same_test (contains_half_edge (ring_of (half_edges T) h) g) (contains_half_edge (ring_of (half_edges T) g) h) (either_ring T f h g sh sg) (either_ring T f g h sg sh)

-- ---- the part of a ring
ring_start : (T : Drawing) (h : HalfEdge) → HasPlainLines T → Contains (half_edges T) h → start_of_ring (tables_of T).edges (map dart_of (ring_of (half_edges T) h)) ≡ Some (first_vertex h.points)
ring_start T h good c =
    let (rest, is) = walk_begins (half_edges T) h h (length (half_edges T)) in
    ap (λ (ring : List HalfEdge). start_of_ring (tables_of T).edges (map dart_of ring)) is ∙ start_is T h good c

pub part_is : (T : Drawing) (e : Edge) (d : Division) (parts : FaceParts) (vertices : List Point) (t : Tables) (border : List BorderDart) (h : HalfEdge) → IsDividedFace T e d parts vertices t border
    → Contains (half_edges T) h → h.on_left ≡ d.face → begins_ring (half_edges T) h ≡ true
    → part_of_ring parts vertices t.edges (map dart_of (ring_of (half_edges T) h)) ≡ part_beside d (half_edges T) h
part_is T e d parts vertices t border h of c left begins =
    let hs = half_edges T in
    let ring = map dart_of (ring_of hs h) in
    let by = of.divided in
    let here : IsStep T d.face h = record { rings = of.rings; there = c; left = left } in
    let ahead : IsStep T d.face (forward_of e) = record { rings = of.rings; there = forward_there T.edges e by.there; left = by.left } in
    let back : IsStep T d.face (backward_of e) = record { rings = of.rings; there = backward_there T.edges e by.there; left = by.right } in
    let first : has_dart ring (dart_along true parts.edge) ≡ contains_half_edge d.left_ring h =
    ap (λ n. has_dart ring (dart_along true n)) of.edge ∙ rings_agree T d.face (forward_of e) h ahead here ∙ ap (λ (r : List HalfEdge). contains_half_edge r h) (sym by.left_ring) in
    let second : has_dart ring (dart_along false parts.edge) ≡ contains_half_edge d.right_ring h =
    ap (λ n. has_dart ring (dart_along false n)) of.edge ∙ rings_agree T d.face (backward_of e) h back here ∙ ap (λ (r : List HalfEdge). contains_half_edge r h) (sym by.right_ring) in
    let third : part_of_start parts vertices (start_of_ring t.edges ring) ≡ part_at d (least_vertex (ring_of hs h)) =
    ap (λ (rows : List EdgeRow). part_of_start parts vertices (start_of_ring rows ring)) of.rows.edges
    ∙ ap (part_of_start parts vertices) (ring_start T h (has_plain_lines T of.rings) c)
    ∙ point_is T e d parts vertices t border (first_vertex h.points) of
    ∙ ap (part_at d) (sym (least_is hs h begins)) in
    λ i. cond (first i) (of.left_part i) (cond (second i) (of.right_part i) (third i))

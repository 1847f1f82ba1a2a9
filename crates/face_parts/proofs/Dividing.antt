-- The writes of a division make the rows of the divided drawing, and may be made.
use Rattle.std.proofs.Common.{◌≡◌, ℕ, refl, sym, ◌∙◌, ap, subst, Bool, true, false, cond, IsTrue, ◌==◌, eqb, eqb-true, eq-eqb, List, [], map, Option, Some}
use Rattle.std.specs.Prelude.{find, filter, flat_map, unwrap_or}
use Rattle.std.specs.List.{Contains}
use Rattle.std.specs.Option.{option_eq}
use Rattle.std.proofs.lemmas.Bool.{false≢true}
use Rattle.std.proofs.lemmas.List.Elements.{All-contains}
use Rattle.topo_base.specs.Darts.{same_dart}
use Rattle.topo_base.specs.Point.{Point}
use Rattle.topo_base.specs.declared.ids.Dart.{Dart}
use Rattle.topo_base.specs.declared.rows.Counters.{Counters}
use Rattle.topo_base.specs.declared.rows.EdgeRow.{EdgeRow}
use Rattle.topo_base.specs.declared.rows.NodeRow.{NodeRow}
use Rattle.drawing.specs.AddEdge.{Division, part_beside, divided_side, divided_edge, divided_node}
use Rattle.drawing.specs.Drawing.{Drawing, Edge, node_id_of}
use Rattle.drawing.specs.HalfEdge.{HalfEdge, forward_of, backward_of, both_ways, half_edges, dart_of}
use Rattle.drawing.specs.Ring.{ring_of, contains_half_edge}
use Rattle.drawing.specs.Subdivision.{begins_ring, rows_in_order}
use Rattle.drawing.specs.Tables.{Tables, edge_row, tables_of}
use Rattle.drawing.specs.Writes.{all_written}
use Rattle.plane.proofs.ListTests.{contains_none}
use Rattle.drawing.proofs.Members.{contains-mapped, contains-filtered}
use Rattle.drawing.proofs.WritesInOrder.{written-append}
use Rattle.face_rings.specs.declared.content.BorderDart.{BorderDart}
use Rattle.face_rings.specs.Border.{has_dart, are_linked}
use Rattle.face_rings.specs.Rings.{rings, ring_of as ring_of_dart}
use Rattle.face_rings.specs.FaceBorder.{beside, border_dart, face_border, rings_beside, HasRings}
use Rattle.face_rings.proofs.Dividing.{in_one, contains_has, has_contains}
use Rattle.face_rings.proofs.FaceBorders.{has_plain_lines, half_by_dart, in_beside, from_beside, has_half, border_linked, ring_is, rings_are as rings_are_halves}
use Rattle.face_rings.proofs.HalvesApart.{forward_there, backward_there}
use Rattle.face_rings.proofs.Orbits.{Has, linked_of}
use Rattle.face_rings.proofs.Ranks.{same_in, same_out}
use Rattle.face_rings.proofs.Reaching.{ring_known}
use Rattle.ring_laws.proofs.DividedSides.{parts_follow}
use Rattle.ring_laws.proofs.RingParts.{contains_darts}
use Rattle.face_parts.specs.declared.parts.FaceParts.{FaceParts}
use Rattle.face_parts.specs.Divided.{part_of_point, part_of_ring, division_writes}
use Rattle.face_parts.specs.DividedFace.{HasRows, IsDividedFace, sided, with_division}
use Rattle.face_parts.specs.Sides.{part_or, with_parts, side_writes, in_part, node_writes}
use Rattle.face_parts.proofs.RowSides.{row_sides}
use Rattle.face_parts.proofs.Lists.{found_one, map_agree, map_twice, gathered, gathered_from}
use Rattle.face_parts.proofs.RingParts.{point_is, part_is}
use Rattle.face_parts.proofs.RingWrites.{AreParted, moved, wanted, rings_are}
use Rattle.face_parts.proofs.SideWrites.{all_sides, sides_follow}

-- ---- darts and half-edges
-- the half-edge that a dart of the border names
pub record IsNamed (T : Drawing) (f : ℕ) (x : Dart) : Type 0 where
  pub half : HalfEdge
  pub there : Contains (half_edges T) half
  pub left : half.on_left ≡ f
  pub dart : dart_of half ≡ x

pub named : (T : Drawing) (f : ℕ) (x : Dart) → Has (face_border (half_edges T) f) x → IsNamed T f x
named T f x has =
    let (b, (cb, is)) = contains-mapped (λ (y : BorderDart). y.dart) x (face_border (half_edges T) f) has in
    let (k, (ck, same)) = contains-mapped (border_dart (half_edges T)) b (beside (half_edges T) f) cb in
    let p = from_beside T f k ck in
    record { half = k; there = p.0; left = p.1; dart = ap (λ (y : BorderDart). y.dart) same ∙ is }

-- a ring among those of the border
record IsRing (T : Drawing) (f : ℕ) (ring : List Dart) : Type 0 where
  half : HalfEdge
  there : Contains (half_edges T) half
  left : half.on_left ≡ f
  begins : begins_ring (half_edges T) half ≡ true
  is : map dart_of (ring_of (half_edges T) half) ≡ ring

among : (T : Drawing) (f : ℕ) (ring : List Dart) → HasRings T → Contains (rings (face_border (half_edges T) f)) ring → IsRing T f ring
among T f ring has c =
    let hs = half_edges T in
    let (r, (cr, is)) = contains-mapped (map dart_of) ring (rings_beside hs f) (subst (λ (all : List (List Dart)). Contains all ring) (rings_are_halves T f has) c) in
    let (h, (ch, same)) = contains-mapped (ring_of hs) r (filter (begins_ring hs) (beside hs f)) cr in
    let p = contains-filtered (begins_ring hs) h (beside hs f) ch in
    let q = from_beside T f h p.0 in
    record { half = h; there = q.0; left = q.1; begins = p.1; is = ap (map dart_of) same ∙ is }

-- whatever is in it is in the border
in_border : (T : Drawing) (f : ℕ) (ring : List Dart) (x : Dart) → HasRings T → IsRing T f ring → Contains ring x → Has (face_border (half_edges T) f) x
in_border T f ring x has r c =
    let border = face_border (half_edges T) f in
    let known = has_half T f r.half (in_beside T f r.half r.there r.left) in
    let all = ring_known border (dart_of r.half) (linked_of border (border_linked T f has)) known in
    All-contains (Has border) (ring_of_dart border (dart_of r.half)) x all (subst (λ (ds : List Dart). Contains ds x) (sym (ring_is T f r.half has r.there r.left ∙ r.is)) c)

-- ---- the part that each dart wants
abbrev pub half_at : Edge → List HalfEdge → Dart → HalfEdge
half_at e hs x = unwrap_or (find (λ (h : HalfEdge). same_dart (dart_of h) x) hs) (forward_of e)

abbrev pub want : Drawing → Edge → Division → Dart → ℕ
want T e d x = part_beside d (half_edges T) (half_at e (half_edges T) x)

half_found : (T : Drawing) (e : Edge) (h : HalfEdge) → HasRings T → Contains (half_edges T) h → half_at e (half_edges T) (dart_of h) ≡ h
half_found T e h has c =
    ap (λ (o : Option HalfEdge). unwrap_or o (forward_of e))
    (found_one (λ (k : HalfEdge). same_dart (dart_of k) (dart_of h)) (half_edges T) h c (same_in (dart_of h) (dart_of h) refl)
    (λ k ck is. half_by_dart T k h (has_plain_lines T has) ck c (same_out (dart_of k) (dart_of h) is)))

want_is : (T : Drawing) (e : Edge) (d : Division) (h : HalfEdge) → HasRings T → Contains (half_edges T) h → want T e d (dart_of h) ≡ part_beside d (half_edges T) h
want_is T e d h has c = ap (part_beside d (half_edges T)) (half_found T e h has c)

parted : (T : Drawing) (e : Edge) (d : Division) (parts : FaceParts) (vertices : List Point) (t : Tables) (border : List BorderDart) → IsDividedFace T e d parts vertices t border
    → AreParted (part_of_ring parts vertices t.edges) (want T e d) (rings (face_border (half_edges T) d.face))
parted T e d parts vertices t border of = record { each = each }
  where
    each : (ring : List Dart) (x : Dart) → Contains (rings (face_border (half_edges T) d.face)) ring → Contains ring x → want T e d x ≡ part_of_ring parts vertices t.edges ring
    each ring x c k =
        let hs = half_edges T in
        let r = among T d.face ring of.rings c in
        let n = named T d.face x (in_border T d.face ring x of.rings r k) in
        let inside : contains_half_edge (ring_of hs r.half) n.half ≡ true =
        sym (contains_darts (ring_of hs r.half) n.half)
        ∙ has_contains (map dart_of (ring_of hs r.half)) (dart_of n.half) (subst (λ (ds : List Dart). Contains ds (dart_of n.half)) (sym r.is) (subst (Contains ring) (sym n.dart) k)) in
        ap (want T e d) (sym n.dart)
        ∙ want_is T e d n.half of.rings n.there
        ∙ parts_follow.one_part T e d r.half n.half of.rings of.divided r.there n.there r.left inside
        ∙ sym (part_is T e d parts vertices t border r.half of r.there r.left r.begins)
        ∙ ap (part_of_ring parts vertices t.edges) r.is

-- ---- the sides of an edge
abbrev pub moving : Drawing → Division → FaceParts → List Point → Tables → List Dart
moving T d parts vertices t = flat_map (moved (part_of_ring parts vertices t.edges) parts.face) (rings (face_border (half_edges T) d.face))

-- a dart that moves is in the border
pub moving_known : (T : Drawing) (d : Division) (parts : FaceParts) (vertices : List Point) (t : Tables) (x : Dart) → HasRings T → Contains (moving T d parts vertices t) x → Has (face_border (half_edges T) d.face) x
moving_known T d parts vertices t x has c =
    let part = part_of_ring parts vertices t.edges in
    let (ring, (there, k)) = gathered_from (moved part parts.face) (rings (face_border (half_edges T) d.face)) x c in
    by ring there (part ring == parts.face) k
  where
    by : (ring : List Dart) → Contains (rings (face_border (half_edges T) d.face)) ring → (b : Bool) → Contains (cond b [] ring) x → Has (face_border (half_edges T) d.face) x
    by ring there true k = absurd (contains_none x k)
    by ring there false k = in_border T d.face ring x has (among T d.face ring has there) k

side_is : (T : Drawing) (e : Edge) (d : Division) (parts : FaceParts) (vertices : List Point) (t : Tables) (border : List BorderDart) (k : HalfEdge) → IsDividedFace T e d parts vertices t border → Contains (half_edges T) k
    → part_or (want T e d) (moving T d parts vertices t) (dart_of k) k.on_left ≡ divided_side d (half_edges T) k.on_left k
side_is T e d parts vertices t border k of c = by (has_dart (moving T d parts vertices t) (dart_of k)) refl (eqb k.on_left d.face) refl
  where
    hs : List HalfEdge
    hs = half_edges T

    beside_is : want T e d (dart_of k) ≡ part_beside d hs k
    beside_is = want_is T e d k of.rings c

    -- what stays has its part already
    stays : has_dart (moving T d parts vertices t) (dart_of k) ≡ false → k.on_left ≡ d.face → k.on_left ≡ part_beside d hs k
    stays out left =
        let face = face_border hs d.face in
        let part = part_of_ring parts vertices t.edges in
        let (ring, (there, k_in, others)) = in_one face (dart_of k) (border_linked T d.face of.rings) (has_half T d.face k (in_beside T d.face k c left)) in
        let all = parted T e d parts vertices t border of in
        kept ring there k_in (all.each ring (dart_of k) there k_in) (part ring == parts.face) refl
      where
        kept : (ring : List Dart) → Contains (rings (face_border hs d.face)) ring → Contains ring (dart_of k) → want T e d (dart_of k) ≡ part_of_ring parts vertices t.edges ring
            → (b : Bool) → (part_of_ring parts vertices t.edges ring == parts.face) ≡ b → k.on_left ≡ part_beside d hs k
        kept ring there k_in is true same = left ∙ sym of.face ∙ sym (eqb-true (part_of_ring parts vertices t.edges ring) parts.face same) ∙ sym is ∙ beside_is
        kept ring there k_in is false same =
            let listed : Contains (moved (part_of_ring parts vertices t.edges) parts.face ring) (dart_of k) = subst (λ b. Contains (cond b [] ring) (dart_of k)) (sym same) k_in in
            absurd (false≢true (sym out
            ∙ has_contains (moving T d parts vertices t) (dart_of k)
            (gathered (moved (part_of_ring parts vertices t.edges) parts.face) (rings (face_border hs d.face)) ring (dart_of k) there listed)))

    by : (b : Bool) → has_dart (moving T d parts vertices t) (dart_of k) ≡ b → (s : Bool) → eqb k.on_left d.face ≡ s
        → cond b (want T e d (dart_of k)) k.on_left ≡ cond s (part_beside d hs k) k.on_left
    by true moves true left = beside_is
    by true moves false left =
        let n = named T d.face (dart_of k) (moving_known T d parts vertices t (dart_of k) of.rings (contains_has (moving T d parts vertices t) (dart_of k) moves)) in
        let one = half_by_dart T n.half k (has_plain_lines T of.rings) n.there c n.dart in
        absurd (false≢true (sym left ∙ eq-eqb k.on_left d.face (ap (λ (x : HalfEdge). x.on_left) (sym one) ∙ n.left)))
    by false out true left = stays out (eqb-true k.on_left d.face left)
    by false out false left = refl

-- ---- the rows
rows_divided : (T : Drawing) (e : Edge) (d : Division) (parts : FaceParts) (vertices : List Point) (t : Tables) (border : List BorderDart) → IsDividedFace T e d parts vertices t border
    → map (with_parts (want T e d) (moving T d parts vertices t)) (tables_of T).edges ≡ map (edge_row (flat_map both_ways (sided T d))) (sided T d)
rows_divided T e d parts vertices t border of =
    let hs = half_edges T in
    let with = with_parts (want T e d) (moving T d parts vertices t) in
    let left = λ (x : Edge). divided_side d hs x.left_face (forward_of x) in
    let right = λ (x : Edge). divided_side d hs x.right_face (backward_of x) in
    map_twice with (edge_row hs) T.edges
    ∙ map_agree (λ (x : Edge). with (edge_row hs x)) (λ (x : Edge). edge_row (flat_map both_ways (sided T d)) (divided_edge d hs x)) T.edges
    (λ x c.
    let first = side_is T e d parts vertices t border (forward_of x) of (forward_there T.edges x c) in
    let second = side_is T e d parts vertices t border (backward_of x) of (backward_there T.edges x c) in
    (λ i. record (edge_row hs x) { left_face = first i; right_face = second i }) ∙ sym (row_sides left right T.edges x))
    ∙ sym (map_twice (edge_row (flat_map both_ways (sided T d))) (divided_edge d hs) T.edges)

nodes_divided : (T : Drawing) (e : Edge) (d : Division) (parts : FaceParts) (vertices : List Point) (t : Tables) (border : List BorderDart) (nodes : List NodeRow) → IsDividedFace T e d parts vertices t border
    → map (in_part (part_of_point parts vertices) parts.face) nodes ≡ map (divided_node d) nodes
nodes_divided T e d parts vertices t border nodes of =
    map_agree (in_part (part_of_point parts vertices) parts.face) (divided_node d) nodes
    (λ r c.
    let part = point_is T e d parts vertices t border r.geom of in
    λ i. cond (option_eq eqb r.containing_face (Some (of.face i))) (record r { containing_face = Some (part i) }) r)

-- the writes of the sides are those of the darts that move
pub sides_same : (T : Drawing) (e : Edge) (d : Division) (parts : FaceParts) (vertices : List Point) (t : Tables) (border : List BorderDart) → IsDividedFace T e d parts vertices t border
    → side_writes (part_of_ring parts vertices t.edges) parts.face (rings border) ≡ map (wanted (want T e d)) (moving T d parts vertices t)
sides_same T e d parts vertices t border of =
    let part = part_of_ring parts vertices t.edges in
    ap (λ (b : List BorderDart). side_writes part parts.face (rings b)) of.content
    ∙ rings_are part (want T e d) parts.face (rings (face_border (half_edges T) d.face)) (parted T e d parts vertices t border of)

pub sides_written : (T : Drawing) (e : Edge) (d : Division) (parts : FaceParts) (vertices : List Point) (t : Tables) (border : List BorderDart) (n : Counters) (u : Tables) → IsDividedFace T e d parts vertices t border → HasRows T u
    → all_written n u (side_writes (part_of_ring parts vertices t.edges) parts.face (rings border)) ≡ record u { edges = map (edge_row (flat_map both_ways (sided T d))) (sided T d) }
sides_written T e d parts vertices t border n u of rows =
    let darts = moving T d parts vertices t in
    ap (all_written n u) (sides_same T e d parts vertices t border of)
    ∙ all_sides n u (want T e d) darts
    ∙ ap (λ (es : List EdgeRow). record u { edges = map (with_parts (want T e d) darts) es }) rows.edges
    ∙ ap (λ (es : List EdgeRow). record u { edges = es }) (rows_divided T e d parts vertices t border of)

pub divides : (T : Drawing) (e : Edge) (d : Division) (parts : FaceParts) (vertices : List Point) (t : Tables) (border : List BorderDart) (n : Counters) (u : Tables) → IsDividedFace T e d parts vertices t border → HasRows T u
    → all_written n u (division_writes parts vertices t border) ≡ with_division u T d
divides T e d parts vertices t border n u of rows =
    let part = part_of_ring parts vertices t.edges in
    let at = part_of_point parts vertices in
    let v = record u { edges = map (edge_row (flat_map both_ways (sided T d))) (sided T d) } in
    let order : IsTrue (rows_in_order node_id_of 0 T.next_ids.node v.nodes) = subst (λ (rs : List NodeRow). IsTrue (rows_in_order node_id_of 0 T.next_ids.node rs)) (sym rows.nodes) of.rings.plain.node_ids in
    written-append n u (side_writes part parts.face (rings border)) (node_writes at parts.face t.nodes)
    ∙ ap (λ (w : Tables). all_written n w (node_writes at parts.face t.nodes)) (sides_written T e d parts vertices t border n u of rows)
    ∙ ap (λ (rs : List NodeRow). all_written n v (node_writes at parts.face rs)) (of.rows.nodes ∙ sym rows.nodes)
    ∙ sides_follow.nodes n v at parts.face 0 T.next_ids.node order
    ∙ ap (λ (rs : List NodeRow). record v { nodes = map (in_part at parts.face) rs }) rows.nodes
    ∙ ap (λ (rs : List NodeRow). record v { nodes = rs }) (nodes_divided T e d parts vertices t border T.nodes of)

-- the border is linked, as face_rings asks
pub divided_linked : (T : Drawing) (e : Edge) (d : Division) (parts : FaceParts) (vertices : List Point) (t : Tables) (border : List BorderDart) → IsDividedFace T e d parts vertices t border → IsTrue (are_linked border)
divided_linked T e d parts vertices t border of = subst (λ (b : List BorderDart). IsTrue (are_linked b)) (sym of.content) (border_linked T d.face of.rings)

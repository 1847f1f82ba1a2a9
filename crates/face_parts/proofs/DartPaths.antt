-- The path along the darts of a ring, out of rows of edges.
use Rattle.std.proofs.Common.{◌≡◌, ℕ, ◌+◌, Bool, true, false, cond, ◌||◌, eqb, List, [], ◌∷◌, ◌++◌, length, map, Some, None, refl, ap, ◌∙◌, subst, arith, ⊎_elim, IsTrue, ne_eqb, eq-eqb, le-leb}
use Rattle.std.specs.Prelude.{nat_le}
use Rattle.std.specs.List.{Contains}
use Rattle.std.proofs.lemmas.Bool.{and_from, false≢true}
use Rattle.topo_base.specs.declared.ids.Dart.{Dart}
use Rattle.topo_base.specs.declared.rows.EdgeRow.{EdgeRow}
use Rattle.drawing.specs.Drawing.{Drawing, Edge, edge_id_of}
use Rattle.drawing.specs.HalfEdge.{HalfEdge, forward_of, backward_of, half_edges, dart_of}
use Rattle.drawing.specs.Ring.{ring_of, ring_segments}
use Rattle.plane.specs.ClosedWalk.{closed_segments}
use Rattle.drawing.specs.Rows.{row_at, has_row}
use Rattle.drawing.specs.Tables.{edge_row, tables_of}
use Rattle.drawing.specs.Writes.{edge_row_id}
use Rattle.plane.proofs.ListTests.{contains_cases, contains_none}
use Rattle.drawing.proofs.Members.{ids_within}
use Rattle.drawing.proofs.Ordering.{InOrder, first_of}
use Rattle.face_rings.proofs.FaceBorders.{has_plain_lines}
use Rattle.face_rings.proofs.HalfLines.{HasPlainLines}
use Rattle.face_rings.proofs.HalvesApart.{half_of}
use Rattle.face_parts.specs.Paths.{without_last, walked_row, line_along, path_of, are_edges, IsRingOf}
use Rattle.face_parts.proofs.RingPaths.{points_of, ring_path_is, AreIn, ring_in}

-- ---- the rows of a drawing's edges
row_there : (hs : List HalfEdge) (low next : ℕ) (edges : List Edge) (e : Edge) → InOrder edge_id_of low next edges → Contains edges e → row_at edge_row_id (map (edge_row hs) edges) e.edge_id ≡ Some (edge_row hs e)
row_there hs low next [] e order c = absurd (contains_none e c)
row_there hs low next (d ∷ edges) e order c =
    let rest = (first_of edge_id_of low next d edges order).2 in
    ⊎_elim
    (λ (p : d ≡ e). ap (λ b. cond b (Some (edge_row hs d)) (row_at edge_row_id (map (edge_row hs) edges) e.edge_id)) (eq-eqb d.edge_id e.edge_id (ap edge_id_of p)) ∙ ap (λ x. Some (edge_row hs x)) p)
    (λ (k : Contains edges e).
    let above = (ids_within edge_id_of (edge_id_of d + 1) next edges e rest k).0 in
    ap (λ b. cond b (Some (edge_row hs d)) (row_at edge_row_id (map (edge_row hs) edges) e.edge_id)) (ne_eqb d.edge_id e.edge_id (λ same. absurd (omega arith)))
    ∙ row_there hs (edge_id_of d + 1) next edges e rest k)
    (contains_cases e d edges c)

-- a dart's line is that of its half-edge
line_is : (T : Drawing) (h : HalfEdge) → HasPlainLines T → Contains (half_edges T) h → line_along (tables_of T).edges (dart_of h) ≡ h.points
line_is T h good c =
    let r = half_of T.edges h c in
    let row = row_there (half_edges T) 0 T.next_ids.edge T.edges r.edge good.edge_ids r.there in
    ⊎_elim
    (λ (p : forward_of r.edge ≡ h). subst (λ (x : HalfEdge). line_along (tables_of T).edges (dart_of x) ≡ x.points) p (ap (walked_row true) row))
    (λ (p : backward_of r.edge ≡ h). subst (λ (x : HalfEdge). line_along (tables_of T).edges (dart_of x) ≡ x.points) p (ap (walked_row false) row))
    r.way

path_is : (T : Drawing) (ks : List HalfEdge) → HasPlainLines T → AreIn (half_edges T) ks → path_of (tables_of T).edges (map dart_of ks) ≡ points_of ks
path_is T [] good known = refl
path_is T (k ∷ ks) good known = λ i. without_last (line_is T k good known.0 i) ++ path_is T ks good known.1 i

pub found_row : (rows : List EdgeRow) (n : ℕ) (r : EdgeRow) → row_at edge_row_id rows n ≡ Some r → has_row edge_row_id rows n ≡ true
found_row [] n r e = absurd cc
found_row (x ∷ rows) n r e = by (eqb (edge_row_id x) n) (found_row rows n r) e
  where
    by : (b : Bool) → (row_at edge_row_id rows n ≡ Some r → has_row edge_row_id rows n ≡ true) → cond b (Some x) (row_at edge_row_id rows n) ≡ Some r → (b || has_row edge_row_id rows n) ≡ true
    by true rest e = refl
    by false rest e = rest e

dart_known : (T : Drawing) (h : HalfEdge) → HasPlainLines T → Contains (half_edges T) h → has_row edge_row_id (tables_of T).edges h.edge_id ≡ true
dart_known T h good c =
    let r = half_of T.edges h c in
    let row = row_there (half_edges T) 0 T.next_ids.edge T.edges r.edge good.edge_ids r.there in
    let there = found_row (tables_of T).edges r.edge.edge_id (edge_row (half_edges T) r.edge) row in
    ⊎_elim
    (λ (p : forward_of r.edge ≡ h). subst (λ (x : HalfEdge). has_row edge_row_id (tables_of T).edges x.edge_id ≡ true) p there)
    (λ (p : backward_of r.edge ≡ h). subst (λ (x : HalfEdge). has_row edge_row_id (tables_of T).edges x.edge_id ≡ true) p there)
    r.way

darts_known : (T : Drawing) (ks : List HalfEdge) → HasPlainLines T → AreIn (half_edges T) ks → are_edges (tables_of T).edges (map dart_of ks) ≡ true
darts_known T [] good known = refl
darts_known T (k ∷ ks) good known =
    and_from (has_row edge_row_id (tables_of T).edges k.edge_id) (are_edges (tables_of T).edges (map dart_of ks)) (dart_known T k good known.0) (darts_known T ks good known.1)

-- ---- so the path along the darts of a ring may be asked for, and closes along its segments
path_of_ring : (rows : List EdgeRow) (ring : List Dart) (T : Drawing) (h : HalfEdge) → IsRingOf rows ring T h → path_of rows ring ≡ points_of (ring_of (half_edges T) h)
path_of_ring rows ring T h is = (λ i. path_of (is.edges i) (is.darts i)) ∙ path_is T (ring_of (half_edges T) h) (has_plain_lines T is.rings) (ring_in T h is.rings is.there)

pub ring_is_known : (rows : List EdgeRow) (ring : List Dart) (T : Drawing) (h : HalfEdge) → IsRingOf rows ring T h → IsTrue (are_edges rows ring)
ring_is_known rows ring T h is =
    (λ i. are_edges (is.edges i) (is.darts i)) ∙ darts_known T (ring_of (half_edges T) h) (has_plain_lines T is.rings) (ring_in T h is.rings is.there)

pub ring_is_long : (rows : List EdgeRow) (ring : List Dart) (T : Drawing) (h : HalfEdge) → IsRingOf rows ring T h → IsTrue (nat_le 2 (length (path_of rows ring)))
ring_is_long rows ring T h is =
    ap (λ ps. nat_le 2 (length ps)) (path_of_ring rows ring T h is) ∙ le-leb 2 (length (points_of (ring_of (half_edges T) h))) (ring_path_is T h is.rings is.there).long

pub ring_closes : (rows : List EdgeRow) (ring : List Dart) (T : Drawing) (h : HalfEdge) → IsRingOf rows ring T h → closed_segments (path_of rows ring) ≡ ring_segments (ring_of (half_edges T) h)
ring_closes rows ring T h is = ap closed_segments (path_of_ring rows ring T h is) ∙ (ring_path_is T h is.rings is.there).segments

-- ---- a row that is there
pub dart_row : (rows : List EdgeRow) (n : ℕ) → has_row edge_row_id rows n ≡ true → row_at edge_row_id rows n ≡ None → ⊥
dart_row [] n h e = false≢true h
dart_row (x ∷ rows) n h e = by (eqb (edge_row_id x) n) (dart_row rows n) h e
  where
    by : (b : Bool) → (has_row edge_row_id rows n ≡ true → row_at edge_row_id rows n ≡ None → ⊥) → (b || has_row edge_row_id rows n) ≡ true → cond b (Some x) (row_at edge_row_id rows n) ≡ None → ⊥
    by true rest h e = cc
    by false rest h e = rest h e

-- An index that keeps the segments of a table's edges finds the face of a point.
use Rattle.std.proofs.Common.{◌≡◌, ◌≢◌, ℕ, ◌≤◌, ◌+◌, refl, sym, ◌∙◌, ap, subst, arith, ⊎_elim, Bool, true, false, cond, ◌&&◌, ◌==◌, List, [], ◌∷◌, ◌++◌, map, Option, Some, None}
use Rattle.std.specs.Prelude.{IsTrue, count_by, is_some, if◌then◌else◌}
use Rattle.std.specs.List.{Contains}
use Rattle.std.proofs.lemmas.Bool.{and_parts, and_from, eqb-true, eq-eqb}
use Rattle.topo_base.specs.Point.{Point, same_point}
use Rattle.topo_base.specs.declared.ids.Dart.{Dart}
use Rattle.topo_base.specs.declared.rows.EdgeRow.{EdgeRow}
use Rattle.plane.specs.Orientation.{is_left}
use Rattle.plane.specs.Segment.{Segment}
use Rattle.plane.proofs.ListTests.{contains_here, contains_there, contains_cases, contains_none, Decides-any}
use Rattle.drawing.specs.Drawing.{Edge, edge_id_of}
use Rattle.drawing.specs.Faces.{face_at}
use Rattle.drawing.specs.Rows.{row_at, has_row}
use Rattle.drawing.specs.Tables.{Tables, drawn, drawn_edge}
use Rattle.drawing.specs.Writes.{edge_row_id}
use Rattle.drawing.proofs.Members.{contains-map, contains-mapped, contains-found, pairwise-same, ids_differ}
use Rattle.drawing.proofs.RowLemmas.{is_some-row_at}
use Rattle.parity_laws.proofs.Tests.{same_is, same_self}
use Rattle.face_laws.specs.Covered.{IsCovered}
use Rattle.covered_laws.proofs.DefinitionTelling.{definition_tells_all}
use Rattle.slab_index.specs.declared.piece.Piece.{Piece}
use Rattle.slab_index.specs.Above.{segment_of, IsDartAbove}
use Rattle.slab_index.specs.Pieces.{piece_of, pieces_of, pieces_of_all}
use Rattle.slab_index.proofs.Paths.{count_cons}
use Rattle.above_laws.specs.FirstAbove.{IsSegmentOf, AreSegmentsOf}
use Rattle.above_laws.specs.Indexed.{KeepsEdges, left_of_row, face_left_of, FacesAreFound}
use Rattle.above_laws.proofs.SomeFirst.{edge_pieces, of_piece, in_pieces}
use Rattle.above_laws.proofs.Told.{told_none, told_first}

-- ---- two lists that have each element as often
counted : {X : Type 0} (p : X → Bool) (xs : List X) (x : X) → Contains xs x → p x ≡ true → 1 ≤ count_by p xs
counted p [] x c e = absurd (contains_none x c)
counted p (y ∷ ys) x c e =
    let k = count_cons p y ys in
    ⊎_elim
    (λ (f : y ≡ x). let m = ap (λ b. cond {A = ℕ} b 1 0) (ap p f ∙ e) in omega (arith, k, m))
    (λ (d : Contains ys x). let r = counted p ys x d e in omega (arith, k, r))
    (contains_cases x y ys c)

some_counted : {X : Type 0} (p : X → Bool) (xs : List X) → 1 ≤ count_by p xs → (x : X) × (Contains xs x × (p x ≡ true))
some_counted p [] h = absurd (omega arith)
some_counted {X = X} p (y ∷ ys) h = by_test (p y) refl (count_cons p y ys) (λ k. some_counted p ys k)
  where
    by_test : (b : Bool) → p y ≡ b → count_by p (y ∷ ys) ≡ cond (p y) 1 0 + count_by p ys → (1 ≤ count_by p ys → (x : X) × (Contains ys x × (p x ≡ true))) → (x : X) × (Contains (y ∷ ys) x × (p x ≡ true))
    by_test true e k rest = (y, (contains_here y ys, e))
    by_test false e k rest =
        let m = ap (λ b. cond {A = ℕ} b 1 0) e in
        let r = rest (omega (arith, h, k, m)) in
        (r.0, (contains_there r.0 y ys r.1.0, r.1.1))

abbrev same_piece : Piece → Piece → Bool
same_piece x y = (x.edge == y.edge) && (same_point x.start y.start && same_point x.end y.end)

piece_is : (x y : Piece) → same_piece x y ≡ true → x ≡ y
piece_is x y e =
    let p = and_parts (x.edge == y.edge) (same_point x.start y.start && same_point x.end y.end) e in
    let q = and_parts (same_point x.start y.start) (same_point x.end y.end) p.1 in
    let n = eqb-true x.edge y.edge p.0 in
    let a = same_is x.start y.start q.0 in
    let b = same_is x.end y.end q.1 in
    λ i. record { edge = n i; start = a i; end = b i }

piece_self : (x : Piece) → same_piece x x ≡ true
piece_self x =
    and_from (x.edge == x.edge) (same_point x.start x.start && same_point x.end x.end) (eq-eqb x.edge x.edge refl)
    (and_from (same_point x.start x.start) (same_point x.end x.end) (same_self x.start) (same_self x.end))

also_there : (xs ys : List Piece) (x : Piece) → ((p : Piece → Bool) → count_by p xs ≡ count_by p ys) → Contains xs x → Contains ys x
also_there xs ys x same c =
    let k = counted (same_piece x) xs x c (piece_self x) in
    let e = same (same_piece x) in
    let r = some_counted (same_piece x) ys (omega (arith, k, e)) in
    subst (Contains ys) (sym (piece_is x r.0 r.1.1)) r.1.0

pub keeps_same : (kept : List Piece) (rows : List EdgeRow) → KeepsEdges kept rows → (p : Piece → Bool) → count_by p kept ≡ count_by p (pieces_of_all rows)
keeps_same kept rows keeps p = let k = keeps p in omega (arith, k)

-- ---- the segments of rows
edges_of_rows : (rows : List EdgeRow) → edge_pieces (map drawn_edge rows) ≡ pieces_of_all rows
edges_of_rows [] = refl
edges_of_rows (row ∷ rows) = ap (λ l. pieces_of row ++ l) (edges_of_rows rows)

-- a segment that is kept is one of a row's edge
record IsOfRow (t : Tables) (x : Piece) : Type 0 where
  row : EdgeRow
  there : Contains t.edges row
  id : row.edge_id ≡ x.edge
  own : IsSegmentOf (drawn t).edges (drawn_edge row) (segment_of x)

of_row : (t : Tables) (kept : List Piece) (x : Piece) → KeepsEdges kept t.edges → Contains kept x → IsOfRow t x
of_row t kept x keeps c =
    let r = of_piece (drawn t).edges x (subst (λ l. Contains l x) (sym (edges_of_rows t.edges)) (also_there kept (pieces_of_all t.edges) x (keeps_same kept t.edges keeps) c)) in
    let m = contains-mapped drawn_edge r.0 t.edges r.1.1.edge in
    record {
      row = m.0;
      there = m.1.0;
      id = ap (λ (e : Edge). e.edge_id) m.1.1 ∙ r.1.0;
      own = subst (λ e. IsSegmentOf (drawn t).edges e (segment_of x)) (sym m.1.1) r.1.1;
    }

-- and each segment of an edge is kept
is_kept : (t : Tables) (kept : List Piece) (e : Edge) (s : Segment) → KeepsEdges kept t.edges → IsSegmentOf (drawn t).edges e s → Contains kept (piece_of e.edge_id s)
is_kept t kept e s keeps o =
    also_there (pieces_of_all t.edges) kept (piece_of e.edge_id s) (λ p. sym (keeps_same kept t.edges keeps p))
    (subst (λ l. Contains l (piece_of e.edge_id s)) (edges_of_rows t.edges) (in_pieces (drawn t).edges e s o))

pub kept_segments : (t : Tables) (kept : List Piece) → KeepsEdges kept t.edges → AreSegmentsOf (drawn t).edges kept
kept_segments t kept keeps = record {
  own = λ x c. let r = of_row t kept x keeps c in (drawn_edge r.row, (r.id, r.own));
  all = λ e s o. is_kept t kept e s keeps o;
}

-- ---- the row of an edge that is there
has_there : (rows : List EdgeRow) (row : EdgeRow) → Contains rows row → has_row edge_row_id rows row.edge_id ≡ true
has_there rows row c =
    (Decides-any (λ (r : EdgeRow). r.edge_id == row.edge_id) (λ r. (r.edge_id == row.edge_id) ≡ true) (λ r. (λ e. e, λ e. e)) rows).1
    (row, (c, eq-eqb row.edge_id row.edge_id refl))

found_left : (t : Tables) (row : EdgeRow) (b : Bool) → IsCovered (drawn t) → Contains t.edges row → left_of_row b (row_at edge_row_id t.edges row.edge_id) ≡ left_of_row b (Some row)
found_left t row b c i = by_found (row_at edge_row_id t.edges row.edge_id) refl
  where
    one_edge : (r : EdgeRow) → Contains t.edges r → (r.edge_id == row.edge_id) ≡ true → drawn_edge r ≡ drawn_edge row
    one_edge r k e =
        let same = eqb-true r.edge_id row.edge_id e in
        pairwise-same (λ x y. edge_id_of x ≢ edge_id_of y) (drawn t).edges (drawn_edge r) (drawn_edge row)
        (ids_differ edge_id_of 0 (drawn t).next_ids.edge (drawn t).edges (record { test = c.ringed.rings.plain.edge_ids }))
        (contains-map drawn_edge r t.edges k) (contains-map drawn_edge row t.edges i) (λ far. far same) (λ far. far (sym same))

    none_there : None ≡ row_at edge_row_id t.edges row.edge_id → {P : Type 0} → P
    none_there e = absurd (no (ap is_some e ∙ (is_some-row_at edge_row_id t.edges row.edge_id ∙ has_there t.edges row i)))
      where
        no : false ≡ true → ⊥
        no e = cc

    by_found : (found : Option EdgeRow) → row_at edge_row_id t.edges row.edge_id ≡ found → left_of_row b found ≡ left_of_row b (Some row)
    by_found None e = none_there (sym e)
    by_found (Some r) e =
        let m = contains-found (λ (x : EdgeRow). x.edge_id == row.edge_id) r t.edges e in
        ap (λ (d : Edge). if b then d.left_face else d.right_face) (one_edge r m.0 m.1)

found_face : (t : Tables) (p : Point) (kept : List Piece) (found : Option Dart) → IsCovered (drawn t) → KeepsEdges kept t.edges → IsDartAbove p kept found → face_at (drawn t) p ≡ face_left_of t.edges found
found_face t p kept None c keeps none = told_none (drawn t) p c (λ e s o. none (piece_of e.edge_id s) (is_kept t kept e s keeps o))
found_face t p kept (Some d) c keeps (x, (f, same)) =
    let r = of_row t kept x keeps f.kept in
    told_first (drawn t) p (drawn_edge r.row) (segment_of x) c (record { own = r.own; over = f.over; first = λ e s o. f.first (piece_of e.edge_id s) (is_kept t kept e s keeps o) })
    ∙ sym (found_left t r.row (is_left x.start x.end p) c r.there)
    ∙ ap (λ n. left_of_row (is_left x.start x.end p) (row_at edge_row_id t.edges n)) r.id
    ∙ ap (λ z. face_left_of t.edges (Some z)) (sym same)

found_there : (t : Tables) (p : Point) (kept : List Piece) (d : Dart) → KeepsEdges kept t.edges → IsDartAbove p kept (Some d) → IsTrue (has_row edge_row_id t.edges d.edge)
found_there t p kept d keeps (x, (f, same)) =
    let r = of_row t kept x keeps f.kept in
    subst (λ n. IsTrue (has_row edge_row_id t.edges n)) (r.id ∙ sym (ap (λ (z : Dart). z.edge) same)) (has_there t.edges r.row r.there)

pub faces_are_found : FacesAreFound
faces_are_found = record {
  face = found_face;
  defined = λ t p kept found rows h keeps above. found_face t p kept found (definition_tells_all.subdivided (drawn t) rows h).covered keeps above;
  there = found_there;
}

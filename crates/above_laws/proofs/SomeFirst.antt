-- Over a point there is no segment of a drawing's edges, or one that is the first.
use Rattle.std.proofs.Common.{◌≡◌, ℕ, refl, sym, ap, subst, ⊎_elim, List, [], ◌∷◌, map, Option, Some, None}
use Rattle.std.specs.Prelude.{flat_map, fold}
use Rattle.std.specs.List.{Contains}
use Rattle.std.proofs.lemmas.List.Elements.{Contains-append_left, Contains-append_right, Contains-append_cases}
use Rattle.topo_base.specs.Point.{Point}
use Rattle.plane.specs.Line.{segments_of}
use Rattle.plane.specs.Segment.{Segment}
use Rattle.plane.proofs.ListTests.{contains_here, contains_there, contains_cases, contains_none}
use Rattle.drawing.specs.Drawing.{Edge}
use Rattle.drawing.proofs.Members.{contains-map, contains-mapped}
use Rattle.slab_index.specs.declared.piece.Piece.{Piece}
use Rattle.slab_index.specs.Above.{segment_of, with_lower}
use Rattle.slab_index.specs.Pieces.{piece_of}
use Rattle.slab_index.proofs.Lowest.{IsFound, all_found}
use Rattle.above_laws.specs.FirstAbove.{IsSegmentOf, face_beside, IsFaceAbove, none_over, first_over}

-- ---- the segments of edges, as an index keeps them
abbrev pieces_along : Edge → List Piece
pieces_along e = map (piece_of e.edge_id) (segments_of e.geom)

abbrev pub edge_pieces : List Edge → List Piece
edge_pieces edges = flat_map pieces_along edges

of_edges : (edges : List Edge) (x : Piece) → Contains (edge_pieces edges) x → (e : Edge) × (Contains edges e × Contains (pieces_along e) x)
of_edges [] x c = absurd (contains_none x c)
of_edges (e ∷ edges) x c =
    ⊎_elim
    (λ (d : Contains (pieces_along e) x). (e, (contains_here e edges, d)))
    (λ (d : Contains (edge_pieces edges) x). let r = of_edges edges x d in (r.0, (contains_there r.0 e edges r.1.0, r.1.1)))
    (Contains-append_cases (pieces_along e) (edge_pieces edges) x c)

in_edges : (edges : List Edge) (e : Edge) (x : Piece) → Contains edges e → Contains (pieces_along e) x → Contains (edge_pieces edges) x
in_edges [] e x c d = absurd (contains_none e c)
in_edges (other ∷ edges) e x c d =
    ⊎_elim
    (λ (same : other ≡ e). Contains-append_left (pieces_along other) (edge_pieces edges) x (subst (λ y. Contains (pieces_along y) x) (sym same) d))
    (λ (k : Contains edges e). Contains-append_right (pieces_along other) (edge_pieces edges) x (in_edges edges e x k d))
    (contains_cases e other edges c)

pub of_piece : (edges : List Edge) (x : Piece) → Contains (edge_pieces edges) x → (e : Edge) × ((e.edge_id ≡ x.edge) × IsSegmentOf edges e (segment_of x))
of_piece edges x c =
    let r = of_edges edges x c in
    let m = contains-mapped (piece_of r.0.edge_id) x (segments_of r.0.geom) r.1.1 in
    (r.0, (ap (λ (y : Piece). y.edge) m.1.1, record { edge = r.1.0; segment = subst (Contains (segments_of r.0.geom)) (ap segment_of m.1.1) m.1.0 }))

pub in_pieces : (edges : List Edge) (e : Edge) (s : Segment) → IsSegmentOf edges e s → Contains (edge_pieces edges) (piece_of e.edge_id s)
in_pieces edges e s o = in_edges edges e (piece_of e.edge_id s) o.edge (contains-map (piece_of e.edge_id) s (segments_of e.geom) o.segment)

-- ---- none, or a first
pub some_face : (edges : List Edge) (p : Point) → (f : ℕ) × IsFaceAbove edges p f
some_face edges p = by_found (fold (with_lower p) None (edge_pieces edges)) (all_found p (edge_pieces edges) [] None (λ x c. absurd (contains_none x c)))
  where
    by_found : (o : Option Piece) → IsFound p (edge_pieces edges) o → (f : ℕ) × IsFaceAbove edges p f
    by_found None over = (0, none_over (λ e s o. over (piece_of e.edge_id s) (in_pieces edges e s o)) refl)
    by_found (Some x) found =
        let r = of_piece edges x found.kept in (
          face_beside p r.0 (segment_of x),
          first_over r.0 (segment_of x) (record { own = r.1.1; over = found.over; first = λ d s o over. found.first (piece_of d.edge_id s) (in_pieces edges d s o) over }) refl,
        )

-- Links stay where sides change.
use Rattle.std.proofs.Common.{◌≡◌, ℕ, List, [], ◌∷◌, map, refl, sym, ap, ◌∙◌}
use Rattle.std.specs.List.{flat_map}
use Rattle.drawing.specs.Drawing.{Edge}
use Rattle.drawing.specs.HalfEdge.{HalfEdge, forward_of, backward_of, both_ways, dart_of}
use Rattle.drawing.specs.Star.{next_of}
use Rattle.drawing.specs.Tables.{edge_row}
use Rattle.ring_laws.proofs.Faceless.{faceless, next_faceless}
use Rattle.face_parts.specs.SidesLaw.{with_sides}

sides_faceless : (l r : Edge → ℕ) (edges : List Edge) → map faceless (flat_map both_ways (map (with_sides l r) edges)) ≡ map faceless (flat_map both_ways edges)
sides_faceless l r [] = refl
sides_faceless l r (e ∷ edges) = ap (λ (hs : List HalfEdge). faceless (forward_of e) ∷ faceless (backward_of e) ∷ hs) (sides_faceless l r edges)

next_sides : (l r : Edge → ℕ) (edges : List Edge) (h k : HalfEdge) → faceless h ≡ faceless k
    → dart_of (next_of (flat_map both_ways (map (with_sides l r) edges)) h) ≡ dart_of (next_of (flat_map both_ways edges) k)
next_sides l r edges h k same =
    sym (next_faceless (flat_map both_ways (map (with_sides l r) edges)) h)
    ∙ (λ i. dart_of (next_of (sides_faceless l r edges i) (same i)))
    ∙ next_faceless (flat_map both_ways edges) k

-- the row of an edge with other sides
pub row_sides : (l r : Edge → ℕ) (edges : List Edge) (e : Edge)
    → edge_row (flat_map both_ways (map (with_sides l r) edges)) (with_sides l r e) ≡ record (edge_row (flat_map both_ways edges) e) { left_face = l e; right_face = r e }
row_sides l r edges e =
    let first = next_sides l r edges (forward_of (with_sides l r e)) (forward_of e) refl in
    let second = next_sides l r edges (backward_of (with_sides l r e)) (backward_of e) refl in
    λ i. record (edge_row (flat_map both_ways edges) e) { next_left_edge = first i; next_right_edge = second i; left_face = l e; right_face = r e }

-- Tables and the drawing for which they stand.
use Rattle.std.proofs.Common.{◌≡◌, ℕ, Bool, ◌||◌, List, [], ◌∷◌, map, refl, ap}
use Rattle.std.specs.List.{list_any}
use Rattle.topo_base.specs.declared.rows.FaceRow.{FaceRow}
use Rattle.drawing.specs.Drawing.{Drawing, Edge}
use Rattle.drawing.specs.HalfEdge.{HalfEdge, half_edges}
use Rattle.drawing.specs.Tables.{tables_of, drawn, drawn_edge, edge_row, face_row}

-- a test of rows that are made of others
pub list_any-map : {A B : Type 0} (p : B → Bool) (f : A → B) (xs : List A) → list_any p (map f xs) ≡ list_any (λ x. p (f x)) xs
list_any-map p f [] = refl
list_any-map p f (x ∷ xs) = ap (λ b. p (f x) || b) (list_any-map p f xs)

edges_back : (hs : List HalfEdge) (edges : List Edge) → map drawn_edge (map (edge_row hs) edges) ≡ edges
edges_back hs [] = refl
edges_back hs (e ∷ edges) = ap (λ es. e ∷ es) (edges_back hs edges)

faces_back : (S : Drawing) (faces : List ℕ) → map (λ (f : FaceRow). f.face_id) (map (face_row S) faces) ≡ faces
faces_back S [] = refl
faces_back S (f ∷ faces) = ap (λ fs. f ∷ fs) (faces_back S faces)

-- the tables of a drawing stand for it
pub drawn-tables_of : (S : Drawing) → drawn (tables_of S) ≡ S
drawn-tables_of S =
    let edges = edges_back (half_edges S) S.edges in
    let faces = faces_back S S.faces in
    λ i. record S { edges = edges i; faces = faces i }

-- The parts of the test that ids ascend.
use Rattle.std.proofs.Common.{◌≡◌, ℕ, List, [], ◌∷◌, map, refl, ap, IsTrue, ◌∙◌}
use Rattle.std.proofs.lemmas.Bool.{and_parts}
use Rattle.drawing.specs.Drawing.{Drawing, Edge, edge_id_of, node_id_of}
use Rattle.drawing.specs.HalfEdge.{HalfEdge}
use Rattle.drawing.specs.Subdivision.{ascend_between, face_id_of, ids_in_order}
use Rattle.drawing.specs.Tables.{edge_row}
use Rattle.drawing.specs.Writes.{edge_row_id}
use Rattle.drawing.proofs.Ordering.{InOrder}

pub record AreInOrder (S : Drawing) : Type 0 where
  pub nodes : InOrder node_id_of 1 S.next_ids.node S.nodes
  pub edges : InOrder edge_id_of 1 S.next_ids.edge S.edges
  pub faces : InOrder face_id_of 0 S.next_ids.face S.faces

pub orders_of : (S : Drawing) → IsTrue (ids_in_order S) → AreInOrder S
orders_of S h =
    let four = and_parts _ _ h in
    let three = and_parts _ _ four.0 in
    let two = and_parts _ _ three.0 in
    let one = and_parts _ _ two.0 in
    record { nodes = record { test = one.0 }; edges = record { test = one.1 }; faces = record { test = two.1 } }

-- the rows of edges have their ids
row_ids : (hs : List HalfEdge) (edges : List Edge) → map edge_row_id (map (edge_row hs) edges) ≡ map edge_id_of edges
row_ids hs [] = refl
row_ids hs (e ∷ edges) = ap (λ ids. e.edge_id ∷ ids) (row_ids hs edges)

pub rows_ordered : (hs : List HalfEdge) (low next : ℕ) (edges : List Edge) → InOrder edge_id_of low next edges → InOrder edge_row_id low next (map (edge_row hs) edges)
rows_ordered hs low next edges h = record { test = ap (ascend_between low next) (row_ids hs edges) ∙ h.test }

-- The border of a face of a drawing, and the law that its rings are those of the half-edges.
use Rattle.std.specs.Prelude.{◌≡◌, ℕ, Bool, ◌==◌, IsTrue, List, filter, map}
use Rattle.std.specs.List.{Contains}
use Rattle.drawing.specs.Drawing.{Drawing}
use Rattle.drawing.specs.HalfEdge.{HalfEdge, half_edges, dart_of}
use Rattle.drawing.specs.Star.{next_of}
use Rattle.drawing.specs.Ring.{ring_of as ring_of_half}
use Rattle.drawing.specs.Subdivision.{begins_ring as half_begins_ring, rings_have_one_face}
use Rattle.drawing.specs.Tables.{tables_of}
use Rattle.drawing.specs.PlainInOrder.{IsPlainInOrder}
use Rattle.drawing.specs.Vertices.{have_segments}
use Rattle.face_rings.specs.declared.content.BorderDart.{BorderDart}
use Rattle.face_rings.specs.Border.{darts_ascend, are_linked}
use Rattle.face_rings.specs.Rings.{ring_of, rings}
use Rattle.face_rings.specs.RowBorder.{rows_border}

-- the half-edges with this face on their left
abbrev pub is_beside : ℕ → HalfEdge → Bool
is_beside f h = h.on_left == f

abbrev pub beside : List HalfEdge → ℕ → List HalfEdge
beside hs f = filter (is_beside f) hs

-- the border of the face
abbrev pub border_dart : List HalfEdge → HalfEdge → BorderDart
border_dart hs h = record { dart = dart_of h; next = dart_of (next_of hs h) }

abbrev pub face_border : List HalfEdge → ℕ → List BorderDart
face_border hs f = map (border_dart hs) (beside hs f)

-- its rings, each begun with its least half-edge
abbrev pub rings_beside : List HalfEdge → ℕ → List (List HalfEdge)
rings_beside hs f = map (ring_of_half hs) (filter (half_begins_ring hs) (beside hs f))

-- the drawing is plain, its lines have two vertices or more, and its rings have one face each
pub record HasRings (S : Drawing) : Type 0 where
  pub plain : IsPlainInOrder S
  pub lines : IsTrue (have_segments S.edges)
  pub one_face : IsTrue (rings_have_one_face S)

pub record RingsAreRight : Type 0 where
  -- the rows of the edges, with their links, have the border
  pub rows : (S : Drawing) (f : ℕ) → rows_border f (tables_of S).edges ≡ face_border (half_edges S) f
  -- the darts of the border ascend, next leads from each to one of them, and from no two to one
  pub ascend : (S : Drawing) (f : ℕ) → HasRings S → IsTrue (darts_ascend (face_border (half_edges S) f))
  pub linked : (S : Drawing) (f : ℕ) → HasRings S → IsTrue (are_linked (face_border (half_edges S) f))
  -- the ring of a dart is that of its half-edge
  pub ring : (S : Drawing) (f : ℕ) (h : HalfEdge) → HasRings S → Contains (half_edges S) h → h.on_left ≡ f
      → ring_of (face_border (half_edges S) f) (dart_of h) ≡ map dart_of (ring_of_half (half_edges S) h)
  -- the rings are those of the half-edges with the face on their left
  pub all : (S : Drawing) (f : ℕ) → HasRings S → rings (face_border (half_edges S) f) ≡ map (map dart_of) (rings_beside (half_edges S) f)

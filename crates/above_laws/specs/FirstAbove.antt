-- The first segment straight above a point tells the face that the point is in.
use Rattle.std.specs.Prelude.{◌≡◌, ℕ, false, IsTrue, List, Option, Some, None, if◌then◌else◌}
use Rattle.std.specs.List.{Contains}
use Rattle.topo_base.specs.Point.{Point}
use Rattle.topo_base.specs.declared.ids.Dart.{Dart}
use Rattle.plane.specs.Orientation.{is_left}
use Rattle.plane.specs.Segment.{Segment}
use Rattle.plane.specs.Line.{segments_of}
use Rattle.plane.specs.Parity.{is_over}
use Rattle.drawing.specs.Drawing.{Drawing, Edge}
use Rattle.drawing.specs.Faces.{face_at}
use Rattle.drawing.specs.HalfEdge.{HalfEdge, half_edges, dart_of}
use Rattle.face_laws.specs.Covered.{IsCovered}
use Rattle.slab_index.specs.declared.piece.Piece.{Piece}
use Rattle.slab_index.specs.Above.{segment_of, is_lower, IsDartAbove}
use Rattle.slab_index.specs.Pieces.{piece_of}

-- s is a segment of e, one of these edges
pub record IsSegmentOf (edges : List Edge) (e : Edge) (s : Segment) : Type 0 where
  pub edge : Contains edges e
  pub segment : Contains (segments_of e.geom) s

-- no segment of the edges is over p
abbrev pub NoneIsOver : List Edge → Point → Type 0
NoneIsOver edges p = (e : Edge) (s : Segment) → IsSegmentOf edges e s → is_over p s ≡ false

-- t, a segment of e, is over p, and none over p is lower than it
pub record IsFirstOver (edges : List Edge) (p : Point) (e : Edge) (t : Segment) : Type 0 where
  pub own : IsSegmentOf edges e t
  pub over : IsTrue (is_over p t)
  pub first : (d : Edge) (s : Segment) → IsSegmentOf edges d s → IsTrue (is_over p s) → is_lower p s t ≡ false

-- the face of e on the side of t on which p is, where p isn't on the straight line of t
abbrev pub face_beside : Point → Edge → Segment → ℕ
face_beside p e t = if is_left t.a t.b p then e.left_face else e.right_face

-- f is the face above p: face 0 where no segment is over p, and else that of a first segment over p, on the side on which p is
pub data IsFaceAbove (edges : List Edge) (p : Point) (f : ℕ) : Type 0 where
  none_over : NoneIsOver edges p → f ≡ 0 → IsFaceAbove edges p f
  first_over : (e : Edge) (t : Segment) → IsFirstOver edges p e t → f ≡ face_beside p e t → IsFaceAbove edges p f

-- these are the segments of the edges, in any order
pub record AreSegmentsOf (edges : List Edge) (pieces : List Piece) : Type 0 where
  pub own : (x : Piece) → Contains pieces x → (e : Edge) × ((e.edge_id ≡ x.edge) × IsSegmentOf edges e (segment_of x))
  pub all : (e : Edge) (s : Segment) → IsSegmentOf edges e s → Contains pieces (piece_of e.edge_id s)

-- p is in the face on the left of this dart, or in face 0 where there is none
abbrev pub IsInFaceLeftOf : Drawing → Point → Option Dart → Type 0
IsInFaceLeftOf S p None = face_at S p ≡ 0
IsInFaceLeftOf S p (Some d) = (h : HalfEdge) × (Contains (half_edges S) h × (dart_of h ≡ d) × (face_at S p ≡ h.on_left))

pub record FacesAreToldAbove : Type 0 where
  -- each point of the grid has a face above it, of any edges
  pub some : (edges : List Edge) (p : Point) → (f : ℕ) × IsFaceAbove edges p f
  -- in a drawing whose faces lie where their borders say, this is the face that the point is in
  pub face : (S : Drawing) (p : Point) (f : ℕ) → IsCovered S → IsFaceAbove S.edges p f → face_at S p ≡ f
  -- so the dart of the first segment above, as an index of the segments finds it, tells the face
  pub dart : (S : Drawing) (p : Point) (pieces : List Piece) (found : Option Dart) → IsCovered S → AreSegmentsOf S.edges pieces → IsDartAbove p pieces found → IsInFaceLeftOf S p found

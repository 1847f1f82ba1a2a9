-- Each face is where its border says.
use Rattle.std.specs.Prelude.{◌≡◌, ℕ, Bool, true, false, not, ◌&&◌, ◌==◌, IsTrue, Some, Contains}
use Rattle.std.specs.List.{list_any}
use Rattle.topo_base.specs.RationalPoint.{RationalPoint, SamePoint, IsAt}
use Rattle.topo_base.specs.declared.rows.NodeRow.{NodeRow}
use Rattle.plane.specs.Segment.{Segment}
use Rattle.plane.specs.Line.{segments_of}
use Rattle.drawing.specs.Drawing.{Drawing, Edge, has_face}
use Rattle.drawing.specs.Faces.{face_at}
use Rattle.plane.specs.RationalTests.{IsOn, IsLeftOf, IsRightOf, IsOnWay}
use Rattle.drawing.specs.DrawnPoints.{IsOffEdges, IsOffNodes, is_in_face_at}

-- the point is in the face: by crossings, or in face 0 where it is in no other listed one
abbrev pub is_in_other : Drawing → RationalPoint → Bool
is_in_other S q = list_any (λ f. not (f == 0) && is_in_face_at S f q) S.faces

abbrev pub is_in : Drawing → ℕ → RationalPoint → Bool
is_in S f q = has_face S f && chosen (f == 0) (not (is_in_other S q)) (is_in_face_at S f q)
  where
    chosen : Bool → Bool → Bool → Bool
    chosen true a b = a
    chosen false a b = b

-- q sees m: no edge and no node is on the way, m itself left out
abbrev pub Sees : Drawing → RationalPoint → RationalPoint → Type 0
Sees S q m = (r : RationalPoint) → IsOnWay r q m → (SamePoint r m → ⊥) → IsOffEdges S r × IsOffNodes S r

-- m is on the segment and is neither of its ends
pub record IsInside (m : RationalPoint) (s : Segment) : Type 0 where
  pub on : IsOn m s
  pub not_first : IsAt s.a m → ⊥
  pub not_last : IsAt s.b m → ⊥

pub record IsFaced (S : Drawing) : Type 0 where
  -- each point off all edges is in exactly one listed face
  pub in_some : (q : RationalPoint) → IsOffEdges S q → (f : ℕ) × IsTrue (is_in S f q)
  pub in_one : (q : RationalPoint) (f g : ℕ) → IsOffEdges S q → IsTrue (is_in S f q) → IsTrue (is_in S g q) → f ≡ g
  -- what sees the inside of a segment from the left is in the left face, and from the right in the right face
  pub left : (e : Edge) (s : Segment) (m q : RationalPoint) → Contains S.edges e → Contains (segments_of e.geom) s → IsInside m s → IsLeftOf q s → Sees S q m → IsTrue (is_in S e.left_face q)
  pub right : (e : Edge) (s : Segment) (m q : RationalPoint) → Contains S.edges e → Contains (segments_of e.geom) s → IsInside m s → IsRightOf q s → Sees S q m → IsTrue (is_in S e.right_face q)
  -- an isolated node is in its containing face
  pub isolated : (n : NodeRow) (f : ℕ) → Contains S.nodes n → n.containing_face ≡ Some f → face_at S n.geom ≡ f

-- What the box of one of the two rings of an edge tells of the face that the edge divides.
use Rattle.std.specs.Prelude.{◌≡◌, ◌⊎◌, ◌≤ℤ◌, ◌||◌, true, not, IsTrue, List, Some}
use Rattle.std.specs.List.{Contains}
use Rattle.topo_base.specs.Point.{Point}
use Rattle.topo_base.specs.declared.rows.Box4.{Box4}
use Rattle.topo_base.specs.declared.rows.NodeRow.{NodeRow}
use Rattle.plane.specs.Parity.{is_odd_over}
use Rattle.drawing.specs.AddEdge.{Division, is_on_left, part_at}
use Rattle.drawing.specs.Drawing.{Drawing}
use Rattle.drawing.specs.HalfEdge.{HalfEdge, half_edges}
use Rattle.drawing.specs.Ring.{ring_of, ring_segments, is_shell}
use Rattle.face_rings.specs.FaceBorder.{HasRings}
use Rattle.local_laws.specs.Parts.{IsToDivide, IsOfOther, IsVertex, IsOnRing}

-- the point is in the box, its border included
pub record IsInBox (v : Point) (box : Box4) : Type 0 where
  pub left : box.min_x ≤ℤ v.x
  pub right : v.x ≤ℤ box.max_x
  pub lower : box.min_y ≤ℤ v.y
  pub upper : v.y ≤ℤ box.max_y

-- the box has all vertices of the ring
abbrev pub HasAll : Box4 → List HalfEdge → Type 0
HasAll box ring = (v : Point) → IsVertex ring v → IsInBox v box

-- v is a vertex of another ring of the face, or the point of a node that lies in it
abbrev pub IsOfFace : Drawing → Division → Point → Type 0
IsOfFace T d v = ((h : HalfEdge) × (IsOfOther T d h × IsOnRing T h v)) ⊎ ((n : NodeRow) × (Contains T.nodes n × (n.containing_face ≡ Some d.face) × (n.geom ≡ v)))

pub record PartsLieInBoxes : Type 0 where
  -- a point over which a ring is odd is in each box that has the ring's vertices
  pub in_box : (T : Drawing) (h : HalfEdge) (v : Point) (box : Box4) → HasRings T → Contains (half_edges T) h → HasAll box (ring_of (half_edges T) h)
      → is_odd_over v (ring_segments (ring_of (half_edges T) h)) ≡ true → IsInBox v box
  -- one of the two rings of the edge is a shell
  pub one_shell : (T : Drawing) (d : Division) → IsToDivide T d → IsTrue (is_shell d.left_ring || is_shell d.right_ring)
  -- what is of the face is on the left of exactly one of the edge's two rings
  pub one_ring : (T : Drawing) (d : Division) (v : Point) → IsToDivide T d → IsOfFace T d v → is_on_left d.right_ring v ≡ not (is_on_left d.left_ring v)
  -- so what is out of the box of one that is a shell is in the other part
  pub out_of_left : (T : Drawing) (d : Division) (v : Point) (box : Box4) → IsToDivide T d → is_shell d.left_ring ≡ true → HasAll box d.left_ring → (IsInBox v box → ⊥) → part_at d v ≡ d.right_part
  pub out_of_right : (T : Drawing) (d : Division) (v : Point) (box : Box4) → IsToDivide T d → IsOfFace T d v → is_shell d.right_ring ≡ true → HasAll box d.right_ring → (IsInBox v box → ⊥)
      → part_at d v ≡ d.left_part

-- A face that an added edge divides: what one vertex of a ring tells of the ring.
use Rattle.std.specs.Prelude.{◌≡◌, ◌≤◌, ◌⊎◌, false, List, length}
use Rattle.std.specs.List.{Contains}
use Rattle.topo_base.specs.Point.{Point}
use Rattle.topo_base.specs.declared.rows.NodeRow.{NodeRow}
use Rattle.drawing.specs.AddEdge.{Division, is_on_left, part_at, part_beside}
use Rattle.drawing.specs.Change.{FaceIsDivided, FaceIsDividedAnew}
use Rattle.drawing.specs.Drawing.{Drawing}
use Rattle.drawing.specs.HalfEdge.{HalfEdge, half_edges}
use Rattle.drawing.specs.IsoEdits.{with_edge}
use Rattle.drawing.specs.Ring.{ring_of, contains_half_edge}
use Rattle.edit_changes.specs.Evidence.{FaceMayBeDivided, IsDecided, left_ring, right_ring}
use Rattle.subdivision_laws.specs.Subdivided.{IsSubdivided}

-- T is a subdivision to which an edge has come that divides the face of d, and d has the rings on the edge's two sides
pub record IsToDivide (T : Drawing) (d : Division) : Type 0 where
  pub before : Drawing
  pub start_node : NodeRow
  pub end_node : NodeRow
  pub line : List Point
  pub subdivided : IsSubdivided before
  pub long : 2 ≤ length line
  pub may : FaceMayBeDivided before start_node end_node line d.face
  pub comes : with_edge before start_node end_node line d.face ≡ T
  pub on_left : left_ring before start_node end_node line d.face ≡ d.left_ring
  pub on_right : right_ring before start_node end_node line d.face ≡ d.right_ring

-- h is of another ring of that face
pub record IsOfOther (T : Drawing) (d : Division) (h : HalfEdge) : Type 0 where
  pub there : Contains (half_edges T) h
  pub face : h.on_left ≡ d.face
  pub not_left : contains_half_edge d.left_ring h ≡ false
  pub not_right : contains_half_edge d.right_ring h ≡ false

-- v is a vertex of the ring
abbrev pub IsVertex : List HalfEdge → Point → Type 0
IsVertex ring v = (h : HalfEdge) × (Contains ring h × Contains h.points v)

-- and of the ring of h
abbrev pub IsOnRing : Drawing → HalfEdge → Point → Type 0
IsOnRing T h v = IsVertex (ring_of (half_edges T) h) v

pub record DivisionIsLocal : Type 0 where
  -- each division that Step decides is one of these
  pub one_face_new : (S : Drawing) (a b : NodeRow) (line : List Point) (d : Division) → IsSubdivided S → 2 ≤ length line → IsDecided S (FaceIsDivided a b line d) → IsToDivide (with_edge S a b line d.face) d
  pub both_faces_new : (S : Drawing) (a b : NodeRow) (line : List Point) (d : Division) → IsSubdivided S → 2 ≤ length line → IsDecided S (FaceIsDividedAnew a b line d) → IsToDivide (with_edge S a b line d.face) d
  -- no vertex of another ring of the face is one of the edge's two rings
  pub apart : (T : Drawing) (d : Division) (h : HalfEdge) (v : Point) → IsToDivide T d → IsOfOther T d h → IsOnRing T h v → IsVertex d.left_ring v ⊎ IsVertex d.right_ring v → ⊥
  -- its vertices are all on the left of the left ring, or none is
  pub one_side : (T : Drawing) (d : Division) (h : HalfEdge) (v w : Point) → IsToDivide T d → IsOfOther T d h → IsOnRing T h v → IsOnRing T h w → is_on_left d.left_ring v ≡ is_on_left d.left_ring w
  -- so the part that has any one of them is the part beside the ring
  pub one_part : (T : Drawing) (d : Division) (h : HalfEdge) (v : Point) → IsToDivide T d → IsOfOther T d h → IsOnRing T h v → part_beside d (half_edges T) h ≡ part_at d v
  -- a vertex of the right ring that isn't one of the left ring's is not on the left
  pub right_is_right : (T : Drawing) (d : Division) (v : Point) → IsToDivide T d → IsVertex d.right_ring v → (IsVertex d.left_ring v → ⊥) → is_on_left d.left_ring v ≡ false
  -- so a half-edge of the face that isn't of the left ring needs no walk round its own: a vertex of it that isn't one of the left ring's tells the part beside it
  pub own_vertex : (T : Drawing) (d : Division) (h : HalfEdge) (v : Point) → IsToDivide T d → Contains (half_edges T) h → h.on_left ≡ d.face → contains_half_edge d.left_ring h ≡ false
      → Contains h.points v → (IsVertex d.left_ring v → ⊥) → part_beside d (half_edges T) h ≡ part_at d v

-- A face that an edge divides: each ring lies in one of the parts.
use Rattle.std.specs.Prelude.{◌≡◌, IsTrue}
use Rattle.std.specs.List.{Contains}
use Rattle.drawing.specs.AddEdge.{Division, part_beside}
use Rattle.drawing.specs.Drawing.{Drawing, Edge}
use Rattle.drawing.specs.HalfEdge.{HalfEdge, forward_of, backward_of, half_edges}
use Rattle.drawing.specs.Ring.{ring_of, contains_half_edge}
use Rattle.face_rings.specs.FaceBorder.{HasRings}

-- the edge has the divided face on both sides, and the division is by its two rings
pub record IsDividedBy (T : Drawing) (e : Edge) (d : Division) : Type 0 where
  pub there : Contains T.edges e
  pub left : e.left_face ≡ d.face
  pub right : e.right_face ≡ d.face
  pub left_ring : d.left_ring ≡ ring_of (half_edges T) (forward_of e)
  pub right_ring : d.right_ring ≡ ring_of (half_edges T) (backward_of e)

pub record PartsFollow : Type 0 where
  -- the half-edges of a ring have one part beside them
  pub one_part : (T : Drawing) (e : Edge) (d : Division) (h k : HalfEdge) → HasRings T → IsDividedBy T e d → Contains (half_edges T) h → Contains (half_edges T) k → h.on_left ≡ d.face
      → IsTrue (contains_half_edge (ring_of (half_edges T) h) k) → part_beside d (half_edges T) k ≡ part_beside d (half_edges T) h

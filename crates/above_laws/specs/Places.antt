-- Holes and isolated nodes, each in the face above it.
use Rattle.std.specs.Prelude.{◌≡◌, ℕ, IsTrue, Some}
use Rattle.std.specs.List.{Contains}
use Rattle.topo_base.specs.Point.{Point}
use Rattle.topo_base.specs.declared.rows.NodeRow.{NodeRow}
use Rattle.plane.specs.ClosedWalk.{top_of}
use Rattle.drawing.specs.Drawing.{Drawing}
use Rattle.drawing.specs.HalfEdge.{HalfEdge, half_edges}
use Rattle.drawing.specs.Ring.{ring_of, ring_segments, is_hole}
use Rattle.drawing.specs.Subdivision.{begins_ring}
use Rattle.ring_laws.specs.Ringed.{IsRinged}
use Rattle.face_laws.specs.Covered.{IsInFaceOf, IsSided}
use Rattle.above_laws.specs.FirstAbove.{IsFaceAbove}

-- h begins one of the drawing's rings, and this is a hole
pub record BeginsHole (S : Drawing) (h : HalfEdge) : Type 0 where
  pub there : Contains (half_edges S) h
  pub begins : IsTrue (begins_ring (half_edges S) h)
  pub hole : IsTrue (is_hole (ring_of (half_edges S) h))

-- the face of each hole is the face above its top vertex
abbrev pub HolesAreBelow : Drawing → Type 0
HolesAreBelow S = (h : HalfEdge) → BeginsHole S h → IsFaceAbove S.edges (top_of (ring_segments (ring_of (half_edges S) h))) h.on_left

-- the containing face of each isolated node is the face above it
abbrev pub NodesAreBelow : Drawing → Type 0
NodesAreBelow S = (n : NodeRow) (f : ℕ) → Contains S.nodes n → n.containing_face ≡ Some f → IsFaceAbove S.edges n.geom f

-- in a plain drawing each of whose rings has one face
pub record PlacesAreTold : Type 0 where
  -- the faces lie where their borders say where the face of each hole is the one above it
  pub sided : (S : Drawing) → IsRinged S → HolesAreBelow S → IsSided S
  -- and only there
  pub holes : (S : Drawing) (h : HalfEdge) (f : ℕ) → IsRinged S → IsSided S → BeginsHole S h → IsFaceAbove S.edges (top_of (ring_segments (ring_of (half_edges S) h))) f → h.on_left ≡ f
  -- each point then is by parity in the face above it, and in no other
  pub placed : (S : Drawing) (p : Point) (f : ℕ) → IsRinged S → IsSided S → IsFaceAbove S.edges p f → IsInFaceOf S p f
  pub one : (S : Drawing) (p : Point) (f g : ℕ) → IsRinged S → IsSided S → IsInFaceOf S p f → IsFaceAbove S.edges p g → f ≡ g

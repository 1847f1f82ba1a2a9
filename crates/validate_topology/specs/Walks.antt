-- The rings of the darts of a plain drawing, as they are walked.
use Rattle.std.specs.Prelude.{◌≡◌, ℕ, Bool, IsTrue, List, All, length, map, flat_map, slice_index_or}
use Rattle.topo_base.specs.Point.{Point}
use Rattle.plane.specs.ClosedWalk.{top_of}
use Rattle.drawing.specs.Drawing.{Drawing}
use Rattle.drawing.specs.HalfEdge.{HalfEdge, half_edges, dart_of}
use Rattle.drawing.specs.PlainInOrder.{IsPlainInOrder}
use Rattle.drawing.specs.Ring.{ring_of, ring_segments, is_shell}
use Rattle.drawing.specs.Subdivision.{rings}
use Rattle.drawing.specs.Vertices.{have_segments}
use Rattle.face_parts.specs.Paths.{without_last}
use Rattle.face_rings.specs.FaceBorder.{border_dart}
use Rattle.face_rings.specs.Rings.{Marks}
use Rattle.face_rings.specs.declared.content.BorderDart.{BorderDart}
use Rattle.validate_topology.specs.Following.{AreNext, half_edge}
use Rattle.validate_topology.specs.declared.sides.Side.{Side}
use Rattle.validate_topology.specs.declared.walks.Walk.{Walk}

-- darts as half-edges
abbrev pub halves_of : List Side → List HalfEdge
halves_of sides = map half_edge sides

-- the half-edges are those of a plain drawing whose lines have two vertices or more
pub record ArePlainHalves (hs : List HalfEdge) : Type 0 where
  pub of : Drawing
  pub plain : IsPlainInOrder of
  pub long : IsTrue (have_segments of.edges)
  pub halves : half_edges of ≡ hs

-- besides, at the place of each stands the place of the one that is next
pub record AreFollowed (hs : List HalfEdge) (places : List ℕ) : Type 0 where
  pub plain : ArePlainHalves hs
  pub len : length places ≡ length hs
  pub next : AreNext hs places

-- all of them, each with the one that is next, as one border
abbrev pub border_of : List HalfEdge → List BorderDart
border_of hs = map (border_dart hs) hs

-- the darts of the ring of the one at this place; their places are marked besides those that were
abbrev pub IsRingAt : List HalfEdge → ℕ → List Side → Type 0
IsRingAt hs place ring = (d : HalfEdge) → halves_of ring ≡ ring_of hs (slice_index_or hs place d)

abbrev pub MarksRing : List HalfEdge → List Side → List Bool → List Bool → Type 0
MarksRing hs ring old new = Marks (border_of hs) (map dart_of (halves_of ring)) old new

-- the vertices along half-edges, of each all but the last
abbrev pub path_along : List HalfEdge → List Point
path_along ring = flat_map (λ (h : HalfEdge). without_last h.points) ring

-- a ring is a shell where it is said to be one, and has that top vertex
abbrev pub ring_in : Walk → List HalfEdge
ring_in w = halves_of w.sides.items

pub record IsWalk (w : Walk) : Type 0 where
  pub shell : w.is_shell ≡ is_shell (ring_in w)
  pub top : w.top ≡ top_of (ring_segments (ring_in w))

-- these are all rings, each begun with its least half-edge
pub record AreWalks (hs : List HalfEdge) (walks : List Walk) : Type 0 where
  pub all : map ring_in walks ≡ rings hs
  pub each : All IsWalk walks

-- Darts in lists, where they leave their nodes, and which is next after each.
use Rattle.std.specs.Prelude.{◌≡◌, ℕ, ◌+◌, ◌<◌, ◌≤◌, pos, Bool, ◌&&◌, ◌||◌, ◌==◌, nat_lt, List, All, map, flat_map, length, slice_index_or, if◌then◌else◌}
use Rattle.std.specs.Ordering.{int_eq}
use Rattle.std.specs.List.Sorted.{IsPermutation, IsSortedBy}
use Rattle.topo_base.specs.declared.rows.EdgeRow.{EdgeRow}
use Rattle.plane.specs.Direction.{Direction, is_nearer, straight_up}
use Rattle.drawing.specs.Drawing.{Drawing}
use Rattle.drawing.specs.HalfEdge.{HalfEdge, both_ways, forward_of, backward_of, twin}
use Rattle.drawing.specs.PlainInOrder.{IsPlainInOrder}
use Rattle.drawing.specs.Star.{leaving, next_of}
use Rattle.drawing.specs.Tables.{drawn_edge}
use Rattle.validate_topology.specs.declared.sides.Side.{Side}
use Rattle.validate_topology.specs.declared.stars.Spoke.{Spoke}

-- the half-edges of some rows: row after row, forward before backward
abbrev pub half_edges_of : List EdgeRow → List HalfEdge
half_edges_of rows = flat_map both_ways (map drawn_edge rows)

-- a dart as a half-edge
abbrev pub half_edge : Side → HalfEdge
half_edge s = if s.is_forward then forward_of (drawn_edge (s.row.now)) else backward_of (drawn_edge (s.row.now))

-- each place is one of so many
abbrev pub AreWithin : ℕ → List ℕ → Type 0
AreWithin n places = All (λ place. place < n) places

-- at the place of each half-edge stands the place of the one that is next
abbrev pub AreNext : List HalfEdge → List ℕ → Type 0
AreNext hs places = (place : ℕ) (d : HalfEdge) → place < length hs → slice_index_or hs (slice_index_or places place 0) d ≡ next_of hs (slice_index_or hs place d)

-- the rows are the edges of a plain drawing whose ids ascend
pub record ArePlainEdges (rows : List EdgeRow) : Type 0 where
  pub of : Drawing
  pub plain : IsPlainInOrder (record of { edges = map drawn_edge rows })

-- a direction, where zero counts as straight up
abbrev pub is_zero : Direction → Bool
is_zero u = int_eq u.dx (pos 0) && int_eq u.dy (pos 0)

abbrev pub some_direction : Direction → Direction
some_direction u = if is_zero u then straight_up else u

-- the order of directions, clockwise from straight up; and that by a number, and then by a direction
abbrev pub turns_less : Direction → Direction → Bool
turns_less u v = is_nearer straight_up (some_direction u) (some_direction v)

abbrev pub stands_less : {X : Type 0} → (X → ℕ) → (X → Direction) → X → X → Bool
stands_less node dir x y = nat_lt (node x) (node y) || node x == node y && turns_less (dir x) (dir y)

abbrev pub spoke_less : Spoke → Spoke → Bool
spoke_less a b = stands_less (λ (s : Spoke). s.node) (λ (s : Spoke). s.dir) a b

-- the dart is where the half-edge at its place leaves
pub record IsSpokeOf (hs : List HalfEdge) (s : Spoke) : Type 0 where
  pub within : s.place < length hs
  pub twin_within : s.twin < length hs
  pub is_twin : (d : HalfEdge) → slice_index_or hs s.twin d ≡ twin (slice_index_or hs s.place d)
  pub node : (d : HalfEdge) → s.node ≡ (slice_index_or hs s.place d).from_node
  pub dir : (d : HalfEdge) → s.dir ≡ some_direction (leaving (slice_index_or hs s.place d))
  pub long : (d : HalfEdge) → 2 ≤ length ((slice_index_or hs s.place d).points)

-- the half-edges of the row are at this place and the next one
pub record HasRowAt (rows : List EdgeRow) (row : EdgeRow) (place : ℕ) : Type 0 where
  pub within : place + 1 < length (half_edges_of rows)
  pub first : (d : HalfEdge) → slice_index_or (half_edges_of rows) place d ≡ forward_of (drawn_edge row)
  pub second : (d : HalfEdge) → slice_index_or (half_edges_of rows) (place + 1) d ≡ backward_of (drawn_edge row)

-- the half-edges at the places of some darts
abbrev pub halves_at : List HalfEdge → HalfEdge → List Spoke → List HalfEdge
halves_at hs d spokes = map (λ (s : Spoke). slice_index_or hs s.place d) spokes

-- all half-edges, in that order
pub record AreSpokes (hs : List HalfEdge) (spokes : List Spoke) : Type 0 where
  pub each : All (IsSpokeOf hs) spokes
  pub all : (d : HalfEdge) → IsPermutation hs (halves_at hs d spokes)
  pub order : IsSortedBy spoke_less spokes

-- the one at this index leaves its node as the one behind it does
abbrev pub goes_on : List Spoke → ℕ → Spoke → Bool
goes_on spokes index s = nat_lt (index + 1) (length spokes) && (slice_index_or spokes (index + 1) s).node == (slice_index_or spokes index s).node

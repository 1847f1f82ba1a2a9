-- The darts about a node, and their directions.
use Rattle.std.specs.Prelude.{ℕ, Bool, List, [], map, insert, if◌then◌else◌}
use Rattle.std.specs.List.{position_or_len}
use Rattle.topo_base.specs.declared.ids.Dart.{Dart}
use Rattle.topo_base.specs.Point.{Point}
use Rattle.topo_base.specs.declared.rows.EdgeRow.{EdgeRow}
use Rattle.plane.specs.Direction.{Direction, is_nearer, straight_up}
use Rattle.drawing.specs.Drawing.{Edge}
use Rattle.drawing.specs.HalfEdge.{HalfEdge, dart_of, forward_of, backward_of, leaves}
use Rattle.plane.specs.LinePoints.{has_proper_segments}
use Rattle.drawing.specs.Star.{leaving}

-- darts, and the directions in which they leave, in the same order
pub record Rays : Type 0 where
  pub darts : List Dart
  pub dirs : List Direction

abbrev pub no_rays : Rays
no_rays = record { darts = []; dirs = [] }

-- what is seen of half-edges
abbrev pub rays_of : List HalfEdge → Rays
rays_of hs = record { darts = map dart_of hs; dirs = map leaving hs }

-- the index before which a direction stands: that of the first one that comes after it, clockwise from straight up
abbrev pub place_for : List Direction → Direction → ℕ
place_for dirs u = position_or_len (λ v. is_nearer straight_up u v) dirs

-- one more
abbrev pub with_ray : Dart → Direction → Rays → Rays
with_ray d u s = record { darts = insert s.darts (place_for s.dirs u) d; dirs = insert s.dirs (place_for s.dirs u) u }

-- one more half-edge, if it leaves the node
abbrev pub with_half_edge : ℕ → HalfEdge → Rays → Rays
with_half_edge n h s = if leaves n h then with_ray (dart_of h) (leaving h) s else s

-- those of the two half-edges of an edge that leave the node
abbrev pub with_both : ℕ → Edge → Rays → Rays
with_both n e s = with_half_edge n (forward_of e) (with_half_edge n (backward_of e) s)

-- an edge with this line from node to node; which faces are beside it is no matter here
abbrev pub edge_between : ℕ → ℕ → ℕ → List Point → Edge
edge_between id start end line = record { edge_id = id; start_node = start; end_node = end; left_face = 0; right_face = 0; geom = line }

-- neighbouring vertices of an edge's line differ
abbrev pub has_proper_line : EdgeRow → Bool
has_proper_line e = has_proper_segments e.geom

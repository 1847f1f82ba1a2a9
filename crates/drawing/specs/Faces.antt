-- The face that a point is in, by the number of border segments straight above it.
use Rattle.std.specs.Prelude.{ℕ, Bool, not, ◌&&◌, ◌==◌, List, filter, find, flat_map, Option, Some, None, unwrap_or}
use Rattle.topo_base.specs.Point.{Point}
use Rattle.topo_base.specs.declared.rows.NodeRow.{NodeRow}
use Rattle.plane.specs.Segment.{Segment}
use Rattle.plane.specs.Line.{segments_of}
use Rattle.drawing.specs.Drawing.{Drawing, Edge}
use Rattle.drawing.specs.HalfEdge.{HalfEdge, half_edges, leaves}
use Rattle.plane.specs.Direction.{Direction}
use Rattle.drawing.specs.Star.{last_clockwise}
use Rattle.plane.specs.Parity.{is_odd_over, xor}

-- the face is on exactly one side of the edge
abbrev pub is_border : ℕ → Edge → Bool
is_border f e = xor (e.left_face == f) (e.right_face == f)

abbrev pub border_of : Drawing → ℕ → List Segment
border_of S f = flat_map (λ (e : Edge). segments_of e.geom) (filter (is_border f) S.edges)

-- q is in the face f, other than 0, by the crossings straight above it
abbrev pub is_in_face : Drawing → ℕ → Point → Bool
is_in_face S f q = is_odd_over q (border_of S f)

-- the face that q is in: the least one other than 0 that has it, else 0
abbrev pub face_at : Drawing → Point → ℕ
face_at S q = unwrap_or (find (λ f. not (f == 0) && is_in_face S f q) S.faces) 0

-- the face of a line at the node from which it leaves in this direction: its containing face, or else the one that follows the last half-edge before the direction, clockwise
abbrev pub face_after : Option HalfEdge → ℕ
face_after None = 0
face_after (Some c) = c.on_right

abbrev pub wedge_face : Drawing → NodeRow → Direction → ℕ
wedge_face S node way = unwrap_or node.containing_face (face_after (last_clockwise way (filter (leaves node.node_id) (half_edges S))))

-- A face that an edge divides, on rows: the part that has a point or a ring, and the writes by which sides and containing faces follow.
use Rattle.std.specs.Prelude.{ℕ, Bool, true, false, not, List, [], ◌∷◌, ◌++◌, option_map, Option, Some, None, if◌then◌else◌}
use Rattle.topo_base.specs.Point.{Point}
use Rattle.topo_base.specs.declared.ids.Dart.{Dart}
use Rattle.topo_base.specs.declared.rows.EdgeRow.{EdgeRow}
use Rattle.topo_base.specs.declared.write.RowWrite.{RowWrite}
use Rattle.plane.specs.Parity.{xor, is_odd_over}
use Rattle.plane.specs.Line.{first_vertex, last_vertex}
use Rattle.plane.specs.ClosedWalk.{closed_segments, is_hole_walk}
use Rattle.drawing.specs.Rows.{row_at}
use Rattle.drawing.specs.Tables.{Tables}
use Rattle.drawing.specs.Writes.{edge_row_id}
use Rattle.face_rings.specs.declared.content.BorderDart.{BorderDart}
use Rattle.face_rings.specs.Border.{has_dart}
use Rattle.face_rings.specs.Rings.{rings}
use Rattle.face_parts.specs.declared.parts.FaceParts.{FaceParts}
use Rattle.face_parts.specs.Sides.{dart_along, side_writes, node_writes}

-- a point is on the left of a closed walk where it is inside, if that is a shell, and where it is outside, if it is a hole
abbrev pub is_left_of : List Point → Point → Bool
is_left_of walk p = let segments = closed_segments walk in not (xor (is_odd_over p segments) (not (is_hole_walk segments)))

-- the part that has the point
abbrev pub part_of_point : FaceParts → List Point → Point → ℕ
part_of_point parts walk p = if is_left_of walk p then parts.left_part else parts.right_part

-- the vertex from which a dart leaves, and the first dart of a ring
abbrev pub vertex_along : Bool → EdgeRow → Point
vertex_along true e = first_vertex e.geom
vertex_along false e = last_vertex e.geom

abbrev pub start_of : List EdgeRow → Dart → Option Point
start_of rows d = option_map (vertex_along d.forward) (row_at edge_row_id rows d.edge)

abbrev pub start_of_ring : List EdgeRow → List Dart → Option Point
start_of_ring rows [] = None
start_of_ring rows (d ∷ ring) = start_of rows d

-- the part that has what begins there; each edge is there, so that there is a start
abbrev pub part_of_start : FaceParts → List Point → Option Point → ℕ
part_of_start parts walk None = parts.right_part
part_of_start parts walk (Some p) = part_of_point parts walk p

-- the part that has a ring: the ring of the edge is on its left, that of the edge backward on its right, and another one where its first dart begins
abbrev pub part_of_ring : FaceParts → List Point → List EdgeRow → List Dart → ℕ
part_of_ring parts walk rows ring =
    if has_dart ring (dart_along true parts.edge) then parts.left_part
    else (if has_dart ring (dart_along false parts.edge) then parts.right_part
    else part_of_start parts walk (start_of_ring rows ring))

-- the writes of the sides on the face's border, ring by ring, and then those of the nodes in it
abbrev pub division_writes : FaceParts → List Point → Tables → List BorderDart → List RowWrite
division_writes parts walk t border =
    side_writes (part_of_ring parts walk t.edges) parts.face (rings border) ++ node_writes (part_of_point parts walk) parts.face t.nodes

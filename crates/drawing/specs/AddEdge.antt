-- An added edge: the face in which it lies, and the parts into which it may divide that face.
use Rattle.std.specs.Prelude.{ℕ, ◌+◌, Bool, not, ◌&&◌, ◌==◌, nat_eq, List, [], ◌∷◌, map, reverse, Some, if◌then◌else◌}
use Rattle.std.specs.Option.{option_eq}
use Rattle.topo_base.specs.Point.{Point}
use Rattle.topo_base.specs.declared.rows.NodeRow.{NodeRow}
use Rattle.drawing.specs.Drawing.{Drawing, Edge}
use Rattle.drawing.specs.HalfEdge.{HalfEdge, forward_of, backward_of, half_edges}
use Rattle.plane.specs.Direction.{first_direction}
use Rattle.drawing.specs.Ring.{ring_of, ring_segments, contains_half_edge, least_vertex, is_shell}
use Rattle.plane.specs.Parity.{xor, is_odd_over}
use Rattle.drawing.specs.Faces.{wedge_face}
use Rattle.drawing.specs.Relations.{follow, face_type}

-- the edge that comes
abbrev pub coming : Drawing → NodeRow → NodeRow → List Point → ℕ → Edge
coming S a b line f =
    record { edge_id = S.next_ids.edge; start_node = a.node_id; end_node = b.node_id; left_face = f; right_face = f; geom = line }

-- how a face is divided: the rings on the left and on the right of the edge, and the faces that the two parts are
pub record Division : Type 0 where
  pub face : ℕ
  pub left_ring : List HalfEdge
  pub right_ring : List HalfEdge
  pub left_part : ℕ
  pub right_part : ℕ

-- a point of an island is on the left where it is inside the left ring, if that is a shell, and where it is outside, if it is a hole
abbrev pub is_on_left : List HalfEdge → Point → Bool
is_on_left ring p = not (xor (is_odd_over p (ring_segments ring)) (is_shell ring))

-- the part that has the point, and the part that has the half-edge on its border
abbrev pub part_at : Division → Point → ℕ
part_at d p = if is_on_left d.left_ring p then d.left_part else d.right_part

abbrev pub part_beside : Division → List HalfEdge → HalfEdge → ℕ
part_beside d hs h =
    if contains_half_edge d.left_ring h then d.left_part
    else (if contains_half_edge d.right_ring h then d.right_part
    else part_at d (least_vertex (ring_of hs h)))

-- each side and containing face that was the divided face is one of the parts
abbrev pub divided_side : Division → List HalfEdge → ℕ → HalfEdge → ℕ
divided_side d hs f h = if f == d.face then part_beside d hs h else f

abbrev pub divided_edge : Division → List HalfEdge → Edge → Edge
divided_edge d hs e =
    record e { left_face = divided_side d hs e.left_face (forward_of e); right_face = divided_side d hs e.right_face (backward_of e) }

abbrev pub divided_node : Division → NodeRow → NodeRow
divided_node d n = if option_eq nat_eq n.containing_face (Some d.face) then record n { containing_face = Some (part_at d n.geom) } else n

-- the drawing with the face divided, the faces that are its parts and come, and how many of them are new
abbrev pub divided : Drawing → Division → List ℕ → ℕ → Drawing
divided T d faces new =
    record T {
      nodes = map (divided_node d) T.nodes;
      edges = map (divided_edge d (half_edges T)) T.edges;
      faces = faces;
      relations = follow T face_type (d.face ∷ []) (d.left_part ∷ d.right_part ∷ []);
      next_ids = record (T.next_ids) { face = T.next_ids.face + new };
    }

-- the parts where one face is new: the left one, but where the universal face is left outside on the left
abbrev pub keeps_left : ℕ → List HalfEdge → Bool
keeps_left f ring = f == 0 && not (is_shell ring)

abbrev pub one_new : Drawing → ℕ → List HalfEdge → List HalfEdge → Division
one_new T f left right =
    let new = T.next_ids.face in
    record { face = f; left_ring = left; right_ring = right; left_part = (if keeps_left f left then f else new); right_part = (if keeps_left f left then new else f) }

-- the parts where both are new
abbrev pub two_new : Drawing → ℕ → List HalfEdge → List HalfEdge → Division
two_new T f left right =
    record { face = f; left_ring = left; right_ring = right; left_part = T.next_ids.face; right_part = T.next_ids.face + 1 }

-- the faces of the line at its two ends
abbrev pub face_at_start : Drawing → NodeRow → List Point → ℕ
face_at_start S a line = wedge_face S a (first_direction line)

abbrev pub face_at_end : Drawing → NodeRow → List Point → ℕ
face_at_end S b line = wedge_face S b (first_direction (reverse line))

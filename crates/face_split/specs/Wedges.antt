-- The face of a line at a node from which it leaves, found row by row.
use Rattle.std.specs.Prelude.{ℕ, Bool, ◌==◌, List, [], ◌∷◌, ◌++◌, flat_map, Option, Some, None, if◌then◌else◌}
use Rattle.topo_base.specs.declared.rows.EdgeRow.{EdgeRow}
use Rattle.plane.specs.Direction.{Direction, is_nearer}
use Rattle.drawing.specs.Drawing.{Edge}
use Rattle.drawing.specs.HalfEdge.{HalfEdge, forward_of, backward_of}
use Rattle.drawing.specs.Star.{leaving}
use Rattle.drawing.specs.Tables.{drawn_edge}
use Rattle.face_split.specs.declared.wedges.Wedge.{Wedge}

-- what is seen of a half-edge that leaves a node: its direction, and the face that follows it clockwise
abbrev pub wedge_of : HalfEdge → Wedge
wedge_of h = record { dir = leaving h; face = h.on_right }

-- the one of two that is last, clockwise from a direction; of equals the first
abbrev pub farther : Direction → Wedge → Wedge → Wedge
farther r x y = if is_nearer r x.dir y.dir then y else x

-- the last of those so far and one more, and of some more
abbrev pub last_with : Direction → Option Wedge → Wedge → Option Wedge
last_with r None y = Some y
last_with r (Some x) y = Some (farther r x y)

abbrev pub last_from : Direction → Option Wedge → List Wedge → Option Wedge
last_from r last [] = last
last_from r last (y ∷ ys) = last_from r (last_with r last y) ys

-- those of an edge that leave the node, and of some edges
abbrev pub only_if : Bool → Wedge → List Wedge
only_if b y = if b then y ∷ [] else []

abbrev pub wedges_of : ℕ → Edge → List Wedge
wedges_of n e = only_if (e.start_node == n) (wedge_of (forward_of e)) ++ only_if (e.end_node == n) (wedge_of (backward_of e))

abbrev pub wedges_in : ℕ → EdgeRow → List Wedge
wedges_in n row = wedges_of n (drawn_edge row)

abbrev pub wedges_at : ℕ → List EdgeRow → List Wedge
wedges_at n rows = flat_map (wedges_in n) rows

-- the face of the last one, or 0
abbrev pub face_of_last : Option Wedge → ℕ
face_of_last None = 0
face_of_last (Some x) = x.face

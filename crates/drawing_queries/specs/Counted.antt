-- How many steps the queries take at most.
use Rattle.std.specs.Prelude.{ℕ, ◌+◌, ◌*◌, ◌/◌, List, length}
use Rattle.std.specs.List.{sum_by}
use Rattle.topo_base.specs.Point.{Point}
use Rattle.topo_base.specs.declared.rows.EdgeRow.{EdgeRow}
use Rattle.drawing.specs.Tables.{Tables}

-- a point against an edge: its row, and each of its segments; a line against one: its row, and each two segments
abbrev pub point_steps : EdgeRow → ℕ
point_steps e = 1 + length e.geom

abbrev pub line_steps : List Point → EdgeRow → ℕ
line_steps line e = 1 + length line * length e.geom

-- a point against all nodes and edges; a line against all
abbrev pub all_point_steps : Tables → ℕ
all_point_steps t = length t.nodes + sum_by point_steps t.edges

abbrev pub all_line_steps : List Point → Tables → ℕ
all_line_steps line t = (1 + length line) * length t.nodes + sum_by (line_steps line) t.edges

-- the face of a point: a walk over the edges for every 4096 faces, and a look at each of these
abbrev pub face_steps : Tables → ℕ
face_steps t = (t.next_ids.face / 4096 + 1) * (sum_by point_steps t.edges + 4096)

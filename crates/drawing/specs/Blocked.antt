-- Where a node or a line would stand in the way.
use Rattle.std.specs.Prelude.{ℕ, Bool, not, ◌&&◌, ◌||◌, ◌==◌, List}
use Rattle.std.specs.List.{list_any, list_all}
use Rattle.topo_base.specs.Point.{Point, same_point}
use Rattle.topo_base.specs.declared.rows.NodeRow.{NodeRow}
use Rattle.plane.specs.Line.{on_line, is_inside_line, meets_at_own_ends, first_vertex, last_vertex}
use Rattle.drawing.specs.Drawing.{Drawing, Edge}

-- the point lies on an edge
abbrev pub is_on_edge : Drawing → Point → Bool
is_on_edge S p = list_any (λ (e : Edge). on_line p e.geom) S.edges

-- a point is blocked where it is a node's or lies on an edge
abbrev pub is_blocked : Drawing → Point → Bool
is_blocked S p = list_any (λ (n : NodeRow). same_point n.geom p) S.nodes || is_on_edge S p

-- the same, for this node's own move
abbrev pub is_blocked_for : Drawing → ℕ → Point → Bool
is_blocked_for S own p = list_any (λ (n : NodeRow). not (n.node_id == own) && same_point n.geom p) S.nodes || is_on_edge S p

-- a line is blocked where some point of it, other than its first and last vertex, is a node's or lies on an edge
abbrev pub is_line_blocked : Drawing → List Point → Bool
is_line_blocked S line =
    list_any (λ (n : NodeRow). is_inside_line n.geom line) S.nodes || not (list_all (λ (e : Edge). meets_at_own_ends line e.geom) S.edges)

-- the line begins at the one node's point and ends at the other's
abbrev pub goes_between : NodeRow → NodeRow → List Point → Bool
goes_between a b line = same_point (first_vertex line) a.geom && same_point (last_vertex line) b.geom

-- The row writes of sides and containing faces make what they say.
use Rattle.std.specs.Prelude.{◌≡◌, ℕ, IsTrue, List, map, flat_map}
use Rattle.topo_base.specs.Point.{Point}
use Rattle.topo_base.specs.declared.ids.Dart.{Dart}
use Rattle.topo_base.specs.declared.rows.Counters.{Counters}
use Rattle.drawing.specs.Drawing.{Edge, node_id_of}
use Rattle.drawing.specs.HalfEdge.{both_ways}
use Rattle.drawing.specs.Subdivision.{rows_in_order}
use Rattle.drawing.specs.Tables.{Tables, edge_row}
use Rattle.drawing.specs.Writes.{all_written}
use Rattle.face_parts.specs.Sides.{set_side, with_parts, in_part, node_writes}

-- an edge with other faces on its sides
abbrev pub with_sides : (Edge → ℕ) → (Edge → ℕ) → Edge → Edge
with_sides left right e = record e { left_face = left e; right_face = right e }

pub record SidesFollow : Type 0 where
  -- links do not depend on sides
  pub links : (left right : Edge → ℕ) (edges : List Edge) (e : Edge)
      → edge_row (flat_map both_ways (map (with_sides left right) edges)) (with_sides left right e) ≡ record (edge_row (flat_map both_ways edges) e) { left_face = left e; right_face = right e }
  -- some darts get the part that each has, whatever their order, and however often each of them is named
  pub edges : (n : Counters) (t : Tables) (part : Dart → ℕ) (darts : List Dart) → all_written n t (map (λ d. set_side (part d) d) darts) ≡ record t { edges = map (with_parts part darts) t.edges }
  -- the nodes in a face get the part that has their point
  pub nodes : (n : Counters) (t : Tables) (part : Point → ℕ) (f low next : ℕ) → IsTrue (rows_in_order node_id_of low next t.nodes)
      → all_written n t (node_writes part f t.nodes) ≡ record t { nodes = map (in_part part f) t.nodes }

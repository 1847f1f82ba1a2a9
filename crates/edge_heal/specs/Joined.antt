-- What is known of two edges that are healed at a node, by their rows.
use Rattle.std.specs.Prelude.{◌≡◌, ℕ, ◌==◌, Bool, if◌then◌else◌}
use Rattle.topo_base.specs.declared.ids.Dart.{Dart}
use Rattle.topo_base.specs.declared.rows.EdgeRow.{EdgeRow}
use Rattle.edge_heal.specs.Renamed.{healed_name}
use Rattle.edge_heal.specs.declared.joint.Healed.{Healed}

-- the joined edge has the names of the darts of these edges, healed at this node
pub record IsHealedAt (h : Healed) (r q : EdgeRow) (n : ℕ) : Type 0 where
  pub first : h.first ≡ r.edge_id
  pub second : h.second ≡ q.edge_id
  pub way : h.way ≡ (n == r.end_node)

-- what follows the edge of a row, walked this way
abbrev pub row_follower : EdgeRow → Bool → Dart
row_follower r way = if way then r.next_left_edge else r.next_right_edge

-- what follows the joined edge, walked on from the first edge to the second, by its new name
abbrev pub follows_on : EdgeRow → EdgeRow → ℕ → ℕ → Dart
follows_on r q n id = healed_name r.edge_id q.edge_id id (n == r.end_node) (row_follower q (q.start_node == n))

use Rattle.std.proofs.Common.{◌≡◌, length, map, take, vec_len}
use Rattle.topo_base.specs.declared.rows.NodeRow.{NodeRow}
use Rattle.drawing.specs.Tables.{drawn_edge}
use Rattle.validate_topology.specs.LinkLines.{has_edge}
use Rattle.validate_topology.proofs.link_lines.joined_nodes.Given as goal

abbrev pub invariant-loop-row : goal.invariant-loop-row
invariant-loop-row l = record {
  len : vec_len l.joined ≡ length l.nodes;
  joined : l.joined.items ≡ map (λ (n : NodeRow). has_edge (map drawn_edge (take l.row-index l.edges)) n.node_id) l.nodes;
}

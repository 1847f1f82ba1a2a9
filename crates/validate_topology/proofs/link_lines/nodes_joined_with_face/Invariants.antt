use Rattle.std.proofs.Common.{◌≡◌, ◌++◌, ℕ, Bool, map, take}
use Rattle.topo_base.specs.declared.rows.NodeRow.{NodeRow}
use Rattle.validate_topology.specs.LinkLines.{nodes_joined}
use Rattle.validate_topology.proofs.link_lines.nodes_joined_with_face.Given as goal

abbrev pub invariant-loop-index : goal.invariant-loop-index
invariant-loop-index l = (has : ℕ → Bool) → l.joined ≡ map (λ (n : NodeRow). has n.node_id) l.nodes → l.report ≡ l.fn.report ++ nodes_joined has (take l.index l.nodes)

use Rattle.std.proofs.Common.{◌≡◌, ◌++◌, ℕ, Bool, map, take}
use Rattle.topo_base.specs.declared.rows.NodeRow.{NodeRow}
use Rattle.validate_topology.specs.LinkLines.{nodes_isolated}
use Rattle.validate_topology.proofs.link_lines.nodes_isolated_without_face.Given as goal

abbrev pub invariant-loop-index : goal.invariant-loop-index
invariant-loop-index l = (has : ℕ → Bool) → l.joined ≡ map (λ (n : NodeRow). has n.node_id) l.nodes → l.report ≡ l.fn.report ++ nodes_isolated has (take l.index l.nodes)

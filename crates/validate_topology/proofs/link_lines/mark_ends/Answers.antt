use Rattle.std.proofs.Common.{◌∙◌, map, true, ◌==◌, if◌then◌else◌}
use Rattle.topo_base.specs.declared.rows.NodeRow.{NodeRow}
use Rattle.validate_topology.proofs.Ends.{marks_ends}
use Rattle.validate_topology.proofs.link_lines.mark_ends.Goals as goal

pub returns-clause-marked : goal.returns-clause-marked
returns-clause-marked c seen e =
    let a = c.args.row.now.start_node in
    let b = c.args.row.now.end_node in
    c.mark-2.ensures.marked (λ n. if n == a then true else seen n) (c.mark.ensures.marked seen e)
    ∙ (λ i. map (λ (n : NodeRow). marks_ends seen a b n.node_id i) c.args.nodes.now)

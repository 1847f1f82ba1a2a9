use Rattle.std.proofs.Common.{◌++◌, ◌∙◌, List, ap, map, sym}
use Rattle.topo_base.specs.declared.rows.NodeRow.{NodeRow}
use Rattle.drawing.specs.Tables.{drawn_edge}
use Rattle.validate_topology.specs.LinkLines.{has_edge, nodes_isolated, nodes_joined}
use Rattle.validate_topology.proofs.link_lines.node_lines.Goals as goal

pub returns : goal.returns
returns c =
    let has = has_edge (map drawn_edge c.args.edges.now) in
    let values = λ (rows : List NodeRow). map (λ (n : NodeRow). has n.node_id) rows in
    let first = c.in_ok-nodes_joined_with_face.ensures has (c.deref.ensures.value ∙ c.in_ok-joined.ensures.joined ∙ ap values (sym c.rows.ensures.rows)) in
    let second = c.in_ok-nodes_isolated_without_face.ensures has (c.deref-2.ensures.value ∙ c.in_ok-joined.ensures.joined ∙ ap values (sym c.rows-2.ensures.rows)) in
    second ∙ (λ i. (first ∙ (λ j. c.args.report.now ++ nodes_joined has (c.rows.ensures.rows j))) i ++ nodes_isolated has (c.rows-2.ensures.rows i))

use Rattle.std.proofs.Common.{◌∙◌, ap, false, length, map, replicate, take, List}
use Rattle.topo_base.specs.declared.rows.NodeRow.{NodeRow}
use Rattle.drawing.specs.Tables.{drawn_edge}
use Rattle.validate_topology.specs.LinkLines.{has_edge}
use Rattle.validate_topology.proofs.Ends.{has_more, none_marked}
use Rattle.validate_topology.proofs.link_lines.joined_nodes.Goals as goal

pub loop-row-init : goal.loop-row-init
loop-row-init c =
    let is = c.rows.ensures.rows in
    let made = c.in_ok-joined.ensures in
    record {
      len = made.len ∙ ap length is;
      joined = made.items_if_clones_equal (λ y e. e) ∙ ap (λ (rows : List NodeRow). replicate (length rows) false) is ∙ none_marked c.args.nodes.now;
    }

pub loop-row-preserved : goal.loop-row-preserved
loop-row-preserved c =
    let edges = c.args.edges.now in
    let i = c.loop-row.row-index in
    record {
      len = c.mark_ends.ensures.len ∙ c.loop-row.invariant.len;
      joined = c.mark_ends.ensures.marked (has_edge (map drawn_edge (take i edges))) c.loop-row.invariant.joined
          ∙ (λ j. map (λ (n : NodeRow). has_more edges i c.row-item.result n.node_id c.loop-row-test.true c.row-item.is j) c.args.nodes.now);
    }

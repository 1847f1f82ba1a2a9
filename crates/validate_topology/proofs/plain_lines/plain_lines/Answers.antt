use Rattle.std.proofs.Common.{◌++◌, ◌∙◌, List, map, refl, ap, subst}
use Rattle.topo_base.specs.declared.rows.NodeRow.{NodeRow}
use Rattle.topo_base.specs.declared.rows.EdgeRow.{EdgeRow}
use Rattle.validate_topology.specs.Conflicts.{AreCoincident, AreCrossing, IsNodeInside}
use Rattle.validate_topology.specs.Pairs.{AreAllOf}
use Rattle.validate_topology.specs.PlainLines.{coincident, crossed_edge, crossed_node, ends_mismatched, not_simple, starts_mismatched}
use Rattle.validate_topology.specs.Raw.{tables_in}
use Rattle.validate_topology.specs.declared.pairs.IdPair.{IdPair}
use Rattle.validate_topology.proofs.Pushing.{four_pushed}
use Rattle.validate_topology.proofs.plain_lines.plain_lines.Goals as goal

pub returns : goal.returns
returns g c =
    let t = tables_in c.args.raw.now in
    let found = c.in_ok-conflicts.conflicts in
    let on_edges = λ (rows : List EdgeRow). starts_mismatched t.nodes rows ++ ends_mismatched t.nodes rows ++ not_simple rows in (
      map coincident found.nodes.items ++ on_edges t.edges ++ map crossed_node found.inside.items ++ map crossed_edge found.edges.items,
      (
        record {
          nodes = found.nodes.items;
          inside = found.inside.items;
          edges = found.edges.items;
          nodes_are = subst (λ (xs : List NodeRow). AreAllOf (AreCoincident xs) found.nodes.items) c.rows.ensures.rows c.in_ok-conflicts.ensures.nodes;
          inside_are = subst (λ (xs : List NodeRow). AreAllOf (IsNodeInside xs t.edges) found.inside.items) c.rows.ensures.rows
              (subst (λ (xs : List EdgeRow). AreAllOf (IsNodeInside c.rows.result.now xs) found.inside.items) c.rows-edges.ensures.rows c.in_ok-conflicts.ensures.inside);
          edges_are = subst (λ (xs : List EdgeRow). AreAllOf (AreCrossing xs) found.edges.items) c.rows-edges.ensures.rows c.in_ok-conflicts.ensures.edges;
          all = refl;
        },
        four_pushed c.args.report.now _ _ _ _ (map coincident found.nodes.items) (on_edges t.edges) (map crossed_node found.inside.items) (map crossed_edge found.edges.items)
            (c.in_ok-coincident_nodes.ensures ∙ ap (λ (xs : List IdPair). c.args.report.now ++ map coincident xs) c.deref.ensures.value)
            (c.in_ok-edge_lines.ensures ∙ ap (λ (xs : List EdgeRow). c.coincident_nodes.new.report ++ on_edges xs) c.rows-edges.ensures.rows)
            (c.in_ok-edges_cross_node.ensures ∙ ap (λ (xs : List IdPair). c.edge_lines.new.report ++ map crossed_node xs) c.deref-2.ensures.value)
            (c.in_ok-edges_cross_edge.ensures ∙ ap (λ (xs : List IdPair). c.edges_cross_node.new.report ++ map crossed_edge xs) c.deref-3.ensures.value),
      ),
    )

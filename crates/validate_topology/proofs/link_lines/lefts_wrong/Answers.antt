use Rattle.std.proofs.Common.{◌∙◌, ◌++◌, ap}
use Rattle.topo_base.specs.declared.ids.Dart.{Dart}
use Rattle.topo_base.specs.declared.rows.EdgeRow.{EdgeRow}
use Rattle.drawing.specs.HalfEdge.{HalfEdge, forward_of, dart_of}
use Rattle.drawing.specs.Star.{next_of}
use Rattle.drawing.specs.Tables.{drawn_edge, edge_row}
use Rattle.validate_topology.specs.Following.{half_edges_of}
use Rattle.validate_topology.specs.LinkLines.{left_wrong}
use Rattle.validate_topology.proofs.Pushing.{lines_more}
use Rattle.validate_topology.proofs.SpokePlaces.{forward_at}
use Rattle.validate_topology.proofs.link_lines.lefts_wrong.Goals as goal

pub loop-index-preserved : goal.loop-index-preserved
loop-index-preserved c =
    let edges = c.args.edges.now in
    let hs = half_edges_of edges in
    let i = c.loop-index.index in
    let row = c.index-edges-index.result in
    let d = forward_of (drawn_edge row) in
    let next = c.next_dart-next.ensures hs d c.requires.sides c.requires.next ∙ ap (λ (k : HalfEdge). dart_of (next_of hs k)) (forward_at edges i row d c.loop-index-test.true c.index-edges-index.is) in
    lines_more (λ (e : EdgeRow). left_wrong e.edge_id e.next_left_edge (edge_row hs (drawn_edge e)).next_left_edge) edges i row c.args.report.now c.loop-index.report c.left_wrong.new.report c.loop-index-test.true c.index-edges-index.is
    c.loop-index.invariant (c.in_ok-left_wrong.ensures ∙ ap (λ (n : Dart). c.loop-index.report ++ left_wrong row.edge_id row.next_left_edge n) next)

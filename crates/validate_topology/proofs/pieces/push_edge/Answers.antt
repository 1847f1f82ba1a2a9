use Rattle.std.proofs.Common.{arith}
use Rattle.validate_topology.proofs.PieceOrder.{edge_done, edge_more}
use Rattle.validate_topology.proofs.pieces.push_edge.Goals as goal

pub loop-index-preserved : goal.loop-index-preserved
loop-index-preserved c =
    edge_more c.args.row.now c.vertices-vertices.result.now c.loop-index.index c.index-vertices-index.result c.index-vertices-index-in-loop-index.result c.first_of.result c.last_of.result
    c.loop-index.pieces.items c.push.new.self.items _ c.vertices-vertices.ensures.vertices (omega (arith, c.loop-index-test.true)) c.index-vertices-index.is
    c.index-vertices-index-in-loop-index.is c.first_of.ensures c.last_of.ensures c.in_ok-push.ensures.items c.loop-index.invariant

pub returns : goal.returns
returns c =
    edge_done c.args.row.now c.vertices-vertices.result.now c.loop-index.index c.loop-index.pieces.items _ c.vertices-vertices.ensures.vertices (omega (arith, c.loop-index-test.false))
    c.loop-index.invariant

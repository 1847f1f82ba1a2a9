use Rattle.std.proofs.Common.{◌≡◌, ◌++◌, drop, map}
use Rattle.plane.specs.Line.{segments_of}
use Rattle.validate_topology.specs.Pieces.{edge_piece, edge_pieces}
use Rattle.validate_topology.proofs.pieces.push_edge.Given as goal

abbrev pub invariant-loop-index : goal.invariant-loop-index
invariant-loop-index l = l.pieces.items ++ map (edge_piece l.row) (segments_of (drop l.index l.row.geom)) ≡ l.fn.pieces.items ++ edge_pieces l.row

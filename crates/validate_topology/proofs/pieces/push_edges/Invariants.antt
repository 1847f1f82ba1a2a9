use Rattle.std.proofs.Common.{◌≡◌, ◌++◌, flat_map, take}
use Rattle.validate_topology.specs.Pieces.{edge_pieces}
use Rattle.validate_topology.proofs.pieces.push_edges.Given as goal

abbrev pub invariant-loop-row : goal.invariant-loop-row
invariant-loop-row l = l.pieces.items ≡ l.fn.pieces.items ++ flat_map edge_pieces (take l.row-index l.rows)

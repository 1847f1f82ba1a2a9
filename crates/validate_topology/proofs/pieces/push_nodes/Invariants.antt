use Rattle.std.proofs.Common.{◌≡◌, ◌++◌, map, take}
use Rattle.validate_topology.specs.Pieces.{node_piece}
use Rattle.validate_topology.proofs.pieces.push_nodes.Given as goal

abbrev pub invariant-loop-row : goal.invariant-loop-row
invariant-loop-row l = l.pieces.items ≡ l.fn.pieces.items ++ map node_piece (take l.row-index l.rows)

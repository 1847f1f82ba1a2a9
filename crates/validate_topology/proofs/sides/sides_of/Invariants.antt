use Rattle.std.proofs.Common.{◌≡◌, ◌*◌, map, take, vec_len}
use Rattle.validate_topology.specs.Following.{half_edge, half_edges_of}
use Rattle.validate_topology.proofs.sides.sides_of.Given as goal

abbrev pub invariant-loop-row : goal.invariant-loop-row
invariant-loop-row l = record {
  len : vec_len l.sides ≡ 2 * l.row-index;
  halves : map half_edge l.sides.items ≡ half_edges_of (take l.row-index l.edges);
}

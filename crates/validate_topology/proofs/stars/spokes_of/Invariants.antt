use Rattle.std.proofs.Common.{◌≡◌, ◌*◌, take, vec_len}
use Rattle.std.specs.Prelude.{All}
use Rattle.drawing.specs.HalfEdge.{HalfEdge}
use Rattle.validate_topology.specs.Following.{IsSpokeOf, half_edges_of, halves_at}
use Rattle.validate_topology.proofs.stars.spokes_of.Given as goal

abbrev pub invariant-loop-index : goal.invariant-loop-index
invariant-loop-index l = record {
  len : vec_len l.spokes ≡ 2 * l.index;
  each : All (IsSpokeOf (half_edges_of l.edges)) l.spokes.items;
  halves : (d : HalfEdge) → halves_at (half_edges_of l.edges) d l.spokes.items ≡ half_edges_of (take l.index l.edges);
}

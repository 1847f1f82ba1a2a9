use Rattle.std.proofs.Common.{◌≡◌, ◌+◌, ◌≤◌, ℕ, vec_len}
use Rattle.validate_topology.specs.Following.{AreWithin, half_edges_of}
use Rattle.validate_topology.specs.declared.stars.Spoke.{Spoke}
use Rattle.validate_topology.proofs.NextPlaces.{AreRight, IsBegun}
use Rattle.validate_topology.proofs.stars.followers_of.Given as goal

abbrev pub invariant-loop-index : goal.invariant-loop-index
invariant-loop-index l = record {
  first : l.first ≤ l.index;
  len : vec_len l.places ≡ vec_len l.spokes;
  within : AreWithin (vec_len l.spokes) l.places.items;
  begun : (s : Spoke) (i : ℕ) → i + 1 ≡ l.index → IsBegun l.spokes.items s l.first i;
  right : (s : Spoke) → AreRight (half_edges_of l.edges) l.spokes.items s l.places.items l.index;
}

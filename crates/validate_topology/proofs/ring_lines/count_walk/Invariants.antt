use Rattle.std.proofs.Common.{◌≡◌, ℕ, take, vec_len}
use Rattle.validate_topology.specs.Tallies.{AreTallies, with_ring}
use Rattle.validate_topology.specs.Walks.{halves_of}
use Rattle.validate_topology.specs.declared.ring_lines.Tally.{Tally}
use Rattle.validate_topology.proofs.ring_lines.count_walk.Given as goal

abbrev pub invariant-loop-side : goal.invariant-loop-side
invariant-loop-side l = record {
  len : vec_len l.tallies ≡ vec_len l.fn.tallies;
  counted : (tally : ℕ → Tally) → AreTallies tally l.faces l.fn.tallies.items → AreTallies (with_ring l.ring (halves_of (take l.side-index l.walk.sides.items)) tally) l.faces l.tallies.items;
}

use Rattle.std.proofs.Common.{◌≡◌, ◌+◌, length, vec_len}
use Rattle.validate_topology.proofs.Counting.{AreCounted}
use Rattle.validate_topology.proofs.ring_lines.shells_of.Given as goal

abbrev pub invariant-loop-ring : goal.invariant-loop-ring
invariant-loop-ring l = record {
  len : vec_len l.tallies ≡ length l.faces + 1;
  counted : AreCounted l.faces l.walks l.ring l.tallies.items;
}

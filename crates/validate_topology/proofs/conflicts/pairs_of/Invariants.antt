use Rattle.std.proofs.Common.{◌≡◌, take}
use Rattle.validate_topology.specs.Pieces.{pairs_of_kind}
use Rattle.validate_topology.proofs.conflicts.pairs_of.Given as goal

abbrev pub invariant-loop-conflict : goal.invariant-loop-conflict
invariant-loop-conflict l = l.pairs.items ≡ pairs_of_kind l.kind (take l.conflict-index l.conflicts)

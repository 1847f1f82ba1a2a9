use Rattle.std.proofs.Common.{drop}
use Rattle.std.specs.Prelude.{Contains}
use Rattle.validate_topology.specs.Pieces.{IsOfTwo}
use Rattle.validate_topology.specs.declared.conflicts.Conflict.{Conflict}
use Rattle.validate_topology.proofs.Sweeping.{StillAllFound}
use Rattle.validate_topology.proofs.sweep.compare_each.Given as goal

abbrev pub invariant-loop-index : goal.invariant-loop-index
invariant-loop-index g l = record {
  all : StillAllFound (drop l.index l.pieces) l.pieces l.found.items;
  only : (c : Conflict) → Contains l.found.items c → IsOfTwo l.pieces c;
}

use Rattle.std.proofs.Common.{◌⊎◌, drop}
use Rattle.std.specs.Prelude.{Contains}
use Rattle.validate_topology.specs.Pieces.{AreAmong, IsOfOne}
use Rattle.validate_topology.specs.declared.conflicts.Conflict.{Conflict}
use Rattle.validate_topology.proofs.Sweeping.{StillFound}
use Rattle.validate_topology.proofs.sweep.compare_all.Given as goal

abbrev pub invariant-loop-other : goal.invariant-loop-other
invariant-loop-other g l = record {
  kept : AreAmong l.fn.found.items l.found.items;
  all : StillFound l.one (drop l.other-index l.others) l.others l.found.items;
  only : (c : Conflict) → Contains l.found.items c → Contains l.fn.found.items c ⊎ IsOfOne l.one l.others c;
}

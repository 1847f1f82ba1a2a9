use Rattle.std.proofs.Common.{◌≡◌, take}
use Rattle.validate_topology.specs.BoxLines.{box_of_all}
use Rattle.validate_topology.proofs.place_lines.widest.Given as goal

abbrev pub invariant-loop-point : goal.invariant-loop-point
invariant-loop-point l = l.wide ≡ box_of_all l.fn.mbr (take l.point-index l.points)

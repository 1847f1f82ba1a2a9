use Rattle.std.proofs.Common.{◌≡◌, drop}
use Rattle.plane.proofs.Walks.{any_turn}
use Rattle.plane.specs.ClosedWalk.{turns_below}
use Rattle.grid_rays.proofs.shells.is_shell.Given as goal

abbrev pub invariant-loop-i : goal.invariant-loop-i
invariant-loop-i l = any_turn (turns_below l.top) (drop l.i l.vertices) ≡ any_turn (turns_below l.top) l.vertices

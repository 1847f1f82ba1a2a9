use Rattle.std.proofs.Common.{◌≡◌, drop}
use Rattle.plane.specs.Line.{segments_of}
use Rattle.plane.specs.Parity.{xor, is_odd_over}
use Rattle.plane.specs.ClosedWalk.{closed_segments}
use Rattle.grid_rays.proofs.inner.inside.Given as goal

abbrev pub invariant-loop-i : goal.invariant-loop-i
invariant-loop-i l = xor l.odd (is_odd_over l.p (segments_of (drop l.i l.vertices))) ≡ is_odd_over l.p (closed_segments l.vertices)

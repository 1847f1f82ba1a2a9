use Rattle.std.proofs.Common.{◌≡◌, ◌+◌, ◌≤◌, length, drop}
use Rattle.std.specs.Prelude.{count_by}
use Rattle.plane.specs.Line.{segments_of}
use Rattle.plane.specs.Parity.{is_over}
use Rattle.grid_rays.proofs.above.crossings_above.Given as goal

abbrev pub invariant-loop-i : goal.invariant-loop-i
invariant-loop-i g l = record {
  count : l.count + count_by (is_over l.p) (segments_of (drop l.i l.vertices)) ≡ count_by (is_over l.p) (segments_of l.vertices);
  below : l.count ≤ l.i;
  steps : l.steps + length (segments_of (drop l.i l.vertices)) ≡ l.fn.steps + length (segments_of l.vertices);
}

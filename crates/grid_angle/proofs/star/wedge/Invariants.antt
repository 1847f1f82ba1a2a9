use Rattle.std.proofs.Common.{◌≡◌, ℕ, ◌+◌, ◌<◌, ◌⊎◌}
use Rattle.plane.proofs.Wedges.{IsBefore}
use Rattle.grid_angle.proofs.star.wedge.Given as goal

abbrev pub invariant-loop-i : goal.invariant-loop-i
invariant-loop-i l = record {
  last : (l.i ≡ 0) ⊎ (l.i ≡ l.last + 1);
  before : (k : ℕ) → k < l.i → IsBefore l.star l.dir k;
}

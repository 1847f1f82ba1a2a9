use Rattle.std.proofs.Common.{◌≡◌, ℕ, ◌<◌, false, get_or}
use Rattle.plane.specs.Direction.{is_nearer, straight_up}
use Rattle.plane.specs.Wedge.{no_direction}
use Rattle.edge_links.proofs.star.place_for.Given as goal

-- none of those before this index comes after the direction
abbrev pub invariant-loop-index : goal.invariant-loop-index
invariant-loop-index l = (k : ℕ) → k < l.index → is_nearer straight_up l.dir (get_or l.dirs k no_direction) ≡ false

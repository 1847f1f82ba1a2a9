use Rattle.std.proofs.Common.{◌≡◌, ℕ, ◌<◌, false, get_or}
use Rattle.topo_base.specs.Darts.{same_dart}
use Rattle.edge_links.proofs.links.place_of.Given as goal

-- none of those before this index is the dart
abbrev pub invariant-loop-index : goal.invariant-loop-index
invariant-loop-index l = (k : ℕ) → k < l.index → same_dart l.dart (get_or l.darts k l.dart) ≡ false

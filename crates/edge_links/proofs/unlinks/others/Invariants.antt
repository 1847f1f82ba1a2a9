use Rattle.std.proofs.Common.{◌≡◌, ◌++◌, drop}
use Rattle.edge_links.specs.Unlinks.{others}
use Rattle.edge_links.proofs.unlinks.others.Given as goal

-- those so far and those still to come are all of them
abbrev pub invariant-loop-dart : goal.invariant-loop-dart
invariant-loop-dart l = l.rest.items ++ others l.edge (drop l.dart-index l.darts) ≡ others l.edge l.darts

use Rattle.std.proofs.Common.{◌≡◌, ◌++◌, drop, map}
use Rattle.edge_links.specs.Links.{dart_after, link_back}
use Rattle.edge_links.specs.Unlinks.{others, before_gone, unlinks_round}
use Rattle.edge_links.proofs.unlinks.unlink_writes.Given as goal

-- the writes so far and those still to come are all of them
abbrev pub invariant-loop-index : goal.invariant-loop-index
invariant-loop-index l = l.writes ++ map (λ d. link_back d (dart_after d (others l.edge l.darts))) (before_gone l.edge l.darts (drop l.index l.darts)) ≡ unlinks_round l.edge l.darts

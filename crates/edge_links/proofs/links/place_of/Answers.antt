use Rattle.std.proofs.Common.{sym, ◌∙◌}
use Rattle.topo_base.specs.Darts.{same_dart}
use Rattle.edge_links.proofs.Places.{first_at, none_at_all}
use Rattle.edge_links.proofs.links.place_of.Goals as goal

pub returns-then-is_same_dart : goal.returns-then-is_same_dart
returns-then-is_same_dart c =
    first_at (same_dart c.args.dart.now) c.args.darts.now c.loop-index.index c.args.dart.now c.index-darts-index.result c.loop-index-test.true c.loop-index.invariant c.index-darts-index.is
    (sym c.is_same_dart.ensures ∙ c.if-is_same_dart.true)

pub returns : goal.returns
returns c = none_at_all (same_dart c.args.dart.now) c.args.darts.now c.loop-index.index c.args.dart.now c.loop-index.auto.index-end c.loop-index-test.false c.loop-index.invariant

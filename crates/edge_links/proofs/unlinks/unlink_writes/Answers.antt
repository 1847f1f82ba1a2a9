use Rattle.std.proofs.Common.{◌+◌, drop, ◌∙◌}
use Rattle.edge_links.proofs.Gone.{before_stays}
use Rattle.edge_links.proofs.unlinks.unlink_writes.Goals as goal

pub dart_after-requires : goal.dart_after-requires
dart_after-requires c =
    before_stays c.args.edge c.darts-darts.result.now c.deref.result.now (drop (c.loop-index.index + 1) c.darts-darts.result.now) c.index-darts-index.result c.loop-index.index c.stands_before.result
    c.loop-index-test.true c.index-darts-index.is (c.stands_before.ensures c.index-darts-index.result c.index-darts-index.is) c.if-stands_before.true (c.deref.ensures.value ∙ c.in_ok-rest.ensures)

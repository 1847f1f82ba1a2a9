use Rattle.std.proofs.Common.{rules, tests, ◌∙◌}
use Rattle.std.proofs.lemmas.Iterator.{YieldsList-from_slice}
use Rattle.std.proofs.lemmas.Iterator.Consumers.{count_from_yields_List, YieldsList-from_filter, YieldsList-at}
use Rattle.std.proofs.lemmas.List.Sums.{length-filter}
use Rattle.topo_tables.specs.Room.{adds_relation}
use Rattle.topo_tables.proofs.reserve.relations_added.Goals as goal

pub returns : goal.returns
returns c =
    count_from_yields_List c.filter.result _ c.count.ensures.ran
    (YieldsList-from_filter _ adds_relation (YieldsList-at c.filter.ensures.source (YieldsList-from_slice c.args.writes.now cc)) c.filter.ensures.closure (λ x b q k. search (rules, tests)))
    ∙ length-filter adds_relation c.args.writes.now

use Rattle.topo.proofs.Statuses.{means, complete}
use Rattle.topo.proofs.solo.solo.Goals as goal

pub returns-clause-means : goal.returns-clause-means
returns-clause-means g c = means _ _ _ _ _ _ _ _ _ _ c.solo_counted.ensures

pub returns-clause-complete : goal.returns-clause-complete
returns-clause-complete g c = complete _ _ _ _ _ _ _ _ _ _ c.solo_counted.ensures

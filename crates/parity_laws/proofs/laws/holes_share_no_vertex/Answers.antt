use Rattle.parity_laws.proofs.Neighbours.{no_two_holes}
use Rattle.parity_laws.proofs.laws.holes_share_no_vertex.Goals as goal

pub returns : goal.returns
returns c = λ T p q a b d hp hq op oq n i j pa qb e la lb. no_two_holes T p q a b d hp hq op oq n i j pa qb e la lb

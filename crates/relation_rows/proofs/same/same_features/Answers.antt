use Rattle.relation_rows.proofs.SameFeatures.{shared_by}
use Rattle.relation_rows.proofs.same.same_features.Goals as goal

pub returns-clause-shared : goal.returns-clause-shared
returns-clause-shared c = shared_by c.args.a.now c.args.b.now c.have_same_ids.result (rw (c.as_slice.ensures, c.as_slice-2.ensures) at c.have_same_ids.ensures)

use Rattle.read_set.proofs.Drafting.{drafted_more, on_ok}
use Rattle.read_set.proofs.draft.Draft.write_all.Goals as goal

pub returns-clause-drafted : goal.returns-clause-drafted
returns-clause-drafted g c = λ S h. on_ok _ _ _ (λ made. drafted_more S c.args.self.now _ c.args.writes h c.requires.can made) c.make_all.ensures

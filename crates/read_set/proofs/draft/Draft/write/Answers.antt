use Rattle.std.proofs.Common.{[], ◌∷◌}
use Rattle.read_set.proofs.Drafting.{drafted_more, on_ok}
use Rattle.read_set.proofs.draft.Draft.write.Goals as goal

pub returns-clause-drafted : goal.returns-clause-drafted
returns-clause-drafted g c = λ S h. on_ok _ _ _ (λ made. drafted_more S c.args.self.now _ (c.args.one ∷ []) h (c.requires.can, tt) made) c.make.ensures

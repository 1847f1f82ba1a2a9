use Rattle.std.proofs.Common.{rules, tests, not}
use Rattle.std.proofs.lemmas.Fn.{filter_same}
use Rattle.slab_index.specs.Pieces.{is_gone}
use Rattle.slab_index.proofs.slabs.drop_gone.Goals as goal

pub returns-clause-pieces : goal.returns-clause-pieces
returns-clause-pieces c = filter_same _ (λ e. not (is_gone c.args.gone.now e)) _ (λ x b q k. search (rules, tests)) _ _ c.retain.ensures.filtered

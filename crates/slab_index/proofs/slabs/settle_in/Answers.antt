use Rattle.std.proofs.Common.{◌++◌, ap, subst, ◌∙◌, not}
use Rattle.std.specs.Prelude.{filter}
use Rattle.slab_index.specs.Pieces.{is_gone}
use Rattle.std.specs.List.Sorted.{IsPermutation}
use Rattle.slab_index.proofs.slabs.settle_in.Goals as goal

pub returns-clause-kept : goal.returns-clause-kept
returns-clause-kept c =
    let k = ap (λ l. l ++ c.drop_in.new.slab.coming.items) c.drop_in.ensures.kept ∙ ap (λ l. filter (λ e. not (is_gone c.args.gone.now e)) c.args.slab.now.kept.items ++ l) c.drop_in.ensures.coming in
    subst (λ l. IsPermutation l c.keep_in.new.slab.kept.items) k c.keep_in.ensures.kept

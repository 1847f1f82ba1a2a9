use Rattle.relation_rows.specs.Elements.{type_of, number_of}
use Rattle.relation_rows.proofs.Merging.{result_merged}
use Rattle.relation_rows.proofs.merge.follow_merge.Goals as goal

pub returns-clause-merged : goal.returns-clause-merged
returns-clause-merged c =
    result_merged (type_of c.args.gone) c.args.kept (number_of c.args.gone) c.args.features.now c.follow_split.result
    (rw c.as_slice.ensures at c.follow_split.ensures.follows)

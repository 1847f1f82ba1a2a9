use Rattle.relation_rows.specs.Elements.{type_of, number_of}
use Rattle.relation_rows.proofs.Allowing.{result_can}
use Rattle.relation_rows.proofs.Writing.{result_follows}
use Rattle.relation_rows.proofs.split.follow_split.Goals as goal

pub returns-clause-follows : goal.returns-clause-follows
returns-clause-follows c =
    result_follows (type_of c.args.old) (number_of c.args.old) c.args.parts.now c.args.features.now c.replace_all.result
    (rw (c.type_of.ensures, c.number_of.ensures, c.as_slice.ensures) at c.replace_all.ensures)

pub returns-clause-can : goal.returns-clause-can
returns-clause-can c =
    result_can (type_of c.args.old) (number_of c.args.old) c.args.parts.now c.args.features.now c.replace_all.result
    (rw (c.type_of.ensures, c.number_of.ensures, c.as_slice.ensures) at c.replace_all.ensures)

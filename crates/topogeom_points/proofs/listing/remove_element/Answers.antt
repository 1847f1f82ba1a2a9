use Rattle.std.proofs.Common.{Ok, refl, rules}
use Rattle.topo_base.specs.declared.edit.Edit.TheVariants.{RemElement}
use Rattle.drawing.specs.Tables.{drawn}
use Rattle.read_set.proofs.Keeping.{answer_keeps}
use Rattle.topogeom_points.proofs.listing.remove_element.Goals as goal

pub returns-clause-answer : goal.returns-clause-answer
returns-clause-answer g c = search rules

pub returns-clause-kept : goal.returns-clause-kept
returns-clause-kept g c =
    answer_keeps (drawn c.args.tables.now.rows) (RemElement c.args.feature c.args.pair.id c.args.pair.element_type) _ (Ok c.in_ok-row_leaves.field-0) refl (returns-clause-answer g c)

use Rattle.std.proofs.Common.{Ok, refl, rules}
use Rattle.topo_base.specs.declared.edit.Edit.TheVariants.{AddLayer}
use Rattle.drawing.specs.Tables.{drawn}
use Rattle.read_set.proofs.Keeping.{answer_keeps}
use Rattle.topogeom_points.proofs.layers.add_layer.Goals as goal

pub returns-in_ok-with_level-in-None-clause-answer : goal.returns-in_ok-with_level-in-None-clause-answer
returns-in_ok-with_level-in-None-clause-answer g c = search rules

pub returns-in_ok-with_level-in-None-clause-kept : goal.returns-in_ok-with_level-in-None-clause-kept
returns-in_ok-with_level-in-None-clause-kept g c =
    answer_keeps (drawn c.args.tables.now.rows) (AddLayer c.args.name.now c.args.kind c.args.child) _ (Ok c.in_ok-with_level-in-None.field-0) refl (returns-in_ok-with_level-in-None-clause-answer g c)

pub returns-in-Some-clause-answer : goal.returns-in-Some-clause-answer
returns-in-Some-clause-answer g c = search rules

pub returns-in-Some-clause-kept : goal.returns-in-Some-clause-kept
returns-in-Some-clause-kept g c = answer_keeps (drawn c.args.tables.now.rows) (AddLayer c.args.name.now c.args.kind c.args.child) _ c.on_child.result refl (returns-in-Some-clause-answer g c)

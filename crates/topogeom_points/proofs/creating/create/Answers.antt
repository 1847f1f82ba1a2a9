use Rattle.std.proofs.Common.{refl, Ok, rules}
use Rattle.drawing.specs.Drawing.{layer_id_of}
use Rattle.topogeom_points.proofs.Found.{found_row, own_there}
use Rattle.read_set.proofs.Keeping.{answer_keeps}
use Rattle.drawing.specs.Tables.{drawn}
use Rattle.topo_base.specs.declared.edit.Edit.TheVariants.{CreateTopoGeom}
use Rattle.topogeom_points.proofs.creating.create.Goals as goal

pub with_feature-requires-clause-there : goal.with_feature-requires-clause-there
with_feature-requires-clause-there g c =
    let rows = c.args.tables.now.rows.layers in
    own_there layer_id_of rows c.args.layer (c.in-Some.row.now) (found_row layer_id_of c.layer.result c.in-Some.row rows rows c.args.layer c.in-Some.is c.layer.ensures.row refl)

pub returns-in_ok-with_feature-in-None-clause-answer : goal.returns-in_ok-with_feature-in-None-clause-answer
returns-in_ok-with_feature-in-None-clause-answer g c = search rules

pub returns-in_ok-with_feature-in-None-clause-kept : goal.returns-in_ok-with_feature-in-None-clause-kept
returns-in_ok-with_feature-in-None-clause-kept g c =
    answer_keeps (drawn c.args.tables.now.rows) (CreateTopoGeom c.args.layer c.args.pairs.now) _ (Ok c.in_ok-with_feature-in-None.field-0) refl (returns-in_ok-with_feature-in-None-clause-answer g c)

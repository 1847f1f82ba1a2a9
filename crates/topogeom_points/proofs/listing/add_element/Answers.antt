use Rattle.std.proofs.Common.{refl, rules}
use Rattle.drawing.specs.Drawing.{feature_id_of, layer_id_of}
use Rattle.topogeom_points.proofs.Found.{found_row, own_there}
use Rattle.read_set.proofs.Keeping.{answer_keeps}
use Rattle.drawing.specs.Tables.{drawn}
use Rattle.topo_base.specs.declared.edit.Edit.TheVariants.{AddElement}
use Rattle.topogeom_points.proofs.listing.add_element.Goals as goal

pub add_to-requires-clause-feature : goal.add_to-requires-clause-feature
add_to-requires-clause-feature g c =
    let there = c.args.tables.now.rows.features in
    let rows = c.args.tables.now.rows.features in
    own_there feature_id_of rows c.args.feature (c.in-Some.row.now)
    (found_row feature_id_of c.feature.result c.in-Some.row there rows c.args.feature c.in-Some.is c.feature.ensures.row refl)

pub add_to-requires-clause-layer : goal.add_to-requires-clause-layer
add_to-requires-clause-layer g c =
    let there = c.args.tables.now.rows.layers in
    let rows = c.args.tables.now.rows.layers in
    own_there layer_id_of rows c.in-Some.row.now.layer_id (c.in-Some-layer.layer.now)
    (found_row layer_id_of c.layer.result c.in-Some-layer.layer there rows c.in-Some.row.now.layer_id c.in-Some-layer.is c.layer.ensures.row refl)

pub returns-clause-answer : goal.returns-clause-answer
returns-clause-answer g c = search rules

pub returns-clause-kept : goal.returns-clause-kept
returns-clause-kept g c = answer_keeps (drawn c.args.tables.now.rows) (AddElement c.args.feature c.args.pair.id c.args.pair.element_type) _ c.add_to.result refl (returns-clause-answer g c)

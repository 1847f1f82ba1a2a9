use Rattle.std.proofs.Common.{◌≡◌, refl, ap, arith, Some}
use Rattle.topo_base.specs.declared.rows.LayerRow.{LayerRow}
use Rattle.drawing.specs.Drawing.{layer_at, layer_id_of}
use Rattle.drawing.specs.Tables.{Tables, drawn}
use Rattle.topogeom_points.proofs.Found.{found_row, own_there}
use Rattle.topogeom_points.proofs.Levels.{level_below}
use Rattle.topogeom_points.proofs.layers.on_child.Goals as goal

pub overflow_add-level : goal.overflow_add-level
overflow_add-level g c =
    let S = drawn c.args.tables.now.rows in
    let row : LayerRow = c.in-Some.row.now in
    let found : layer_at S c.args.child ≡ Some row =
    found_row layer_id_of c.layer.result c.in-Some.row c.args.tables.now.rows.layers S.layers c.args.child c.in-Some.is c.layer.ensures.row refl in
    let small = level_below S c.args.child row c.requires.ready.ids c.requires.ready.references found in
    let more = c.requires.ready.layer_more in
    omega arith

pub with_level-requires-clause-there : goal.with_level-requires-clause-there
with_level-requires-clause-there g c =
    let layers = c.args.tables.now.rows.layers in
    let row : LayerRow = c.in-Some.row.now in
    own_there layer_id_of layers c.args.child row (found_row layer_id_of c.layer.result c.in-Some.row layers layers c.args.child c.in-Some.is c.layer.ensures.row refl)

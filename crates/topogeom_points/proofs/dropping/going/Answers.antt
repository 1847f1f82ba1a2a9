use Rattle.std.proofs.Common.{List, [], ◌∷◌, ◌++◌, ap, ◌∙◌}
use Rattle.topo_base.specs.declared.rows.RelationRow.{RelationRow}
use Rattle.topo_base.specs.declared.write.RowId.TheVariants.{Old}
use Rattle.topo_base.specs.declared.write.RowWrite.TheVariants.{DropFeature}
use Rattle.drawing.specs.Tables.{drawn}
use Rattle.topogeom_points.specs.Rows.{rows_go}
use Rattle.topogeom_points.proofs.FeatureGoes.{feature_goes}
use Rattle.topogeom_points.proofs.dropping.going.Goals as goal

pub returns : goal.returns
returns g c =
    let f = c.args.feature in
    feature_goes (drawn c.args.tables.now.rows) f (record { writes = c.in_ok-going_writes.field-0; ids = c.one_id.result }) c.requires.ready c.requires.there
    (c.in_ok-going_writes.ensures ∙ ap (λ (rows : List RelationRow). rows_go f rows ++ DropFeature (Old f) ∷ []) c.relations.ensures) c.one_id.ensures

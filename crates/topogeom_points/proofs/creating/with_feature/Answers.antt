use Rattle.std.proofs.Common.{◌≡◌, ℕ, [], ◌∷◌, ap, ◌∙◌}
use Rattle.topo_base.specs.declared.rows.Counters.{Counters}
use Rattle.topo_base.specs.declared.rows.LayerRow.{LayerRow}
use Rattle.topo_base.specs.declared.write.RowId.TheVariants.{Old}
use Rattle.topo_base.specs.declared.write.RowWrite.TheVariants.{AddFeature}
use Rattle.drawing.specs.Outcome.{the_feature}
use Rattle.drawing.specs.Tables.{drawn}
use Rattle.topogeom_points.specs.Rows.{rows_come}
use Rattle.topogeom_points.proofs.FeatureComes.{feature_comes}
use Rattle.topogeom_points.proofs.creating.with_feature.Goals as goal

pub returns : goal.returns
returns c =
    let S = drawn c.args.tables.now.rows in
    let layer : LayerRow = c.args.layer.now in
    let xs = c.args.pairs.now in
    let next : c.counters-feature.result.feature ≡ S.next_ids.feature = ap (λ (n : Counters). n.feature) c.counters-feature.ensures in
    feature_comes S layer xs (record { writes = c.in_ok-writes.writes; ids = c.one_id.result }) c.requires.ready c.requires.there
    (c.in_ok-writes.ensures ∙ ap (λ (k : ℕ). AddFeature (Old k) (Old layer.layer_id) ∷ rows_come k layer.layer_id xs) next)
    (c.one_id.ensures ∙ ap (λ (k : ℕ). the_feature k ∷ []) next)

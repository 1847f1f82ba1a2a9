use Rattle.std.proofs.Common.{◌≡◌, ◌∷◌, take}
use Rattle.topo_base.specs.declared.write.RowId.TheVariants.{Old}
use Rattle.topo_base.specs.declared.write.RowWrite.TheVariants.{AddFeature}
use Rattle.topogeom_points.specs.Rows.{rows_come}
use Rattle.topogeom_points.proofs.creating.row_writes.Given as goal

-- the feature comes, and the rows of the elements so far
abbrev pub invariant-loop-pair : goal.invariant-loop-pair
invariant-loop-pair l = l.writes ≡ AddFeature (Old l.feature) (Old l.fn.layer) ∷ rows_come l.feature l.fn.layer (take l.pair-index l.pairs)

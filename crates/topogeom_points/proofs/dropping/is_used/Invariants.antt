use Rattle.std.proofs.Common.{◌≡◌, drop}
use Rattle.std.specs.List.{list_any}
use Rattle.drawing.specs.Relations.{lists_feature}
use Rattle.drawing.specs.Tables.{drawn}
use Rattle.topogeom_points.proofs.dropping.is_used.Given as goal

-- none of the rows before this one lists the feature
abbrev pub invariant-loop-row : goal.invariant-loop-row
invariant-loop-row g l =
    list_any (lists_feature (drawn l.tables.rows) l.feature) l.rows ≡ list_any (lists_feature (drawn l.tables.rows) l.feature) (drop l.row-index l.rows)

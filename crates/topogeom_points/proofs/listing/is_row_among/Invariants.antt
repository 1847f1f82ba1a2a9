use Rattle.std.proofs.Common.{◌≡◌, drop}
use Rattle.std.specs.List.{list_any}
use Rattle.drawing.specs.Relations.{same_row}
use Rattle.topogeom_points.proofs.listing.is_row_among.Given as goal

-- none of the rows before this one is it
abbrev pub invariant-loop-other : goal.invariant-loop-other
invariant-loop-other g l = list_any (same_row l.row) l.rows ≡ list_any (same_row l.row) (drop l.other-index l.rows)

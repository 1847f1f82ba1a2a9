use Rattle.std.proofs.Common.{◌≡◌, drop}
use Rattle.std.specs.List.{list_any}
use Rattle.drawing.specs.Layers.{same_pair}
use Rattle.topogeom_points.proofs.pairs.is_among.Given as goal

-- none of the elements before this one is it
abbrev pub invariant-loop-other : goal.invariant-loop-other
invariant-loop-other l = list_any (same_pair l.pair) l.others ≡ list_any (same_pair l.pair) (drop l.other-index l.others)

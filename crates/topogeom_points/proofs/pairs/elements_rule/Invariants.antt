use Rattle.std.proofs.Common.{◌≡◌, [], take, drop}
use Rattle.drawing.specs.Layers.{elements_rule}
use Rattle.drawing.specs.Tables.{drawn}
use Rattle.topogeom_points.proofs.pairs.elements_rule.Given as goal

-- no rule refuses one of the elements before this place
abbrev pub invariant-loop-place : goal.invariant-loop-place
invariant-loop-place g l =
    elements_rule (drawn l.tables.rows) l.layer [] l.pairs ≡ elements_rule (drawn l.tables.rows) l.layer (take l.place l.pairs) (drop l.place l.pairs)

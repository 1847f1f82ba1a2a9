use Rattle.std.proofs.Common.{◌≡◌, ◌++◌, ◌∷◌, map, take}
use Rattle.relation_rows.specs.Following.{row_goes, row_comes}
use Rattle.relation_rows.proofs.split.replace.Given as goal

-- the old row goes, and those of the elements so far come
abbrev pub invariant-loop-element : goal.invariant-loop-element
invariant-loop-element l = l.writes ≡ l.fn.writes ++ row_goes l.element_type l.old l.feature ∷ map (row_comes l.element_type l.feature) (take l.element-index l.new)
